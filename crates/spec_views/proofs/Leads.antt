-- What is told of chosen elements leads from the old view to the new one.
use Rattle.std.proofs.Common.{◌≡◌, ◌∙◌, ℕ, suc, Bool, true, false, List, [], ◌∷◌, refl, ap, sym, subst}
use Rattle.std.specs.Prelude.{filter}
use Rattle.spec_value.specs.Tree.{Tree}
use Rattle.spec_lists.specs.Piece.{Piece, kept, updated, deleted, inserted}
use Rattle.spec_lists.specs.Leads.{LeadsFrom, applied, IsDelta}
use Rattle.spec_lists.proofs.DeltaLeads.{normal_leads}
use Rattle.spec_views.specs.Chosen.{Choice, chosen, chosen_from, told_of_pair, told_of_old, told_of_new, told_from, follow_chosen}
use Rattle.spec_views.specs.Filter.{by_value, filter_view, filter_follow}
use Rattle.spec_lists.proofs.Made.{between}

-- an element before the others, where it is shown
abbrev first : Bool → Tree → List Tree → List Tree
first true x xs = x ∷ xs
first false x xs = xs

chosen_first : (shows : Choice) (i : ℕ) (x : Tree) (xs : List Tree) → chosen_from shows i (x ∷ xs) ≡ first (shows i x) x (chosen_from shows (suc i) xs)
chosen_first shows i x xs = by_case (shows i x) refl
  where
    by_case : (t : Bool) → shows i x ≡ t → chosen_from shows i (x ∷ xs) ≡ first (shows i x) x (chosen_from shows (suc i) xs)
    by_case true e = rw e refl
    by_case false e = rw e refl

kept_leads : (t u : Bool) (x : Tree) (ps : List Piece) (xs ys : List Tree) → IsDelta ps xs ys → IsDelta (told_of_pair t u kept x x ps) (first t x xs) (first u x ys)
kept_leads true true x ps xs ys h = record { starts = h.starts; ends = ap (λ zs. x ∷ zs) h.ends }
kept_leads true false x ps xs ys h = record { starts = (refl, h.starts); ends = h.ends }
kept_leads false true x ps xs ys h = record { starts = h.starts; ends = ap (λ zs. x ∷ zs) h.ends }
kept_leads false false x ps xs ys h = h

updated_leads : (t u : Bool) (v w : Tree) (ps : List Piece) (xs ys : List Tree) → IsDelta ps xs ys → IsDelta (told_of_pair t u (updated v w) v w ps) (first t v xs) (first u w ys)
updated_leads true true v w ps xs ys h = record { starts = (refl, h.starts); ends = ap (λ zs. w ∷ zs) h.ends }
updated_leads true false v w ps xs ys h = record { starts = (refl, h.starts); ends = h.ends }
updated_leads false true v w ps xs ys h = record { starts = h.starts; ends = ap (λ zs. w ∷ zs) h.ends }
updated_leads false false v w ps xs ys h = h

deleted_leads : (t : Bool) (v : Tree) (ps : List Piece) (xs ys : List Tree) → IsDelta ps xs ys → IsDelta (told_of_old t v ps) (first t v xs) ys
deleted_leads true v ps xs ys h = record { starts = (refl, h.starts); ends = h.ends }
deleted_leads false v ps xs ys h = h

inserted_leads : (u : Bool) (w : Tree) (ps : List Piece) (xs ys : List Tree) → IsDelta ps xs ys → IsDelta (told_of_new u w ps) xs (first u w ys)
inserted_leads true w ps xs ys h = record { starts = h.starts; ends = ap (λ zs. w ∷ zs) h.ends }
inserted_leads false w ps xs ys h = h

told_leads : (before after : Choice) (i j : ℕ) (xs : List Tree) (ps : List Piece) → LeadsFrom ps xs
    → IsDelta (told_from before after i j xs ps) (chosen_from before i xs) (chosen_from after j (applied ps xs))
told_leads before after i j [] [] h = record { starts = tt; ends = refl }
told_leads before after i j (x ∷ xs) [] h = absurd h
told_leads before after i j [] (kept ∷ ps) h = absurd h
told_leads before after i j (x ∷ xs) (kept ∷ ps) h =
    between (kept_leads (before i x) (after j x) x _ _ _ (told_leads before after (suc i) (suc j) xs ps h))
    (chosen_first before i x xs) (chosen_first after j x (applied ps xs))
told_leads before after i j [] (updated v w ∷ ps) h = absurd h
told_leads before after i j (x ∷ xs) (updated v w ∷ ps) h =
    between (updated_leads (before i v) (after j w) v w _ _ _ (told_leads before after (suc i) (suc j) xs ps h.1))
    (ap (λ u. chosen_from before i (u ∷ xs)) h.0 ∙ chosen_first before i v xs) (chosen_first after j w (applied ps xs))
told_leads before after i j [] (deleted v ∷ ps) h = absurd h
told_leads before after i j (x ∷ xs) (deleted v ∷ ps) h =
    between (deleted_leads (before i v) v _ _ _ (told_leads before after (suc i) j xs ps h.1))
    (ap (λ u. chosen_from before i (u ∷ xs)) h.0 ∙ chosen_first before i v xs) refl
told_leads before after i j xs (inserted w ∷ ps) h =
    between (inserted_leads (after j w) w _ _ _ (told_leads before after i (suc j) xs ps h))
    refl (chosen_first after j w (applied ps xs))

-- the change of a list that shows chosen elements leads from what it showed to what it shows
pub chosen_leads : (before after : Choice) (ps : List Piece) (xs ys : List Tree) → IsDelta ps xs ys → IsDelta (follow_chosen before after xs ps) (chosen before xs) (chosen after ys)
chosen_leads before after ps xs ys h = normal_leads _ _ _ (between (told_leads before after 0 0 xs ps h.starts) refl (ap (chosen after) h.ends))

-- the elements chosen by their value are those that a filter shows
pub chosen_by_value : (accepts : Tree → Bool) (i : ℕ) (xs : List Tree) → chosen_from (by_value accepts) i xs ≡ filter accepts xs
chosen_by_value accepts i [] = refl
chosen_by_value accepts i (x ∷ xs) = by_case (accepts x) refl (chosen_by_value accepts (suc i) xs)
  where
    by_case : (t : Bool) → accepts x ≡ t → chosen_from (by_value accepts) (suc i) xs ≡ filter accepts xs → chosen_from (by_value accepts) i (x ∷ xs) ≡ filter accepts (x ∷ xs)
    by_case true e others = rw e (ap (λ zs. x ∷ zs) others)
    by_case false e others = rw e others

-- so the change of a filter leads from its old view to its new one
pub filter_leads : (accepts : Tree → Bool) (ps : List Piece) (xs ys : List Tree) → IsDelta ps xs ys → IsDelta (filter_follow accepts xs ps) (filter_view accepts xs) (filter_view accepts ys)
filter_leads accepts ps xs ys h =
    between (chosen_leads (by_value accepts) (by_value accepts) ps xs ys h) (sym (chosen_by_value accepts 0 xs)) (sym (chosen_by_value accepts 0 ys))
