-- The changes of a delta, replayed on the list that it starts from, give the list that it ends at.
use Rattle.std.proofs.Common.{◌≡◌, ◌∙◌, ℕ, suc, List, [], ◌∷◌, ◌++◌, length, drop, refl, ap, sym, arith, append_assoc}
use Rattle.std.specs.List.{insert, remove}
use Rattle.std.proofs.lemmas.List.{length_push, set_at, take_at, drop_at}
use Rattle.spec_value.specs.Tree.{Tree}
use Rattle.spec_lists.specs.Piece.{Piece, kept, updated, deleted, inserted}
use Rattle.spec_lists.specs.Leads.{LeadsFrom, applied}
use Rattle.spec_lists.specs.Changes.{changes_from, replay}
use Rattle.spec_lists.specs.Laws.{ReplayGivesNewList}

more : (left : List Tree) (x : Tree) (at : ℕ) → length left ≡ at → length (left ++ x ∷ []) ≡ suc at
more left x at e = length_push left x ∙ omega (arith, e)

insert_here : (left xs : List Tree) (w : Tree) (at : ℕ) → length left ≡ at → insert (left ++ xs) at w ≡ (left ++ w ∷ []) ++ xs
insert_here left xs w at e =
    joined _ _ _ _ (take_at left xs at e) (drop_at left xs at e) ∙ sym (append_assoc left (w ∷ []) xs)
  where
    joined : (a b c d : List Tree) → a ≡ b → c ≡ d → a ++ w ∷ c ≡ b ++ w ∷ d
    joined a b c d f g = cc

remove_here : (left xs : List Tree) (x : Tree) (at : ℕ) → length left ≡ at → remove (left ++ x ∷ xs) at ≡ left ++ xs
remove_here left xs x at e =
    joined _ _ _ _ (take_at left (x ∷ xs) at e) (ap (drop (suc at)) (sym (append_assoc left (x ∷ []) xs)) ∙ drop_at (left ++ x ∷ []) xs (suc at) (more left x at e))
  where
    joined : (a b c d : List Tree) → a ≡ b → c ≡ d → a ++ c ≡ b ++ d
    joined a b c d f g = cc

replayed : (ps : List Piece) (left xs : List Tree) (at : ℕ) → length left ≡ at → LeadsFrom ps xs → replay (changes_from at ps) (left ++ xs) ≡ left ++ applied ps xs
replayed [] left [] at e h = refl
replayed [] left (x ∷ xs) at e h = absurd h
replayed (kept ∷ ps) left [] at e h = absurd h
replayed (kept ∷ ps) left (x ∷ xs) at e h =
    ap (replay (changes_from (suc at) ps)) (sym (append_assoc left (x ∷ []) xs))
    ∙ (replayed ps (left ++ x ∷ []) xs (suc at) (more left x at e) h ∙ append_assoc left (x ∷ []) (applied ps xs))
replayed (updated v w ∷ ps) left [] at e h = absurd h
replayed (updated v w ∷ ps) left (x ∷ xs) at e h =
    ap (replay (changes_from (suc at) ps)) (set_at left x xs w at e ∙ sym (append_assoc left (w ∷ []) xs))
    ∙ (replayed ps (left ++ w ∷ []) xs (suc at) (more left w at e) h.1 ∙ append_assoc left (w ∷ []) (applied ps xs))
replayed (deleted v ∷ ps) left [] at e h = absurd h
replayed (deleted v ∷ ps) left (x ∷ xs) at e h =
    ap (replay (changes_from at ps)) (remove_here left xs x at e) ∙ replayed ps left xs at e h.1
replayed (inserted w ∷ ps) left xs at e h =
    ap (replay (changes_from (suc at) ps)) (insert_here left xs w at e)
    ∙ (replayed ps (left ++ w ∷ []) xs (suc at) (more left w at e) h ∙ append_assoc left (w ∷ []) (applied ps xs))

pub replay_gives_new_list : ReplayGivesNewList
replay_gives_new_list ps xs ys h = replayed ps [] xs 0 refl h.starts ∙ sym h.ends
