-- The scans over the changed elements, seen as marks.
use Rattle.std.proofs.Common.{◌≡◌, ◌&&◌, ℕ, Bool, true, false, List, [], ◌∷◌, map, max, min, Option, Some, None, refl, ap}
use Rattle.std.specs.Prelude.{nat_lt, nat_le}
use Rattle.spec_sorting.specs.Moves.{both_flags}
use Rattle.spec_sorting.specs.Ranked.{prefix_marks, back_marks, least_some}
use Rattle.gl_arranged.specs.declared.changed.Ranked.{Ranked}
use Rattle.gl_sorted.specs.declared.leaving.Leaving.{Leaving}
use Rattle.gl_sorted.specs.Leaves.{prefix_scanned, back_scanned, least_new}

cons_same : {X : Type 0} (a b : X) (us vs : List X) → a ≡ b → us ≡ vs → a ∷ us ≡ b ∷ vs
cons_same a b us vs e f = cc

and_true : (b : Bool) → b ≡ (b && (true && true))
and_true true = refl
and_true false = refl

and_both : (k a b c : Bool) → b ≡ c → ((k && a) && b) ≡ (k && (a && c))
and_both true a b c e = ap (λ t. a && t) e
and_both false a b c e = refl

-- a changed element, by whether it stays and where its partner stands
abbrev pub leaf : (Ranked → Option ℕ) → (Ranked → Bool) → Ranked → Leaving
leaf new k r = record { place = r.place; source = r.source; new = new r; stays = k r }

abbrev pub flagged : List Leaving → List Bool → List Leaving
flagged [] bs = []
flagged (l ∷ ls) [] = []
flagged (l ∷ ls) (b ∷ bs) = record { place = l.place; source = l.source; new = l.new; stays = b } ∷ flagged ls bs

abbrev pub news_of : List Leaving → List (Option ℕ)
news_of ls = map (λ l. l.new) ls

abbrev pub stays_of : List Leaving → List Bool
stays_of ls = map (λ l. l.stays) ls

least_is : (top greatest : ℕ) (ls : List Leaving) → least_new top (prefix_scanned greatest ls) ≡ least_some top (news_of ls)
least_is top greatest [] = refl
least_is top greatest (l ∷ ls) = by l.place l.source l.stays l.new (λ g. least_is top g ls)
  where
    by : (p s : ℕ) (k : Bool) (n : Option ℕ) → ((g : ℕ) → least_new top (prefix_scanned g ls) ≡ least_some top (news_of ls))
        → least_new top (prefix_scanned greatest (record { place = p; source = s; new = n; stays = k } ∷ ls)) ≡ least_some top (n ∷ news_of ls)
    by p s k None more = more greatest
    by p s k (Some n) more = ap (min n) (more (max greatest n))

pub scans_are : (top greatest : ℕ) (ls : List Leaving) → back_scanned top (prefix_scanned greatest ls)
    ≡ flagged ls (both_flags (stays_of ls) (both_flags (prefix_marks greatest (news_of ls)) (back_marks top (news_of ls))))
scans_are top greatest [] = refl
scans_are top greatest (l ∷ ls) = by l.place l.source l.stays l.new (λ g. scans_are top g ls)
  where
    by : (p s : ℕ) (k : Bool) (n : Option ℕ)
        → ((g : ℕ) → back_scanned top (prefix_scanned g ls) ≡ flagged ls (both_flags (stays_of ls) (both_flags (prefix_marks g (news_of ls)) (back_marks top (news_of ls)))))
        → back_scanned top (prefix_scanned greatest (record { place = p; source = s; new = n; stays = k } ∷ ls))
        ≡ flagged (record { place = p; source = s; new = n; stays = k } ∷ ls) (both_flags (k ∷ stays_of ls) (both_flags (prefix_marks greatest (n ∷ news_of ls)) (back_marks top (n ∷ news_of ls))))
    by p s k None more = cons_same _ _ _ _ (ap (λ b. record { place = p; source = s; new = None; stays = b }) (and_true k)) (more greatest)
    by p s k (Some n) more =
        cons_same _ _ _ _
        (ap (λ b. record { place = p; source = s; new = Some n; stays = b })
        (and_both k (nat_le greatest n) (nat_lt n (least_new top (prefix_scanned (max greatest n) ls))) (nat_lt n (least_some top (news_of ls))) (ap (nat_lt n) (least_is top (max greatest n) ls))))
        (more (max greatest n))

-- the same elements, by another test
pub flags_are : (new : Ranked → Option ℕ) (k s : Ranked → Bool) (rs : List Ranked) → flagged (map (leaf new k) rs) (map s rs) ≡ map (leaf new s) rs
flags_are new k s [] = refl
flags_are new k s (r ∷ rs) = ap (λ ls. leaf new s r ∷ ls) (flags_are new k s rs)

pub news_are : (new : Ranked → Option ℕ) (k : Ranked → Bool) (rs : List Ranked) → news_of (map (leaf new k) rs) ≡ map new rs
news_are new k [] = refl
news_are new k (r ∷ rs) = ap (λ ns. new r ∷ ns) (news_are new k rs)

pub stays_are : (new : Ranked → Option ℕ) (k : Ranked → Bool) (rs : List Ranked) → stays_of (map (leaf new k) rs) ≡ map k rs
stays_are new k [] = refl
stays_are new k (r ∷ rs) = ap (λ bs. k r ∷ bs) (stays_are new k rs)
