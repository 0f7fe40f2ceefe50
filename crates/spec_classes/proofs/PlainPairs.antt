-- The plain pairs of a delta, found by either place.
use Rattle.std.proofs.Common.{◌≡◌, ◌∙◌, ℕ, zero, suc, ◌+◌, ◌<◌, ◌==◌, ◌&&◌, ◌||◌, Bool, true, false, List, [], ◌∷◌, refl, ap, sym, arith}
use Rattle.std.specs.Prelude.{not, nat_lt, slice_get}
use Rattle.std.specs.List.{list_any, AllByRecursion as Each}
use Rattle.std.proofs.lemmas.Bool.{eq-eqb, ne_eqb, eqb-true}
use Rattle.spec_value.specs.Tree.{Tree}
use Rattle.spec_lists.specs.Piece.{old_len, new_len}
use Rattle.spec_lists.specs.Pairs.{Pair, pairs, pairs_of_old}
use Rattle.spec_lists.specs.Sides.{Item, plain, changed, lone, sides}
use Rattle.spec_lists.specs.Delta.{Delta}
use Rattle.spec_lists.specs.Leads.{LeadsFrom, applied}
use Rattle.spec_lists.proofs.Pairs.{sides_tell_pairs}
use Rattle.spec_views.specs.Source.{element_at}
use Rattle.spec_views.specs.Classes.{is_kept_old, is_kept_new, is_plain_pair}
use Rattle.spec_sorting.proofs.Partners.{pairs_are, pairs_ordered}
use Rattle.spec_classes.specs.Slots.{read_by, read_after}
use Rattle.spec_classes.specs.Told.{is_still}

-- a pair that passes a test
record Passes (P : Pair → Type 0) (test : Pair → Bool) : Type 0 where
  pair : Pair
  holds : P pair
  passes : test pair ≡ true

passing : (P : Pair → Type 0) (test : Pair → Bool) (ps : List Pair) → Each P ps → list_any test ps ≡ true → Passes P test
passing P test [] e any = absurd cc
passing P test (p ∷ ps) e any = by (test p) refl (passing P test ps e.1)
  where
    by : (t : Bool) → test p ≡ t → (list_any test ps ≡ true → Passes P test) → Passes P test
    by true is later = record { pair = p; holds = e.0; passes = is }
    by false is later = later (sym (ap (λ u. u || list_any test ps) is) ∙ any)

any_pass : (test other : Pair → Bool) → ((p : Pair) → test p ≡ true → other p ≡ true) → (ps : List Pair) → list_any test ps ≡ true → list_any other ps ≡ true
any_pass test other to [] any = absurd cc
any_pass test other to (p ∷ ps) any = by (test p) refl (any_pass test other to ps)
  where
    first : (t u : Bool) → t ≡ true → (t || u) ≡ true
    first true u e = refl
    first false u e = absurd cc

    second : (t u : Bool) → u ≡ true → (t || u) ≡ true
    second true u e = refl
    second false u e = e

    by : (t : Bool) → test p ≡ t → (list_any test ps ≡ true → list_any other ps ≡ true) → list_any other (p ∷ ps) ≡ true
    by true is later = first (other p) (list_any other ps) (to p is)
    by false is later = second (other p) (list_any other ps) (later (sym (ap (λ u. u || list_any test ps) is) ∙ any))

both_parts : (t u : Bool) → (t && u) ≡ true → (t ≡ true) × (u ≡ true)
both_parts true u e = (refl, e)
both_parts false u e = absurd cc

all_three : (t u v : Bool) → t ≡ true → u ≡ true → v ≡ true → (t && (u && v)) ≡ true
all_three t u v e f g = rw (e, f, g) refl

is_at : (i j : ℕ) → (i == j) ≡ true → i ≡ j
is_at i j e = eqb-true i j e

-- the plain pair between two places
pub record IsPlain (P : Pair → Type 0) (i j : ℕ) : Type 0 where
  pub pair : Pair
  pub holds : P pair
  pub old_is : pair.old ≡ i
  pub new_is : pair.new ≡ j
  pub is_plain : pair.updated ≡ false

not_updated : (t : Bool) → not t ≡ true → t ≡ false
not_updated true e = absurd cc
not_updated false e = refl

pub plain_found : (P : Pair → Type 0) (ps : List Pair) → Each P ps → (i j : ℕ) → is_plain_pair ps i j ≡ true → IsPlain P i j
plain_found P ps e i j any =
    let f = passing P (λ p. (p.old == i) && ((p.new == j) && not p.updated)) ps e any in
    let both = both_parts (f.pair.old == i) ((f.pair.new == j) && not f.pair.updated) f.passes in
    let others = both_parts (f.pair.new == j) (not f.pair.updated) both.1 in
    record {
      pair = f.pair;
      holds = f.holds;
      old_is = is_at f.pair.old i both.0;
      new_is = is_at f.pair.new j others.0;
      is_plain = not_updated f.pair.updated others.1;
    }

-- an element that is kept has a partner
pub partner_of_old : (ps : List Pair) (i : ℕ) → is_kept_old ps i ≡ true → (j : ℕ) × (is_plain_pair ps i j ≡ true)
partner_of_old [] i any = absurd cc
partner_of_old (p ∷ ps) i any = by ((p.old == i) && not p.updated) refl (partner_of_old ps i)
  where
    second : (t u : Bool) → u ≡ true → (t || u) ≡ true
    second true u e = refl
    second false u e = e

    first : (t u : Bool) → t ≡ true → (t || u) ≡ true
    first true u e = refl
    first false u e = absurd cc

    by : (t : Bool) → ((p.old == i) && not p.updated) ≡ t → (is_kept_old ps i ≡ true → (j : ℕ) × (is_plain_pair ps i j ≡ true))
        → (j : ℕ) × (is_plain_pair (p ∷ ps) i j ≡ true)
    by true is later =
        let both = both_parts (p.old == i) (not p.updated) is in
        (p.new, first ((p.old == i) && ((p.new == p.new) && not p.updated)) (is_plain_pair ps i p.new) (all_three _ _ _ both.0 (eq-eqb p.new p.new refl) both.1))
    by false is later =
        let more = later (sym (ap (λ u. u || is_kept_old ps i) is) ∙ any) in
        (more.0, second ((p.old == i) && ((p.new == more.0) && not p.updated)) (is_plain_pair ps i more.0) more.1)

pub partner_of_new : (ps : List Pair) (j : ℕ) → is_kept_new ps j ≡ true → (i : ℕ) × (is_plain_pair ps i j ≡ true)
partner_of_new [] j any = absurd cc
partner_of_new (p ∷ ps) j any = by ((p.new == j) && not p.updated) refl (partner_of_new ps j)
  where
    second : (t u : Bool) → u ≡ true → (t || u) ≡ true
    second true u e = refl
    second false u e = e

    first : (t u : Bool) → t ≡ true → (t || u) ≡ true
    first true u e = refl
    first false u e = absurd cc

    by : (t : Bool) → ((p.new == j) && not p.updated) ≡ t → (is_kept_new ps j ≡ true → (i : ℕ) × (is_plain_pair ps i j ≡ true))
        → (i : ℕ) × (is_plain_pair (p ∷ ps) i j ≡ true)
    by true is later =
        let both = both_parts (p.new == j) (not p.updated) is in
        (p.old, first ((p.old == p.old) && ((p.new == j) && not p.updated)) (is_plain_pair ps p.old j) (all_three _ _ _ (eq-eqb p.old p.old refl) both.0 both.1))
    by false is later =
        let more = later (sym (ap (λ u. u || is_kept_new ps j) is) ∙ any) in
        (more.0, second ((p.old == more.0) && ((p.new == j) && not p.updated)) (is_plain_pair ps more.0 j) more.1)

pub kept_by_old : (ps : List Pair) (i j : ℕ) → is_plain_pair ps i j ≡ true → is_kept_old ps i ≡ true
kept_by_old ps i j any =
    any_pass (λ p. (p.old == i) && ((p.new == j) && not p.updated)) (λ p. (p.old == i) && not p.updated)
    (λ p e. let both = both_parts (p.old == i) ((p.new == j) && not p.updated) e in let others = both_parts (p.new == j) (not p.updated) both.1 in rw (both.0, others.1) refl) ps any

pub kept_by_new : (ps : List Pair) (i j : ℕ) → is_plain_pair ps i j ≡ true → is_kept_new ps j ≡ true
kept_by_new ps i j any =
    any_pass (λ p. (p.old == i) && ((p.new == j) && not p.updated)) (λ p. (p.new == j) && not p.updated)
    (λ p e. let both = both_parts (p.old == i) ((p.new == j) && not p.updated) e in both.1) ps any

module _ (d : Delta) (xs : List Tree) (leads : LeadsFrom d xs) where
  -- both elements of a plain pair are one value, and within their lists
  pub record IsOne (i j : ℕ) : Type 0 where
    pub old_within : i < old_len d
    pub new_within : j < new_len d
    pub same : element_at xs i ≡ element_at (applied d xs) j

  pub plain_one : (i j : ℕ) → is_plain_pair (pairs d) i j ≡ true → IsOne i j
  plain_one i j any =
      let f = plain_found _ (pairs d) (pairs_are d xs leads) i j any in record {
        old_within = let low = f.holds.old_within in omega (arith, low, f.old_is);
        new_within = let low = f.holds.new_within in omega (arith, low, f.new_is);
        same = ap (element_at xs) (sym f.old_is) ∙ (f.holds.same f.is_plain ∙ ap (element_at (applied d xs)) f.new_is);
      }

-- two plain pairs stand in one order on both sides
pub record InOrder (i j k l : ℕ) : Type 0 where
  pub side : nat_lt i k ≡ nat_lt j l
  pub old_same : i ≡ k → j ≡ l
  pub new_same : j ≡ l → i ≡ k

pub plain_order : (d : Delta) (i j k l : ℕ) → is_plain_pair (pairs d) i j ≡ true → is_plain_pair (pairs d) k l ≡ true → InOrder i j k l
plain_order d i j k l any any_too =
    let f = plain_found _ (pairs d) (pairs_ordered d) i j any in
    let g = plain_found _ (pairs d) f.holds k l any_too in
    record {
      side = ap (λ n. nat_lt n k) (sym f.old_is) ∙ (ap (λ n. nat_lt f.pair.old n) (sym g.old_is) ∙ (g.holds.side ∙ (ap (λ n. nat_lt n g.pair.new) f.new_is ∙ ap (nat_lt j) g.new_is)));
      old_same = λ e. sym f.new_is ∙ (ap (λ (p : Pair). p.new) (g.holds.old_same (f.old_is ∙ (e ∙ sym g.old_is))) ∙ g.new_is);
      new_same = λ e. sym f.old_is ∙ (ap (λ (p : Pair). p.old) (g.holds.new_same (f.new_is ∙ (e ∙ sym g.new_is))) ∙ g.old_is);
    }

-- no pair of the elements from a place on is of one before it
low_none : (a m j : ℕ) (items : List Item) → a < m → is_plain_pair (pairs_of_old m items) a j ≡ false
low_none a m j [] less = refl
low_none a m j (plain k ∷ us) less = rw (ne_eqb m a (λ e. omega (arith, e, less))) (low_none a (suc m) j us (omega (arith, less)))
low_none a m j (changed k v ∷ us) less = rw (ne_eqb m a (λ e. omega (arith, e, less))) (low_none a (suc m) j us (omega (arith, less)))
low_none a m j (lone v ∷ us) less = low_none a (suc m) j us (omega (arith, less))

none_read : (n i j : ℕ) → false ≡ is_still (read_by n (slice_get [] i)) j
none_read n zero j = refl
none_read n (suc i) j = refl

read_items : (m n i j : ℕ) (items : List Item) → n ≡ m + i → is_plain_pair (pairs_of_old m items) n j ≡ is_still (read_by n (slice_get items i)) j
read_items m n i j [] at = none_read n i j
read_items m n zero j (plain k ∷ us) at =
    rw (eq-eqb m n (omega (arith, at)), low_none n (suc m) j us (omega (arith, at))) (by (k == j))
  where
    by : (t : Bool) → ((t && true) || false) ≡ t
    by true = refl
    by false = refl
read_items m n zero j (changed k v ∷ us) at =
    rw (eq-eqb m n (omega (arith, at)), low_none n (suc m) j us (omega (arith, at))) (by (k == j))
  where
    by : (t : Bool) → ((t && false) || false) ≡ false
    by true = refl
    by false = refl
read_items m n zero j (lone v ∷ us) at = low_none n (suc m) j us (omega (arith, at))
read_items m n (suc i) j (plain k ∷ us) at =
    rw (ne_eqb m n (λ e. omega (arith, e, at))) (read_items (suc m) n i j us (omega (arith, at)))
read_items m n (suc i) j (changed k v ∷ us) at =
    rw (ne_eqb m n (λ e. omega (arith, e, at))) (read_items (suc m) n i j us (omega (arith, at)))
read_items m n (suc i) j (lone v ∷ us) at = read_items (suc m) n i j us (omega (arith, at))

-- an old element is read as a plain one exactly where it is of that plain pair
pub still_plain : (d : Delta) (i j : ℕ) → is_still (read_after d i) j ≡ is_plain_pair (pairs d) i j
still_plain d i j =
    sym (ap (λ ps. is_plain_pair ps i j) (sym (sides_tell_pairs d).by_old) ∙ read_items 0 i i j (sides d).old (omega arith))
