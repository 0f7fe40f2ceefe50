-- What is true of each pair of a delta, and of each two of them.
use Rattle.std.proofs.Common.{◌≡◌, ◌∙◌, ℕ, suc, ◌+◌, ◌<◌, ◌≤◌, Bool, true, false, List, [], ◌∷◌, map, refl, ap, sym, arith, inl, inr}
use Rattle.std.specs.Prelude.{nat_lt, not, filter}
use Rattle.std.specs.List.{AllByRecursion as Each}
use Rattle.std.proofs.lemmas.Bool.{cases_Bool, lt-ltb, le-ltb}
use Rattle.spec_value.specs.Tree.{Tree}
use Rattle.spec_lists.specs.Piece.{Piece, kept, updated, deleted, inserted, inverted, old_len, new_len}
use Rattle.spec_lists.specs.Pairs.{Pair, pairs_from, pairs, IsIncreasing}
use Rattle.spec_lists.specs.Leads.{LeadsFrom, applied}
use Rattle.spec_lists.proofs.Pairs.{sides_tell_pairs}
use Rattle.spec_views.specs.Source.{element_at}
use Rattle.spec_views.proofs.SortedPositions.{In}
use Rattle.spec_sorting.specs.Moves.{changed_olds, changed_news}
use Rattle.spec_sorting.proofs.Counts.{plain_olds}

pub each_weaker : {X : Type 0} (P Q : X → Type 0) → ((x : X) → P x → Q x) → (xs : List X) → Each P xs → Each Q xs
each_weaker P Q weaker [] e = tt
each_weaker P Q weaker (x ∷ xs) e = (weaker x e.0, each_weaker P Q weaker xs e.1)

pub each_both : {X : Type 0} (P Q R : X → Type 0) → ((x : X) → P x → Q x → R x) → (xs : List X) → Each P xs → Each Q xs → Each R xs
each_both P Q R both [] e f = tt
each_both P Q R both (x ∷ xs) e f = (both x e.0 f.0, each_both P Q R both xs e.1 f.1)

pub each_filter : {X : Type 0} (P : X → Type 0) (test : X → Bool) (xs : List X) → Each P xs → Each (λ x. P x × (test x ≡ true)) (filter test xs)
each_filter P test [] e = tt
each_filter P test (x ∷ xs) e = elim (cases_Bool (test x)) [
  | inl passes ↦ rw passes ((e.0, passes), each_filter P test xs e.1)
  | inr fails ↦ rw fails (each_filter P test xs e.1)
]

-- Two pairs stand in one order on both sides, and one element is of one pair.
pub record AreOrdered (p q : Pair) : Type 0 where
  pub side : nat_lt p.old q.old ≡ nat_lt p.new q.new
  pub side_back : nat_lt q.old p.old ≡ nat_lt q.new p.new
  pub old_same : p.old ≡ q.old → p ≡ q
  pub new_same : p.new ≡ q.new → p ≡ q

ordered_itself : (p : Pair) → AreOrdered p p
ordered_itself p = record {
  side = le-ltb p.old p.old (omega arith) ∙ sym (le-ltb p.new p.new (omega arith));
  side_back = le-ltb p.old p.old (omega arith) ∙ sym (le-ltb p.new p.new (omega arith));
  old_same = λ e. refl;
  new_same = λ e. refl;
}

ordered_after : (p q : Pair) → suc p.old ≤ q.old → suc p.new ≤ q.new → AreOrdered p q
ordered_after p q less less_too = record {
  side = lt-ltb p.old q.old less ∙ sym (lt-ltb p.new q.new less_too);
  side_back = le-ltb q.old p.old (omega (arith, less)) ∙ sym (le-ltb q.new p.new (omega (arith, less_too)));
  old_same = λ e. absurd (omega (arith, less, e));
  new_same = λ e. absurd (omega (arith, less_too, e));
}

ordered_before : (p q : Pair) → suc p.old ≤ q.old → suc p.new ≤ q.new → AreOrdered q p
ordered_before p q less less_too = record {
  side = le-ltb q.old p.old (omega (arith, less)) ∙ sym (le-ltb q.new p.new (omega (arith, less_too)));
  side_back = lt-ltb p.old q.old less ∙ sym (lt-ltb p.new q.new less_too);
  old_same = λ e. absurd (omega (arith, less, e));
  new_same = λ e. absurd (omega (arith, less_too, e));
}

-- pairs that rise are from their first places on
pub from_positions : (i j a b : ℕ) (ps : List Pair) → a ≤ i → b ≤ j → IsIncreasing i j ps → Each (λ p. (a ≤ p.old) × (b ≤ p.new)) ps
from_positions i j a b [] less less_too rise = tt
from_positions i j a b (p ∷ ps) less less_too rise = (
  (omega (arith, less, rise.0), omega (arith, less_too, rise.1)),
  from_positions (suc p.old) (suc p.new) a b ps (omega (arith, less, rise.0)) (omega (arith, less_too, rise.1)) rise.2,
)

increasing_ordered : (i j : ℕ) (ps : List Pair) → IsIncreasing i j ps → Each (λ p. Each (AreOrdered p) ps) ps
increasing_ordered i j [] rise = tt
increasing_ordered i j (p ∷ ps) rise =
    let after = from_positions (suc p.old) (suc p.new) (suc p.old) (suc p.new) ps (omega arith) (omega arith) rise.2 in
    let P : Pair → Type 0 = λ q. (suc p.old ≤ q.old) × (suc p.new ≤ q.new) in (
      (ordered_itself p, each_weaker P (AreOrdered p) (λ q h. ordered_after p q h.0 h.1) ps after),
      each_both P (λ q. Each (AreOrdered q) ps) (λ q. AreOrdered q p × Each (AreOrdered q) ps) (λ q h e. (ordered_before p q h.0 h.1, e)) ps after (increasing_ordered (suc p.old) (suc p.new) ps rise.2),
    )

pub pairs_ordered : (d : List Piece) → Each (λ p. Each (AreOrdered p) (pairs d)) (pairs d)
pairs_ordered d = increasing_ordered 0 0 (pairs d) (sides_tell_pairs d).increasing

-- The elements of a pair: they are within both lists, a plain pair has one value, and an updated one is a changed
-- element on both sides.
pub record IsPaired (old new : ℕ → Tree) (old_end new_end : ℕ) (gone come : List ℕ) (p : Pair) : Type 0 where
  pub old_within : p.old < old_end
  pub new_within : p.new < new_end
  pub same : p.updated ≡ false → old p.old ≡ new p.new
  pub changed_old : p.updated ≡ true → In p.old gone
  pub changed_new : p.updated ≡ true → In p.new come

more_gone : (old new : ℕ → Tree) (m n x : ℕ) (gone come : List ℕ) (p : Pair) → IsPaired old new m n gone come p → IsPaired old new m n (x ∷ gone) come p
more_gone old new m n x gone come p h = record {
  old_within = h.old_within;
  new_within = h.new_within;
  same = h.same;
  changed_old = λ e. inr (h.changed_old e);
  changed_new = h.changed_new;
}

more_come : (old new : ℕ → Tree) (m n x : ℕ) (gone come : List ℕ) (p : Pair) → IsPaired old new m n gone come p → IsPaired old new m n gone (x ∷ come) p
more_come old new m n x gone come p h = record {
  old_within = h.old_within;
  new_within = h.new_within;
  same = h.same;
  changed_old = h.changed_old;
  changed_new = λ e. inr (h.changed_new e);
}

-- the elements of a list after its first
pub remaining : (value : ℕ → Tree) (i : ℕ) (x : Tree) (xs : List Tree) → ((k : ℕ) → value (i + k) ≡ element_at (x ∷ xs) k)
    → (k : ℕ) → value (suc i + k) ≡ element_at xs k
remaining value i x xs is k = let e : suc i + k ≡ i + suc k = omega arith in ap value e ∙ is (suc k)

pub first : (value : ℕ → Tree) (i : ℕ) (x : Tree) (xs : List Tree) → ((k : ℕ) → value (i + k) ≡ element_at (x ∷ xs) k) → value i ≡ x
first value i x xs is = let e : i ≡ i + 0 = omega arith in ap value e ∙ is 0

module _ (old new : ℕ → Tree) (m n : ℕ) where
  paired_from : (i j : ℕ) (ps : List Piece) (xs : List Tree) → LeadsFrom ps xs
      → ((k : ℕ) → old (i + k) ≡ element_at xs k) → ((k : ℕ) → new (j + k) ≡ element_at (applied ps xs) k)
      → i + old_len ps ≤ m → j + new_len ps ≤ n
      → Each (IsPaired old new m n (changed_olds i ps) (changed_news j ps)) (pairs_from i j ps)
  paired_from i j [] xs leads is to less less_too = tt
  paired_from i j (kept ∷ ps) [] leads is to less less_too = absurd leads
  paired_from i j (kept ∷ ps) (x ∷ xs) leads is to less less_too = (
    record {
      old_within = omega (arith, less);
      new_within = omega (arith, less_too);
      same = λ e. first old i x xs is ∙ sym (first new j x (applied ps xs) to);
      changed_old = λ e. absurd (true_false e);
      changed_new = λ e. absurd (true_false e);
    },
    paired_from (suc i) (suc j) ps xs leads (remaining old i x xs is) (remaining new j x (applied ps xs) to) (omega (arith, less)) (omega (arith, less_too)),
  )
    where
      true_false : false ≡ true → ⊥
      true_false e = absurd cc
  paired_from i j (updated v w ∷ ps) [] leads is to less less_too = absurd leads
  paired_from i j (updated v w ∷ ps) (x ∷ xs) leads is to less less_too = (
    record {
      old_within = omega (arith, less);
      new_within = omega (arith, less_too);
      same = λ e. absurd (true_false e);
      changed_old = λ e. inl refl;
      changed_new = λ e. inl refl;
    },
    each_weaker _ _ (λ p h. more_come old new m n j (i ∷ changed_olds (suc i) ps) (changed_news (suc j) ps) p (more_gone old new m n i (changed_olds (suc i) ps) (changed_news (suc j) ps) p h)) (pairs_from (suc i) (suc j) ps)
        (paired_from (suc i) (suc j) ps xs leads.1 (remaining old i x xs is) (remaining new j w (applied ps xs) to) (omega (arith, less)) (omega (arith, less_too))),
  )
    where
      true_false : true ≡ false → ⊥
      true_false e = absurd cc
  paired_from i j (deleted v ∷ ps) [] leads is to less less_too = absurd leads
  paired_from i j (deleted v ∷ ps) (x ∷ xs) leads is to less less_too =
      each_weaker _ _ (more_gone old new m n i (changed_olds (suc i) ps) (changed_news j ps)) (pairs_from (suc i) j ps)
      (paired_from (suc i) j ps xs leads.1 (remaining old i x xs is) to (omega (arith, less)) less_too)
  paired_from i j (inserted w ∷ ps) xs leads is to less less_too =
      each_weaker _ _ (more_come old new m n j (changed_olds i ps) (changed_news (suc j) ps)) (pairs_from i (suc j) ps)
      (paired_from i (suc j) ps xs leads is (remaining new j w (applied ps xs) to) less (omega (arith, less_too)))

-- the pairs of a delta between two lists
pub pairs_are : (d : List Piece) (xs : List Tree) → LeadsFrom d xs
    → Each (IsPaired (element_at xs) (element_at (applied d xs)) (old_len d) (new_len d) (changed_olds 0 d) (changed_news 0 d)) (pairs d)
pairs_are d xs leads =
    paired_from (element_at xs) (element_at (applied d xs)) (old_len d) (new_len d) 0 0 d xs leads (whole xs) (whole (applied d xs)) (omega arith) (omega arith)
  where
    whole : (us : List Tree) (k : ℕ) → element_at us (0 + k) ≡ element_at us k
    whole us k = let e : 0 + k ≡ k = omega arith in ap (element_at us) e

-- the plain pairs are those of the plain elements
pub plain_olds_are : (i j : ℕ) (ps : List Piece) → map (λ p. p.old) (filter (λ p. not p.updated) (pairs_from i j ps)) ≡ plain_olds i ps
plain_olds_are i j [] = refl
plain_olds_are i j (kept ∷ ps) = ap (λ is. i ∷ is) (plain_olds_are (suc i) (suc j) ps)
plain_olds_are i j (updated v w ∷ ps) = plain_olds_are (suc i) (suc j) ps
plain_olds_are i j (deleted v ∷ ps) = plain_olds_are (suc i) j ps
plain_olds_are i j (inserted w ∷ ps) = plain_olds_are i (suc j) ps

pub plain_news_are : (i j : ℕ) (ps : List Piece) → map (λ p. p.new) (filter (λ p. not p.updated) (pairs_from i j ps)) ≡ plain_olds j (map inverted ps)
plain_news_are i j [] = refl
plain_news_are i j (kept ∷ ps) = ap (λ is. j ∷ is) (plain_news_are (suc i) (suc j) ps)
plain_news_are i j (updated v w ∷ ps) = plain_news_are (suc i) (suc j) ps
plain_news_are i j (deleted v ∷ ps) = plain_news_are (suc i) j ps
plain_news_are i j (inserted w ∷ ps) = plain_news_are i (suc j) ps

pub each_true : {X : Type 0} (P : X → Type 0) → ((x : X) → P x) → (xs : List X) → Each P xs
each_true P h [] = tt
each_true P h (x ∷ xs) = (h x, each_true P h xs)

-- of each of two lists
pub each_turned : {X Y : Type 0} (R : X → Y → Type 0) (xs : List X) (ys : List Y) → Each (λ x. Each (R x) ys) xs → Each (λ y. Each (λ x. R x y) xs) ys
each_turned R [] ys h = each_true _ (λ y. tt) ys
each_turned R (x ∷ xs) ys h = each_both (R x) (λ y. Each (λ u. R u y) xs) (λ y. R x y × Each (λ u. R u y) xs) (λ y a b. (a, b)) ys h.0 (each_turned R xs ys h.1)
