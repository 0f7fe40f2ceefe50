-- Lemmas on trees alone.
use Rattle.std.proofs.Common.{◌≡◌, ◌≢◌, ℕ, ◌<◌, ◌≤◌, refl, ap, ◌∙◌, arith, IsTrue}
use Rattle.std.proofs.lemmas.Bool.{eq-eqb, ne_eqb}
use Rattle.gl_ranktree.specs.Summary.{Sums, AreSums}
use Rattle.gl_ranktree.specs.Tree.{Tree, leaf, fork, tree_size, tree_height, times, hit}

pub hit_same : (i : ℕ) → hit i i ≡ 1
unfolding hit
hit_same i = rw (eq-eqb i i refl)

pub hit_other : (i j : ℕ) → i ≢ j → hit i j ≡ 0
unfolding hit
hit_other i j ne = rw (ne_eqb i j ne)

-- a slot that is not hit is another
pub other_from_hit : (i j : ℕ) → hit i j ≡ 0 → j ≢ i
other_from_hit i j none same = absurd (omega (arith, hit_same i, ap (hit i) same))

module _ {S : Type 0} where
  pub times_root : (l : Tree S) (i : ℕ) (w : S) (r : Tree S) → 1 ≤ times i (fork l i w r)
  times_root l i w r = omega (arith, hit_same i)

  -- where one tree has a slot and the other has not, the slots differ
  pub other_slot : (i j : ℕ) (t : Tree S) → times i t ≡ 0 → 1 ≤ times j t → j ≢ i
  other_slot i j t none some same = absurd (omega (arith, ap (λ k. times k t) same))

  pub height-le-size : (t : Tree S) → tree_height t ≤ tree_size t
  height-le-size leaf = omega arith
  height-le-size (fork l i w r) = omega (arith, height-le-size l, height-le-size r)

-- a tree with an entry is no leaf
pub filled_from_place : {S : Type 0} (t : Tree S) (position : ℕ) → position < tree_size t → 1 ≤ tree_height t
filled_from_place leaf position within = absurd (omega (arith, within))
filled_from_place (fork l i w r) position within = omega arith

-- the sum that two steps of adding give, where the whole fits
pub sum_up : {S : Type 0} (m : Sums S) → AreSums m → (x w y s t a b : S) → (IsTrue (m.fits a) → x ≡ a) → (IsTrue (m.fits b) → y ≡ b) → (IsTrue (m.fits (m.plus x w)) → s ≡ m.plus x w) → (IsTrue (m.fits (m.plus s y)) → t ≡ m.plus s y) → IsTrue (m.fits (m.plus (m.plus a w) b)) → t ≡ m.plus (m.plus a w) b
sum_up m laws x w y s t a b x_is y_is s_is t_is whole =
    let prefix = laws.fits_left _ _ whole in
    let ex = x_is (laws.fits_left _ _ prefix) in
    let ey = y_is (laws.fits_right _ _ whole) in
    let es : s ≡ m.plus a w = s_is (rw ex prefix) ∙ ap (λ v. m.plus v w) ex in
    t_is (rw (es, ey) whole) ∙ (ap (λ v. m.plus v y) es ∙ ap (λ v. m.plus (m.plus a w) v) ey)
