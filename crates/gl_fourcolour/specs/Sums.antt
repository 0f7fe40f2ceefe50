-- Laws of counts.
use Rattle.std.proofs.Common.{◌≡◌, ℕ, ◌+◌, ◌<◌, Bool, true, false, cond, refl, ap, ◌∙◌, arith, IsTrue}
use Rattle.std.proofs.lemmas.Bool.{ltb-true, lt-ltb}
use Rattle.gl_ranktree.specs.Summary.{Sums, AreSums}
use Rattle.gl_fourcolour.specs.Colours.{is_among}
use Rattle.gl_fourcolour.specs.Counts.{no_counts, plus_counts, fits_counts, total_of, weigh, part_of}
use Rattle.gl_fourcolour.specs.declared.counts.Counts.{Counts}

pub counts_same : (x y : Counts) → x.first ≡ y.first → x.second ≡ y.second → x.third ≡ y.third
    → x.fourth ≡ y.fourth → x ≡ y
counts_same x y a b c d =
    let make : ℕ → ℕ → ℕ → ℕ → Counts = λ p q r s. record { first = p; second = q; third = r; fourth = s } in
    ap (λ n. make n x.second x.third x.fourth) a
    ∙ (ap (λ n. make y.first n x.third x.fourth) b
    ∙ (ap (λ n. make y.first y.second n x.fourth) c
    ∙ ap (λ n. make y.first y.second y.third n) d))

abbrev pub counts_sums : Sums Counts
counts_sums = record { zero = no_counts; plus = plus_counts; fits = fits_counts }

pub fits-below : (c : Counts) → IsTrue (fits_counts c) → total_of c < 4294967296
unfolding fits_counts
fits-below c h = ltb-true (total_of c) 4294967296 h

pub below-fits : (c : Counts) → total_of c < 4294967296 → IsTrue (fits_counts c)
unfolding fits_counts
below-fits c h = lt-ltb (total_of c) 4294967296 h

pub counts_are_sums : AreSums counts_sums
counts_are_sums = record {
  left_unit = λ x. counts_same _ x (omega arith) (omega arith) (omega arith) (omega arith);
  right_unit = λ x. counts_same _ x (omega arith) (omega arith) (omega arith) (omega arith);
  assoc = λ x y z. counts_same _ _ (omega arith) (omega arith) (omega arith) (omega arith);
  fits_left = λ x y h. let b = fits-below (plus_counts x y) h in below-fits x (omega (arith, b));
  fits_right = λ x y h. let b = fits-below (plus_counts x y) h in below-fits y (omega (arith, b));
}

pub part-plus : (mask colour m n : ℕ)
    → part_of mask colour (m + n) ≡ part_of mask colour m + part_of mask colour n
part-plus mask colour m n = by_test (is_among mask colour)
  where
    by_test : (b : Bool) → cond b (m + n) 0 ≡ cond b m 0 + cond b n 0
    by_test true = refl
    by_test false = refl

pub part-zero : (mask colour : ℕ) → part_of mask colour 0 ≡ 0
part-zero mask colour = by_test (is_among mask colour) 0
  where
    by_test : (b : Bool) (n : ℕ) → cond b n n ≡ n
    by_test true n = refl
    by_test false n = refl

pub weigh-zero : (mask : ℕ) → weigh mask no_counts ≡ 0
unfolding weigh
weigh-zero mask =
    omega (arith, part-zero mask 0, part-zero mask 1, part-zero mask 2, part-zero mask 3)

pub weigh-plus : (mask : ℕ) (x y : Counts)
    → weigh mask (plus_counts x y) ≡ weigh mask x + weigh mask y
unfolding weigh
weigh-plus mask x y =
    omega (
      arith,
      part-plus mask 0 x.first y.first,
      part-plus mask 1 x.second y.second,
      part-plus mask 2 x.third y.third,
      part-plus mask 3 x.fourth y.fourth,
    )
