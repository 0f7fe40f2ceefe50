-- Laws of added lengths.
use Rattle.std.proofs.Common.{◌≡◌, ℕ, ◌<◌, ap, ◌∙◌, arith, IsTrue}
use Rattle.std.specs.Prelude.{max}
use Rattle.std.proofs.lemmas.Bool.{ltb-true, lt-ltb}
use Rattle.gl_ranktree.specs.Summary.{Sums, AreSums}
use Rattle.gl_joined.specs.Length.{no_length, plus_length, fits_length}
use Rattle.gl_joined.specs.declared.length.Length.{Length}

pub length_same : (x y : Length) → x.parts ≡ y.parts → x.elements ≡ y.elements → x ≡ y
length_same x y a b =
    let make : ℕ → ℕ → Length = λ p q. record { parts = p; elements = q } in
    ap (λ n. make n x.elements) a ∙ ap (λ n. make y.parts n) b

abbrev pub length_sums : Sums Length
length_sums = record { zero = no_length; plus = plus_length; fits = fits_length }

pub fits-below : (x : Length) → IsTrue (fits_length x) → max x.parts x.elements < 4294967296
unfolding fits_length
fits-below x h = ltb-true (max x.parts x.elements) 4294967296 h

pub below-fits : (x : Length) → max x.parts x.elements < 4294967296 → IsTrue (fits_length x)
unfolding fits_length
below-fits x h = lt-ltb (max x.parts x.elements) 4294967296 h

pub lengths_are_sums : AreSums length_sums
lengths_are_sums = record {
  left_unit = λ x. length_same _ x (omega arith) (omega arith);
  right_unit = λ x. length_same _ x (omega arith) (omega arith);
  assoc = λ x y z. length_same _ _ (omega arith) (omega arith);
  fits_left = λ x y h. let b = fits-below (plus_length x y) h in below-fits x (omega (arith, b));
  fits_right = λ x y h. let b = fits-below (plus_length x y) h in below-fits y (omega (arith, b));
}
