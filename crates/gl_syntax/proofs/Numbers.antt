-- Numbers: what is read is spelled so, and what is spelled so is read.
use Rattle.std.proofs.Common.{◌≡◌, ℕ, ℤ, pos, negsuc, ◌<◌, ◌^◌, Bool, true, false, ◌&&◌, cond, ltb, List, Some, None, Result, Ok, Err, refl, sym, ap, subst, ◌∙◌, arith, inl, inr}
use Rattle.std.specs.Prelude.{decimal, bytes_eq, FitsSigned, IsUtf8}
use Rattle.std.specs.Int.{w64}
use Rattle.std.specs.Ordering.{int_eq}
use Rattle.std.specs.Fmt.{signed_decimal}
use Rattle.std.specs.Str.Parse.{IsNumeral, digits_value, signed_digits_value, without_leading_plus, without_leading_sign}
use Rattle.std.proofs.lemmas.Bool.{lt-ltb, ltb-true, and_parts, and_from, cases_Bool, cases_eq, true≢false, false_from_ne_true}
use Rattle.std.proofs.lemmas.Bool.Decides.{Decides-int_eq, not_from_Decides}
use Rattle.std.proofs.lemmas.Fmt.{parse-decimal, parse-signed_decimal, IsAscii-decimal, IsAscii-signed}
use Rattle.std.proofs.lemmas.Option.{cond_some}
use Rattle.std.proofs.lemmas.Slice.Eq.{bytes_eq-Decides}
use Rattle.std.proofs.lemmas.Str.{IsUtf8-from_ascii}
use Rattle.gl_syntax.specs.Numbers.{fits_64, if_spelled, number_in, if_index, index_in}

-- a test that holds gives Some of the value
guarded : {A : Type 0} (b : Bool) (x : A) → b ≡ true → cond b (Some x) None ≡ Some x
guarded true x e = refl
guarded false x e = absurd (true≢false (sym e))

-- where no value is given at all, none is
none_unless : {A : Type 0} (b : Bool) (x : A) → (b ≡ true → ⊥) → None ≡ cond b (Some x) None
none_unless b x none_so = let e : b ≡ false = false_from_ne_true b none_so in rw e refl

pub fits_64_from : (n : ℤ) → FitsSigned w64 n → fits_64 n ≡ true
fits_64_from (pos n) fits = lt-ltb n (2 ^ 63) fits.sfits
fits_64_from (negsuc n) fits = lt-ltb n (2 ^ 63) fits.sfits

pub fits_64_to : (n : ℤ) → fits_64 n ≡ true → FitsSigned w64 n
fits_64_to (pos n) e = record { sfits = ltb-true n (2 ^ 63) e }
fits_64_to (negsuc n) e = record { sfits = ltb-true n (2 ^ 63) e }

abbrev done : {X : Type 0} → X → Result X ℕ
done x = Ok x

abbrev failed : {X : Type 0} → ℕ → Result X ℕ
failed e = Err e

ok_is : {X : Type 0} (x y : X) → done x ≡ done y → x ≡ y
ok_is x y e = cc

err_is_not_ok : {X : Type 0} (x : X) → failed 0 ≡ done x → ⊥
err_is_not_ok x e = cc

same_unless : (y z : ℤ) → ((y ≡ z → ⊥) → ⊥) → y ≡ z
same_unless y z h =
    elim (cases_Bool (int_eq y z)) [
      | inl t ↦ (Decides-int_eq y z).0 t
      | inr f ↦ absurd (h (not_from_Decides (int_eq y z) (Decides-int_eq y z) f))
    ]

-- the digits of a spelling make the number that it spells
pub signed_value : (z : ℤ) → FitsSigned w64 z → signed_digits_value 10 (signed_decimal z) ≡ z
signed_value z fits =
    let bs = signed_decimal z in
    same_unless (signed_digits_value 10 bs) z (λ differ.
    let bad : (IsNumeral 10 (without_leading_sign bs) × FitsSigned w64 (signed_digits_value 10 bs)) → ⊥ = λ good. differ (ok_is (signed_digits_value 10 bs) z (parse-signed_decimal w64 z bs (done (signed_digits_value 10 bs)) fits fits.sfits refl (good, refl))) in
    err_is_not_ok z (parse-signed_decimal w64 z bs (failed 0) fits fits.sfits refl bad))

same_ℕ_unless : (m n : ℕ) → ((m ≡ n → ⊥) → ⊥) → m ≡ n
same_ℕ_unless m n h =
    elim (cases_eq m n) [
      | inl e ↦ e
      | inr differ ↦ absurd (h differ)
    ]

pub number_takes : (bs : List ℕ) (n : ℤ) → number_in bs ≡ Some n → FitsSigned w64 n × (bs ≡ signed_decimal n)
unfolding number_in
number_takes bs n e =
    let v = signed_digits_value 10 bs in
    let found = cond_some (fits_64 v && bytes_eq (signed_decimal v) bs) v n e in
    let both = and_parts (fits_64 v) (bytes_eq (signed_decimal v) bs) found.0 in
    let spelled = (bytes_eq-Decides (signed_decimal v) bs).0 both.1 in
    (subst (λ m. FitsSigned w64 m) found.1 (fits_64_to v both.0), sym spelled ∙ ap signed_decimal found.1)

pub number_again : (n : ℤ) → FitsSigned w64 n → number_in (signed_decimal n) ≡ Some n
unfolding number_in
number_again n fits =
    let bs = signed_decimal n in
    rw (signed_value n fits) (guarded (fits_64 n && bytes_eq bs bs) n (and_from (fits_64 n) (bytes_eq bs bs) (fits_64_from n fits) ((bytes_eq-Decides bs bs).1 refl)))

-- what is no text is no number
pub number_of_no_text : (bs : List ℕ) → (IsUtf8 bs → ⊥) → None ≡ number_in bs
unfolding number_in
number_of_no_text bs none_so =
    let v = signed_digits_value 10 bs in
    none_unless (fits_64 v && bytes_eq (signed_decimal v) bs) v (λ e.
    let both = and_parts (fits_64 v) (bytes_eq (signed_decimal v) bs) e in
    none_so (subst (λ xs. IsUtf8 xs) ((bytes_eq-Decides (signed_decimal v) bs).0 both.1) (IsUtf8-from_ascii (signed_decimal v) (IsAscii-signed v (fits_64_to v both.0).sfits))))

-- what std reads is the number, if it is spelled so
pub number_parsed : (bs : List ℕ) (n : ℤ) → n ≡ signed_digits_value 10 bs → if_spelled bs n ≡ number_in bs
unfolding number_in
number_parsed bs n e = ap (if_spelled bs) e

-- what std does not read is no number
pub number_not_parsed : (bs : List ℕ) → ((IsNumeral 10 (without_leading_sign bs) × FitsSigned w64 (signed_digits_value 10 bs)) → ⊥) → None ≡ number_in bs
unfolding number_in
number_not_parsed bs none_so =
    let v = signed_digits_value 10 bs in
    none_unless (fits_64 v && bytes_eq (signed_decimal v) bs) v (λ e.
    let both = and_parts (fits_64 v) (bytes_eq (signed_decimal v) bs) e in
    let fits = fits_64_to v both.0 in
    err_is_not_ok v (parse-signed_decimal w64 v bs (failed 0) fits fits.sfits (sym ((bytes_eq-Decides (signed_decimal v) bs).0 both.1)) none_so))

-- the same of indices
pub index_value : (n : ℕ) → n < 2 ^ 32 → digits_value 10 (without_leading_plus (decimal n)) ≡ n
index_value n small =
    let bs = decimal n in
    let v = digits_value 10 (without_leading_plus bs) in
    same_ℕ_unless v n (λ differ.
    let bad : (IsNumeral 10 (without_leading_plus bs) × (v < 2 ^ 32)) → ⊥ = λ good. differ (ok_is v n (parse-decimal 32 n bs (done v) small (omega arith) refl (good, refl))) in
    err_is_not_ok n (parse-decimal 32 n bs (failed 0) small (omega arith) refl bad))

pub index_takes : (bs : List ℕ) (n : ℕ) → index_in bs ≡ Some n → (n < 2 ^ 32) × (bs ≡ decimal n)
unfolding index_in
index_takes bs n e =
    let v = digits_value 10 (without_leading_plus bs) in
    let found = cond_some (ltb v (2 ^ 32) && bytes_eq (decimal v) bs) v n e in
    let both = and_parts (ltb v (2 ^ 32)) (bytes_eq (decimal v) bs) found.0 in
    let spelled = (bytes_eq-Decides (decimal v) bs).0 both.1 in
    (subst (λ m. m < 2 ^ 32) found.1 (ltb-true v (2 ^ 32) both.0), sym spelled ∙ ap decimal found.1)

pub index_again : (n : ℕ) → n < 2 ^ 32 → index_in (decimal n) ≡ Some n
unfolding index_in
index_again n small =
    let bs = decimal n in
    rw (index_value n small) (guarded (ltb n (2 ^ 32) && bytes_eq bs bs) n (and_from (ltb n (2 ^ 32)) (bytes_eq bs bs) (lt-ltb n (2 ^ 32) small) ((bytes_eq-Decides bs bs).1 refl)))

pub index_of_no_text : (bs : List ℕ) → (IsUtf8 bs → ⊥) → None ≡ index_in bs
unfolding index_in
index_of_no_text bs none_so =
    let v = digits_value 10 (without_leading_plus bs) in
    none_unless (ltb v (2 ^ 32) && bytes_eq (decimal v) bs) v (λ e.
    let both = and_parts (ltb v (2 ^ 32)) (bytes_eq (decimal v) bs) e in
    let small = ltb-true v (2 ^ 32) both.0 in
    none_so (subst (λ xs. IsUtf8 xs) ((bytes_eq-Decides (decimal v) bs).0 both.1) (IsUtf8-from_ascii (decimal v) (IsAscii-decimal v (omega arith)))))

pub index_parsed : (bs : List ℕ) (n : ℕ) → n ≡ digits_value 10 (without_leading_plus bs) → if_index bs n ≡ index_in bs
unfolding index_in
index_parsed bs n e = ap (if_index bs) e

pub index_not_parsed : (bs : List ℕ) → ((IsNumeral 10 (without_leading_plus bs) × (digits_value 10 (without_leading_plus bs) < 2 ^ 32)) → ⊥) → None ≡ index_in bs
unfolding index_in
index_not_parsed bs none_so =
    let v = digits_value 10 (without_leading_plus bs) in
    none_unless (ltb v (2 ^ 32) && bytes_eq (decimal v) bs) v (λ e.
    let both = and_parts (ltb v (2 ^ 32)) (bytes_eq (decimal v) bs) e in
    let small = ltb-true v (2 ^ 32) both.0 in
    err_is_not_ok v (parse-decimal 32 v bs (failed 0) small (omega arith) (sym ((bytes_eq-Decides (decimal v) bs).0 both.1)) none_so))
