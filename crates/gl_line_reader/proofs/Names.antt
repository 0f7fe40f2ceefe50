-- Names at the beginning of bytes.
use Rattle.std.proofs.Common.{◌≡◌, ℕ, zero, suc, ◌+◌, ◌-◌, ◌<◌, ◌≤◌, Bool, true, false, ◌&&◌, cond, List, [], ◌∷◌, length, take, drop, refl, sym, ap, ◌∙◌, subst, inl, inr, arith, codes, IsTrue}
use Rattle.std.specs.Str.{IsUtf8}
use Rattle.std.specs.List.{list_all}
use Rattle.std.proofs.lemmas.Str.{IsUtf8-append, IsUtf8-nil}
use Rattle.std.specs.Prelude.{bytes_eq}
use Rattle.std.proofs.Math.Seq.{take-append_seam, drop-append_seam}
use Rattle.std.proofs.lemmas.List.{length-append}
use Rattle.std.proofs.lemmas.Bool.{cases_Bool, false≢true}
use Rattle.std.proofs.lemmas.Bool.Decides.{nat_tests}
use Rattle.spec_value.specs.Name.{is_lower, is_name_byte, is_name}
use Rattle.spec_syntax.specs.Reader.{found, stopped, first_is}
use Rattle.spec_syntax.proofs.ReadSteps.{no_more, Finds, IsStep}
use Rattle.spec_syntax.proofs.Repetitions.{Unbegun}
use Rattle.spec_syntax.specs.Name.{name, named, unnamed, read_name}
use Rattle.spec_syntax.proofs.Names.{name_reads, name_bytes, named_parts, unnamed_le, lower_byte}
use Rattle.spec_syntax.proofs.Utf8.{ascii_utf8}

pub unnamed_none : (most : ℕ) (bs : List ℕ) → most ≡ 0 → unnamed most bs ≡ bs
unnamed_none zero bs h = refl
unnamed_none (suc most) bs h = absurd (omega arith)

pub unnamed_other : (most : ℕ) (bs : List ℕ) → first_is is_name_byte bs ≡ false → unnamed most bs ≡ bs
unnamed_other zero bs h = refl
unnamed_other (suc most) [] h = refl
unnamed_other (suc most) (b ∷ bs) h = ap (λ x. cond x (unnamed most bs) (b ∷ bs)) h

pub unnamed_more : (most : ℕ) (bs : List ℕ) → 0 < most → first_is is_name_byte bs ≡ true → unnamed most bs ≡ unnamed (most - 1) (drop 1 bs)
unnamed_more zero bs l h = absurd (omega arith)
unnamed_more (suc most) [] l h = absurd (false≢true h)
unnamed_more (suc most) (b ∷ bs) l h = ap (λ x. cond x (unnamed most bs) (b ∷ bs)) h ∙ ap (λ m. unnamed m bs) (let e : most ≡ suc most - 1 = omega arith in e)

pub first_some : (p : ℕ → Bool) (bs : List ℕ) → first_is p bs ≡ true → 1 ≤ length bs
first_some p [] h = absurd (false≢true h)
first_some p (b ∷ bs) h = omega arith

-- the bytes of a name, and those after them
pub cut_le : (most : ℕ) (bs : List ℕ) → length (unnamed most bs) ≤ length bs
cut_le most bs = unnamed_le most bs

length_named : (most : ℕ) (bs : List ℕ) → length bs - length (unnamed most bs) ≡ length (named most bs)
length_named most bs = omega (arith, ap length (named_parts most bs), length-append (named most bs) (unnamed most bs))

pub cut_prefix : (most : ℕ) (bs : List ℕ) → take (length bs - length (unnamed most bs)) bs ≡ named most bs
cut_prefix most bs = ap (λ n. take n bs) (length_named most bs) ∙ ap (take (length (named most bs))) (named_parts most bs) ∙ take-append_seam (named most bs) (unnamed most bs)

pub cut_rest : (most : ℕ) (bs : List ℕ) → drop (length bs - length (unnamed most bs)) bs ≡ unnamed most bs
cut_rest most bs = ap (λ n. drop n bs) (length_named most bs) ∙ ap (drop (length (named most bs))) (named_parts most bs) ∙ drop-append_seam (named most bs) (unnamed most bs)

pub no_name : (bs : List ℕ) → first_is is_lower bs ≡ false → read_name bs ≡ stopped (length bs)
no_name [] h = refl
no_name (b ∷ bs) h =
    ap (λ x. cond x (cond (bytes_eq (b ∷ named 31 bs) (codes "may")) (stopped (length (unnamed 31 bs))) (found (b ∷ named 31 bs) (unnamed 31 bs))) (stopped (length bs + 1))) h
    ∙ ap stopped (let e : length bs + 1 ≡ length (b ∷ bs) = omega arith in e)

-- the reading of bytes that begin with a letter
tested : (bs : List ℕ) → first_is is_lower bs ≡ true → read_name bs ≡ cond (bytes_eq (named 32 bs) (codes "may")) (stopped (length (unnamed 32 bs))) (found (named 32 bs) (unnamed 32 bs))
tested [] h = absurd (false≢true h)
tested (b ∷ bs) h =
    ap (λ x. cond x (cond (bytes_eq (b ∷ named 31 bs) (codes "may")) (stopped (length (unnamed 31 bs))) (found (b ∷ named 31 bs) (unnamed 31 bs))) (stopped (length bs + 1))) h
    ∙ ap (λ x. cond (bytes_eq (cond x (b ∷ named 31 bs) []) (codes "may")) (stopped (length (cond x (unnamed 31 bs) (b ∷ bs)))) (found (cond x (b ∷ named 31 bs) []) (cond x (unnamed 31 bs) (b ∷ bs)))) (sym (lower_byte b h))

pub may_stops : (bs prefix rest : List ℕ) → first_is is_lower bs ≡ true → named 32 bs ≡ prefix → unnamed 32 bs ≡ rest → bytes_eq prefix (codes "may") ≡ true → read_name bs ≡ stopped (length rest)
may_stops bs prefix rest h f r e = tested bs h ∙ ap (λ x. cond (bytes_eq x (codes "may")) (stopped (length (unnamed 32 bs))) (found x (unnamed 32 bs))) f ∙ ap (λ x. cond x (stopped (length (unnamed 32 bs))) (found prefix (unnamed 32 bs))) e ∙ ap (λ x. stopped (length x)) r

pub name_found : (bs prefix rest : List ℕ) → first_is is_lower bs ≡ true → named 32 bs ≡ prefix → unnamed 32 bs ≡ rest → bytes_eq prefix (codes "may") ≡ false → read_name bs ≡ found prefix rest
name_found bs prefix rest h f r e = tested bs h ∙ ap (λ x. cond (bytes_eq x (codes "may")) (stopped (length (unnamed 32 bs))) (found x (unnamed 32 bs))) f ∙ ap (λ x. cond x (stopped (length (unnamed 32 bs))) (found prefix (unnamed 32 bs))) e ∙ ap (found prefix) r

found_is : (bs n rest : List ℕ) → Finds name no_more bs n rest → IsTrue (is_name n)
found_is bs n rest f = f.spelled.0

nothing_after : Unbegun is_name_byte no_more
nothing_after v e = ap (first_is is_name_byte) e

pub name_is : (bs prefix rest : List ℕ) → first_is is_lower bs ≡ true → named 32 bs ≡ prefix → unnamed 32 bs ≡ rest → bytes_eq prefix (codes "may") ≡ false → IsTrue (is_name prefix)
name_is bs prefix rest h f r e =
    found_is bs prefix rest (subst (λ st. IsStep name no_more bs st) (name_found bs prefix rest h f r e) (name_reads (length bs) no_more ([], refl) nothing_after bs (omega arith)))

ascii_bytes : (bs : List ℕ) → list_all is_name_byte bs ≡ true → IsUtf8 bs
ascii_bytes [] h = IsUtf8-nil
ascii_bytes (b ∷ bs) h = elim (cases_Bool (is_name_byte b)) as (λ _. IsUtf8 (b ∷ bs)) [
  | inl e ↦ IsUtf8-append (b ∷ []) bs (ascii_utf8 b (below b e)) (ascii_bytes bs (sym (ap (λ x. x && list_all is_name_byte bs) e) ∙ h))
  | inr e ↦ absurd (false≢true (sym (ap (λ x. x && list_all is_name_byte bs) e) ∙ h))
]
  where
    below : (b : ℕ) → is_name_byte b ≡ true → b < 128
    below b e = grind (arith, nat_tests)

pub name_utf8 : (bs : List ℕ) → IsTrue (is_name bs) → IsUtf8 bs
name_utf8 bs h = ascii_bytes bs (name_bytes bs h)
