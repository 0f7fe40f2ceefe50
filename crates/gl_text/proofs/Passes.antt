-- Passing over the lines of a block.
use Rattle.std.proofs.Common.{◌≡◌, ◌∙◌, ℕ, suc, ◌+◌, ◌-◌, ◌<◌, List, [], ◌∷◌, ◌++◌, length, take, Some, None, refl, sym, ap, subst, arith, codes, append_assoc, length-append}
use lib.Utf8.{encode}
use Rattle.std.specs.Str.{IsUtf8}
use Rattle.std.proofs.lemmas.Str.{IsUtf8-append, IsUtf8-nil}
use Rattle.spec_plan_texts.specs.Cuts.{cut, lines_in}
use Rattle.spec_plan_texts.specs.Reading.{outside, inside, Comes, in_block, closing, endless, rows_of, fault}
use Rattle.spec_plan_texts.proofs.CutLines.{utf8_cut}
use Rattle.gl_lines.specs.declared.fault.PlanKind.TheVariants.{Block}
use Rattle.gl_syntax.proofs.LineCuts.{cut_takes, lines_at, lines_without}
use Rattle.gl_text.specs.Blocks.{IsEndless, IsBlock, IsPassed, IsAfter}

pub passed_none : (bytes : List ℕ) → IsPassed bytes [] bytes 0
passed_none bytes = record {
  are = refl;
  leads = λ before m n named out h. let start : n + 0 ≡ n = omega arith in subst (λ i. Comes (inside m named []) before i (lines_in bytes) out) start h;
  utf8 = λ u. (IsUtf8-nil, u);
  few = omega arith;
}

pub passed_start : (bytes : List ℕ) → IsAfter bytes bytes 0
passed_start bytes = ([], passed_none bytes)

-- the two parts of what was cut are texts
parts_texts : (bytes raw others : List ℕ) → bytes ≡ raw ++ 10 ∷ others → IsUtf8 bytes → IsUtf8 raw × IsUtf8 others
parts_texts bytes raw others e u = utf8_cut 10 raw others (omega arith) (subst IsUtf8 e u)

feed_text : IsUtf8 (10 ∷ [])
unfolding encode
feed_text = (10 ∷ [], (refl, refl))

-- a line more, which doesn't end the block
more : (bytes p rest raw others : List ℕ) (k : ℕ) → IsPassed bytes p rest k → Some (raw, others) ≡ cut 10 rest → ¬ (raw ≡ codes "end csv")
    → IsPassed bytes (p ++ raw ++ 10 ∷ []) others (k + 1)
more bytes p rest raw others k h e other =
    let parts : rest ≡ raw ++ 10 ∷ others = cut_takes 10 rest (raw, others) (sym e) in
    let lines : lines_in rest ≡ raw ∷ lines_in others = lines_at rest raw others e in
    record {
      are = h.are ∙ ap (λ xs. p ++ xs) parts ∙ sym (append_assoc p raw (10 ∷ others)) ∙ sym (append_assoc (p ++ raw) (10 ∷ []) others);
      leads = λ before m n named out c.
          let next : suc (n + k) ≡ n + (k + 1) = omega arith in
          h.leads before m n named out
          (subst (λ ls. Comes (inside m named p) before (n + k) ls out) (sym lines)
          (in_block other (subst (λ i. Comes (inside m named (p ++ raw ++ 10 ∷ [])) before i (lines_in others) out) (sym next) c)));
      utf8 = λ u.
          let both = h.utf8 u in
          let cuts = parts_texts rest raw others parts both.1 in
          (IsUtf8-append (p ++ raw) (10 ∷ []) (IsUtf8-append p raw both.0 cuts.0) feed_text, cuts.1);
      few = omega (arith, h.few, ap length parts, length-append raw (10 ∷ others));
    }

pub passed_more : (bytes rest raw others : List ℕ) (k : ℕ) → IsAfter bytes rest k → Some (raw, others) ≡ cut 10 rest → ¬ (raw ≡ codes "end csv") → IsAfter bytes others (k + 1)
passed_more bytes rest raw others k h e other = (h.0 ++ raw ++ 10 ∷ [], more bytes h.0 rest raw others k h.1 e other)

-- what was passed are the bytes ahead of the rest
passed_is : (bytes p rest : List ℕ) → bytes ≡ p ++ rest → take (length bytes - length rest) bytes ≡ p
passed_is bytes p rest e =
    let long : length bytes - length rest ≡ length p = omega (arith, ap length e, length-append p rest) in
    ap (λ n. take n bytes) long ∙ ap (take (length p)) e ∙ take_prefix p rest
  where
    take_prefix : (xs ys : List ℕ) → take (length xs) (xs ++ ys) ≡ xs
    take_prefix [] ys = refl
    take_prefix (x ∷ xs) ys = ap (λ zs. x ∷ zs) (take_prefix xs ys)

-- the line that ends the block
ended : (bytes p rest others : List ℕ) (k : ℕ) → IsPassed bytes p rest k → lines_in rest ≡ codes "end csv" ∷ lines_in others → length others < length rest
    → (IsUtf8 rest → IsUtf8 others) → IsBlock bytes p others (k + 1)
ended bytes p rest others k h lines less texts = record {
  leads = λ before m n named rows out has c.
      let next : suc (n + k) ≡ n + (k + 1) = omega arith in
      h.leads before m n named out
      (subst (λ ls. Comes (inside m named p) before (n + k) ls out) (sym lines)
      (closing has (subst (λ i. Comes outside (before ++ rows_of m named rows) i (lines_in others) out) (sym next) c)));
  utf8 = λ u. let both = h.utf8 u in (both.0, texts both.1);
  few = omega (arith, h.few, less);
}

pub passed_ends : (bytes rest raw others : List ℕ) (k : ℕ) → IsAfter bytes rest k → Some (raw, others) ≡ cut 10 rest → raw ≡ codes "end csv"
    → IsBlock bytes (take (length bytes - length rest) bytes) others (k + 1)
passed_ends bytes rest raw others k h e is =
    let parts : rest ≡ raw ++ 10 ∷ others = cut_takes 10 rest (raw, others) (sym e) in
    let lines : lines_in rest ≡ codes "end csv" ∷ lines_in others = lines_at rest raw others e ∙ ap (λ x. x ∷ lines_in others) is in
    let less : length others < length rest = omega (arith, ap length parts, length-append raw (10 ∷ others)) in
    subst (λ bs. IsBlock bytes bs others (k + 1)) (sym (passed_is bytes h.0 rest h.1.are))
    (ended bytes h.0 rest others k h.1 lines less (λ u. (parts_texts rest raw others parts u).1))

pub passed_last : (bytes rest : List ℕ) (k : ℕ) → IsAfter bytes rest k → rest ≡ codes "end csv"
    → IsBlock bytes (take (length bytes - length rest) bytes) [] (k + 1)
passed_last bytes rest k h is =
    let lines : lines_in rest ≡ codes "end csv" ∷ [] = ap lines_in is in
    let less : 0 < length rest = omega (arith, ap length is) in
    subst (λ bs. IsBlock bytes bs [] (k + 1)) (sym (passed_is bytes h.0 rest h.1.are))
    (ended bytes h.0 rest [] k h.1 lines less (λ u. IsUtf8-nil))

pub passed_endless : (bytes rest : List ℕ) (k : ℕ) → IsAfter bytes rest k → cut 10 rest ≡ None → ¬ (rest ≡ codes "end csv") → IsEndless bytes
passed_endless bytes [] k h e other = λ before m n named. h.1.leads before m n named (fault m 1 Block) endless
passed_endless bytes (b ∷ rest) k h e other = λ before m n named.
    h.1.leads before m n named (fault m 1 Block)
    (subst (λ ls. Comes (inside m named h.0) before (n + k) ls (fault m 1 Block)) (sym (lines_without (b ∷ rest) (λ z. absurd (omega (arith, z))) (sym e)))
    (in_block other endless))

pub rest_shorter : (rest raw others : List ℕ) → Some (raw, others) ≡ cut 10 rest → length others < length rest
rest_shorter rest raw others e = omega (arith, ap length (cut_takes 10 rest (raw, others) (sym e)), length-append raw (10 ∷ others))
