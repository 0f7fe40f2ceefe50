-- What the reader of values says of all the bytes.
use Rattle.std.proofs.Common.{◌≡◌, ℕ, ◌+◌, ◌<◌, ◌≤◌, cond, eqb, List, [], ◌∷◌, ◌++◌, length, refl, sym, ap, ◌∙◌, subst, inl, inr, arith, codes}
use Rattle.std.proofs.lemmas.Bool.{cases_Bool}
use Rattle.spec_value.specs.Tree.{Tree}
use Rattle.spec_syntax.specs.Language.{Spell, Leaves}
use Rattle.spec_syntax.specs.Reader.{Step, found, stopped, after_word, whole, first_is}
use Rattle.spec_syntax.proofs.Missed.{missed_most}
use Rattle.spec_syntax.proofs.ReadSteps.{no_more, Finds, Stops, IsStep}
use Rattle.spec_syntax.proofs.Sequences.{rest_le}
use Rattle.spec_syntax.proofs.Joints.{after_on, later_stops}
use Rattle.spec_syntax.proofs.Repetitions.{Unbegun}
use Rattle.spec_syntax.proofs.Wholes.{IsVerdict, verdict_of}
use Rattle.spec_syntax.specs.Number.{is_digit}
use Rattle.spec_syntax.specs.Value.{value, any_value}
use Rattle.spec_syntax.specs.ValueReader.{read_nested}
use Rattle.spec_syntax.proofs.Values.{value_reads, any_reads}

nothing_after : Unbegun is_digit no_more
nothing_after v e = ap (first_is is_digit) e

value_step : (bs : List ℕ) → IsStep any_value no_more bs (read_nested (length bs) bs)
value_step bs = any_reads (length bs) (length bs) (omega arith) no_more ([], refl) nothing_after bs (omega arith)

-- the verdict on all the bytes
pub value_verdict : (bs : List ℕ) → IsVerdict any_value bs (whole (read_nested (length bs) bs))
value_verdict bs = verdict_of any_value bs (read_nested (length bs) bs) (value_step bs)

verdict_at : (bs : List ℕ) (st : Step Tree) → read_nested (length bs) bs ≡ st → IsVerdict any_value bs (whole st)
verdict_at bs st h = subst (λ s. IsVerdict any_value bs (whole s)) h (value_verdict bs)

pub spelled_all : (bs : List ℕ) (t : Tree) (rest : List ℕ) → read_nested (length bs) bs ≡ found t rest → length rest ≡ 0 → Spell any_value bs t
spelled_all bs t [] h e = verdict_at bs (found t []) h
spelled_all bs t (c ∷ rest) h e = absurd (omega arith)

pub spelled_prefix : (bs : List ℕ) (t : Tree) (rest : List ℕ) (column : ℕ) → read_nested (length bs) bs ≡ found t rest → 0 < length rest → column + length rest ≡ length bs + 1 → Leaves any_value bs column
spelled_prefix bs t [] column h l e = absurd (omega arith)
spelled_prefix bs t (c ∷ rest) column h l e = let v = verdict_at bs (found t (c ∷ rest)) h in record { none = v.0; at = v.1 column (omega arith) }

pub spelled_none : (bs : List ℕ) (left column : ℕ) → read_nested (length bs) bs ≡ stopped left → column + left ≡ length bs + 1 → Leaves any_value bs column
spelled_none bs left column h e = let v = verdict_at bs (stopped left) h in record { none = v.0; at = v.1 column e }

left_of : (bs : List ℕ) (left : ℕ) → Stops any_value no_more bs left → left ≤ length bs
left_of bs left s = omega (arith, s.near, missed_most (s.text ++ s.tail) bs)

pub left_le : (bs : List ℕ) (left : ℕ) → read_nested (length bs) bs ≡ stopped left → left ≤ length bs
left_le bs left h = left_of bs left (subst (λ st. IsStep any_value no_more bs st) h (value_step bs))

prefix_of : (bs : List ℕ) (t : Tree) (rest : List ℕ) → Finds any_value no_more bs t rest → length rest ≤ length bs
prefix_of bs t rest f = rest_le bs f.prefix rest f.are

pub rest_of : (bs : List ℕ) (t : Tree) (rest : List ℕ) → read_nested (length bs) bs ≡ found t rest → length rest ≤ length bs
rest_of bs t rest h = prefix_of bs t rest (subst (λ st. IsStep any_value no_more bs st) h (value_step bs))

nested_prefix : (depth : ℕ) (bs : List ℕ) (t : Tree) (rest : List ℕ) → Finds (value depth) no_more bs t rest → length rest ≤ length bs
nested_prefix depth bs t rest f = rest_le bs f.prefix rest f.are

-- a reader of any depth leaves no more than there was
pub nested_rest : (depth : ℕ) (bs : List ℕ) (t : Tree) (rest : List ℕ) → read_nested depth bs ≡ found t rest → length rest ≤ length bs
nested_rest depth bs t rest h =
    nested_prefix depth bs t rest (subst (λ st. IsStep (value depth) no_more bs st) h (value_reads (length bs) depth no_more ([], refl) nothing_after bs (omega arith)))

-- an element after its comma
pub element_rest : (depth : ℕ) (bs : List ℕ) (t : Tree) (rest : List ℕ) → after_word (codes ",") (read_nested depth) bs ≡ found t rest → length rest < length bs
element_rest depth [] t rest h = cc
element_rest depth (c ∷ bs) t rest h = elim (cases_Bool (eqb 44 c)) as (λ _. length rest < length (c ∷ bs)) [
  | inl e ↦ omega (arith, nested_rest depth bs t rest (sym (after_on (codes ",") (read_nested depth) (c ∷ bs) bs (ap (λ x. cond x (found tt bs) (stopped (length bs + 1))) e)) ∙ h))
  | inr e ↦
      let stops : found t rest ≡ stopped (length bs + 1) = sym h ∙ later_stops (codes ",") (read_nested depth) (c ∷ bs) (length bs + 1) (ap (λ x. cond x (found tt bs) (stopped (length bs + 1))) e) in
      cc
]
