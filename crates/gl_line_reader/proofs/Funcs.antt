-- What the reader of functions comes to, by the first byte.
use Rattle.std.proofs.Common.{◌≡◌, ℕ, zero, suc, ◌-◌, ◌+◌, ◌<◌, ◌≤◌, true, false, cond, eqb, List, [], ◌∷◌, length, refl, sym, ap, ◌∙◌, subst, inl, inr, arith, codes}
use Rattle.std.proofs.lemmas.Bool.{cases_Bool}
use Rattle.spec_syntax.specs.Grammar.{Grammar}
use Rattle.spec_syntax.specs.Reader.{found, stopped, Reader, first_is, or_else, after_word}
use Rattle.spec_syntax.proofs.ReadSteps.{no_more, Finds, IsStep, Reads}
use Rattle.spec_syntax.proofs.Sequences.{rest_le}
use Rattle.spec_syntax.proofs.Joints.{after_on, later_stops}
use Rattle.spec_lang.specs.Func.{Func}
use Rattle.spec_syntax.specs.Func.{func}
use Rattle.spec_syntax.specs.ValueReader.{is}
use Rattle.spec_syntax.specs.LanguageReader.{read_flat_func, read_adding, read_listing, read_func}
use Rattle.spec_syntax.proofs.Paths.{on_path}
use Rattle.spec_syntax.proofs.Funcs.{func_reads}
use Rattle.spec_lines.proofs.Composites.{ends, nothing_follows}

pub func_end : (depth : ℕ) (bs : List ℕ) → depth ≡ 0 → read_func depth bs ≡ read_flat_func bs
unfolding read_func
func_end zero bs h = refl
func_end (suc depth) bs h = absurd (omega arith)

pub func_adding : (depth : ℕ) (bs : List ℕ) → 0 < depth → first_is (is 97) bs ≡ true → read_func depth bs ≡ read_adding (read_func (depth - 1)) bs
unfolding read_func
func_adding zero bs l h = absurd (omega arith)
func_adding (suc depth) bs l h =
    ap (λ x. cond x (read_adding (read_func depth) bs) (or_else (is 91) (read_listing (read_func depth)) read_flat_func bs)) h
    ∙ ap (λ d. read_adding (read_func d) bs) (let e : depth ≡ suc depth - 1 = omega arith in e)

pub func_listing : (depth : ℕ) (bs : List ℕ) → 0 < depth → first_is (is 97) bs ≡ false → first_is (is 91) bs ≡ true → read_func depth bs ≡ read_listing (read_func (depth - 1)) bs
unfolding read_func
func_listing zero bs l h g = absurd (omega arith)
func_listing (suc depth) bs l h g =
    ap (λ x. cond x (read_adding (read_func depth) bs) (or_else (is 91) (read_listing (read_func depth)) read_flat_func bs)) h
    ∙ ap (λ x. cond x (read_listing (read_func depth) bs) (read_flat_func bs)) g
    ∙ ap (λ d. read_listing (read_func d) bs) (let e : depth ≡ suc depth - 1 = omega arith in e)

pub func_flat : (depth : ℕ) (bs : List ℕ) → first_is (is 97) bs ≡ false → first_is (is 91) bs ≡ false → read_func depth bs ≡ read_flat_func bs
unfolding read_func
func_flat zero bs h g = refl
func_flat (suc depth) bs h g =
    ap (λ x. cond x (read_adding (read_func depth) bs) (or_else (is 91) (read_listing (read_func depth)) read_flat_func bs)) h
    ∙ ap (λ x. cond x (read_listing (read_func depth) bs) (read_flat_func bs)) g

-- a reader of a grammar leaves no more than there was
prefix_le : {A : Type 0} (S : Grammar A) (bs : List ℕ) (a : A) (rest : List ℕ) → Finds S no_more bs a rest → length rest ≤ length bs
prefix_le S bs a rest f = rest_le bs f.prefix rest f.are

-- a thing after a byte leaves less than there was
pub less_after : {A : Type 0} (S : Grammar A) (r : Reader A) (c : ℕ) (bs : List ℕ) (a : A) (rest : List ℕ) → ((n : ℕ) → Reads n S no_more r) → after_word (c ∷ []) r bs ≡ found a rest → length rest < length bs
less_after S r c [] a rest reads h = cc
less_after S r c (b ∷ bs) a rest reads h = elim (cases_Bool (eqb c b)) as (λ _. length rest < length (b ∷ bs)) [
  | inl e ↦
      let inner : r bs ≡ found a rest = sym (after_on (c ∷ []) r (b ∷ bs) bs (ap (λ x. cond x (found tt bs) (stopped (length bs + 1))) e)) ∙ h in
      omega (arith, prefix_le S bs a rest (subst (λ st. IsStep S no_more bs st) inner (reads (length bs) bs (omega arith))))
  | inr e ↦
      let stops : found a rest ≡ stopped (length bs + 1) = sym h ∙ later_stops (c ∷ []) r (b ∷ bs) (length bs + 1) (ap (λ x. cond x (found tt bs) (stopped (length bs + 1))) e) in
      cc
]

pub func_rest : (depth : ℕ) (bs : List ℕ) (f : Func) (rest : List ℕ) → after_word (codes ",") (read_func depth) bs ≡ found f rest → length rest < length bs
func_rest depth bs f rest h = less_after (func depth) (read_func depth) 44 bs f rest (λ n. func_reads n depth no_more nothing_follows (ends on_path)) h
