-- The readers of values read their grammars.
use Rattle.std.proofs.Common.{◌≡◌, ℕ, zero, suc, pos, ◌+◌, ◌-◌, ◌≤◌, max, false, eqb, List, [], ◌∷◌, ◌++◌, length, refl, sym, subst, inl, inr, arith, codes}
use Rattle.spec_value.specs.Tree.{Tree, num, text, items_of}
use Rattle.spec_syntax.specs.Grammar.{Grammar, mapped, either, after, closed, optional, many, listed}
use Rattle.spec_syntax.specs.Reader.{stopped, Reader, made_of}
use Rattle.spec_syntax.proofs.Missed.{missed_all}
use Rattle.spec_syntax.proofs.ReadSteps.{Tails, IsStep, Stops, Reads, Has, HasTail}
use Rattle.spec_syntax.proofs.Sequences.{made_of_reads, alike_step}
use Rattle.spec_syntax.proofs.Choices.{NoneStarts, or_else_step, or_else_reads}
use Rattle.spec_syntax.proofs.Repetitions.{Begun, Unbegun, begun_word, starts_begun}
use Rattle.spec_syntax.specs.Number.{between, is_digit, number}
use Rattle.spec_syntax.specs.Text.{texts}
use Rattle.spec_syntax.specs.Value.{bracketed, list_of, leaf, value, any_value}
use Rattle.spec_syntax.specs.ValueReader.{read_bracketed, is, read_number, read_text, read_leaf, read_list, read_nested}
use Rattle.spec_syntax.proofs.Lists.{Unclosing, ReadsAhead, bracketed_reads}
use Rattle.spec_syntax.proofs.Firsts.{begun_mapped, none_mapped, none_either, none_outside}
use Rattle.spec_syntax.proofs.Numbers.{number_reads, none_number}
use Rattle.spec_syntax.proofs.Texts.{text_reads, begun_texts}

-- the reader of elements reads them ahead of whatever begins with no digit
abbrev pub ReadsElements : ℕ → Grammar Tree → Reader Tree → Type 1
ReadsElements n V r = ReadsAhead n is_digit V r

pub leaf_reads : (n : ℕ) (F : Tails) → HasTail F → Unbegun is_digit F → Reads n leaf F read_leaf
leaf_reads n F some un =
    or_else_reads n (is 34) (mapped text texts) (mapped num number) F (made_of text read_text) (made_of num read_number)
    (starts_begun (is 34) (mapped text texts) F (begun_mapped (is 34) text texts begun_texts))
    (none_mapped (is 34) num number F (none_number 34 F refl refl refl))
    (made_of_reads n text texts F read_text (text_reads n F some))
    (made_of_reads n num number F read_number (number_reads n F some un))

none_leaf : (c : ℕ) (F : Tails) → eqb c 34 ≡ false → eqb 34 c ≡ false → eqb 45 c ≡ false → eqb 48 c ≡ false → between 49 57 c ≡ false → NoneStarts (is c) leaf F
none_leaf c F q quoteless minusless zeroless h =
    none_either (is c) (mapped text texts) (mapped num number) F
    (none_mapped (is c) text texts F (none_outside (is 34) c texts F q begun_texts))
    (none_mapped (is c) num number F (none_number c F minusless zeroless h))

begun_list : (V : Grammar Tree) → Begun (is 91) (list_of V)
begun_list V = begun_mapped (is 91) items_of (after (codes "[") (closed (optional [] (listed V (codes ","))) (codes "]"))) (begun_word (is 91) 91 [] (closed (optional [] (listed V (codes ","))) (codes "]")) refl)

pub unclosing_value : (depth : ℕ) → Unclosing (value depth)
unfolding value
unclosing_value zero F = none_leaf 93 F refl refl refl refl refl
unclosing_value (suc depth) F = none_either (is 93) (list_of (value depth)) leaf F (none_outside (is 91) 93 (list_of (value depth)) F refl (begun_list (value depth))) (none_leaf 93 F refl refl refl refl refl)

pub unclosing_any : Unclosing any_value
unclosing_any F a t v s tail = unclosing_value s.0 F a t v s.1 tail

pub has_value : (depth : ℕ) → Has (value depth)
unfolding value
has_value zero = (num (pos 0), 48 ∷ [], inr (pos 0, inr (0, inl (tt, refl, refl), refl), refl))
has_value (suc depth) = (num (pos 0), 48 ∷ [], inr (inr (pos 0, inr (0, inl (tt, refl, refl), refl), refl)))

pub list_reads : (n : ℕ) (V : Grammar Tree) (r : Reader Tree) (F : Tails) → Has V → Unclosing V → HasTail F → ReadsElements n V r → Reads (suc n) (list_of V) F (read_list r)
list_reads n V r F has unclosing some reads =
    made_of_reads (suc n) items_of (bracketed V) F (read_bracketed r) (bracketed_reads n is_digit V r F refl refl has unclosing some reads)

-- a value nested at most so deep
pub value_reads : (n : ℕ) → (depth : ℕ) → ReadsElements n (value depth) (read_nested depth)
unfolding value read_nested
value_reads n zero F some un bs h = leaf_reads n F some un bs h
value_reads n (suc depth) F some un bs h =
    or_else_step (is 91) (list_of (value depth)) leaf F (read_list (read_nested depth)) read_leaf bs
    (starts_begun (is 91) (list_of (value depth)) F (begun_list (value depth)))
    (none_leaf 91 F refl refl refl refl refl)
    (list_reads n (value depth) (read_nested depth) F (has_value depth) (unclosing_value depth) some (value_reads n depth) bs (omega arith))
    (leaf_reads n F some un bs h)

-- what is spelled within a depth is spelled within a greater one
many_mono : (V W : Grammar Tree) → ((a : Tree) (t : List ℕ) → V a t → W a t) → (list : List Tree) (t : List ℕ) → many (after (codes ",") V) list t → many (after (codes ",") W) list t
many_mono V W f [] t s = s
many_mono V W f (a ∷ list) t s = (s.0, s.1, (s.2.0, (s.2.1.0, s.2.1.1, s.2.1.2, f s.2.0.1 s.2.1.1 s.2.1.3, s.2.1.4), s.2.2), many_mono V W f list s.1 s.3, s.4)

elements_mono : (V W : Grammar Tree) → ((a : Tree) (t : List ℕ) → V a t → W a t) → (list : List Tree) (t : List ℕ) → optional [] (listed V (codes ",")) list t → optional [] (listed W (codes ",")) list t
elements_mono V W f list t s = elim s as (λ _. optional [] (listed W (codes ",")) list t) [
  | inl g ↦ inl (g.0, (g.1.0, g.1.1, f g.0.0 g.1.0 g.1.2, many_mono V W f g.0.1 g.1.1 g.1.3, g.1.4), g.2)
  | inr g ↦ inr g
]

list_mono : (V W : Grammar Tree) → ((a : Tree) (t : List ℕ) → V a t → W a t) → (a : Tree) (t : List ℕ) → list_of V a t → list_of W a t
list_mono V W f a t s = (s.0, (s.1.0, (s.1.1.0, s.1.1.1, s.1.1.2, (s.1.1.3.0, (s.1.1.3.1.0, s.1.1.3.1.1, elements_mono V W f s.1.1.3.0.0 s.1.1.3.1.0 s.1.1.3.1.2, s.1.1.3.1.3, s.1.1.3.1.4), s.1.1.3.2), s.1.1.4), s.1.2), s.2)

value_more : (depth : ℕ) (a : Tree) (t : List ℕ) → value depth a t → value (suc depth) a t
unfolding value
value_more zero a t s = inr s
value_more (suc depth) a t s = elim s as (λ _. value (suc (suc depth)) a t) [
  | inl g ↦ inl (list_mono (value depth) (value (suc depth)) (value_more depth) a t g)
  | inr g ↦ inr g
]

deeper : (more depth : ℕ) (a : Tree) (t : List ℕ) → value depth a t → (at : ℕ) → at ≡ more + depth → value at a t
deeper zero depth a t s at e = subst (λ d. value d a t) (sym (let g : at ≡ depth = omega arith in g)) s
deeper (suc more) depth a t s zero e = absurd (omega arith)
deeper (suc more) depth a t s (suc at) e = value_more at a t (deeper more depth a t s at (omega arith))

pub value_mono : (depth at : ℕ) → depth ≤ at → (a : Tree) (t : List ℕ) → value depth a t → value at a t
value_mono depth at l a t s = deeper (at - depth) depth a t s at (omega arith)

-- elements of any depth have a greatest depth
abbrev Within : List Tree → List ℕ → Type 0
Within list t = (depth : ℕ) × many (after (codes ",") (value depth)) list t

many_within : (list : List Tree) (t : List ℕ) → many (after (codes ",") any_value) list t → Within list t
many_within [] t s = (0, s)
many_within (a ∷ list) t s =
    let rest : Within list s.1 = many_within list s.1 s.3 in
    let first = s.2.1.3 in
    let depth = max first.0 rest.0 in (
      depth,
      (
        s.0,
        s.1,
        (s.2.0, (s.2.1.0, s.2.1.1, s.2.1.2, value_mono first.0 depth (omega arith) s.2.0.1 s.2.1.1 first.1, s.2.1.4), s.2.2),
        many_mono (value rest.0) (value depth) (value_mono rest.0 depth (omega arith)) list s.1 rest.1,
        s.4,
      ),
    )

elements_within : (list : List Tree) (t : List ℕ) → optional [] (listed any_value (codes ",")) list t → (depth : ℕ) × optional [] (listed (value depth) (codes ",")) list t
elements_within list t s = elim s as (λ _. (depth : ℕ) × optional [] (listed (value depth) (codes ",")) list t) [
  | inl g ↦
      let rest : Within g.0.1 g.1.1 = many_within g.0.1 g.1.1 g.1.3 in
      let depth = max g.1.2.0 rest.0 in
      (depth, inl (g.0, (g.1.0, g.1.1, value_mono g.1.2.0 depth (omega arith) g.0.0 g.1.0 g.1.2.1, many_mono (value rest.0) (value depth) (value_mono rest.0 depth (omega arith)) g.0.1 g.1.1 rest.1, g.1.4), g.2))
  | inr g ↦ (0, inr g)
]

-- a value of any depth is a list of values of any depth, or a leaf
pub any_to : (a : Tree) (t : List ℕ) → either (list_of any_value) leaf a t → any_value a t
unfolding value
any_to a t s = elim s as (λ _. any_value a t) [
  | inl g ↦
      let inside = elements_within g.1.1.3.0.0 g.1.1.3.1.0 g.1.1.3.1.2 in
      (suc inside.0, inl (g.0, (g.1.0, (g.1.1.0, g.1.1.1, g.1.1.2, (g.1.1.3.0, (g.1.1.3.1.0, g.1.1.3.1.1, inside.1, g.1.1.3.1.3, g.1.1.3.1.4), g.1.1.3.2), g.1.1.4), g.1.2), g.2))
  | inr g ↦ (0, g)
]

any_from_depth : (depth : ℕ) (a : Tree) (t : List ℕ) → value depth a t → either (list_of any_value) leaf a t
unfolding value
any_from_depth zero a t s = inr s
any_from_depth (suc depth) a t s = elim s as (λ _. either (list_of any_value) leaf a t) [
  | inl g ↦ inl (list_mono (value depth) any_value (λ b u h. (depth, h)) a t g)
  | inr g ↦ inr g
]

pub any_from : (a : Tree) (t : List ℕ) → any_value a t → either (list_of any_value) leaf a t
any_from a t s = any_from_depth s.0 a t s.1

has_any : Has any_value
has_any = let h : Has (value 0) = has_value 0 in (h.0, h.1, (0, h.2))

-- there is no list on no bytes
no_list : (V : Grammar Tree) (F : Tails) → HasTail F → Stops (list_of V) F [] 0
no_list V F some = record {
  thing = items_of [];
  text = 91 ∷ 93 ∷ [];
  tail = some.0;
  spelled = ([], (((tt, [])), (91 ∷ [], 93 ∷ [], refl, (([], tt), ([], 93 ∷ [], inr (tt, refl, refl), refl, refl), refl), refl), refl), refl);
  follows = some.1;
  near = refl;
  nearest = λ a t v s tail. missed_all (is 91) (t ++ v) [] (starts_begun (is 91) (list_of V) F (begun_list V) a t v s tail) refl;
}

any_reads_none : (F : Tails) → HasTail F → Unbegun is_digit F → (bs : List ℕ) → length bs ≤ 0 → IsStep any_value F bs (read_nested 0 bs)
unfolding read_nested
any_reads_none F some un [] h =
    alike_step (either (list_of any_value) leaf) any_value F [] (read_leaf []) any_to any_from
    (or_else_step (is 91) (list_of any_value) leaf F (λ _. stopped 0) read_leaf []
    (starts_begun (is 91) (list_of any_value) F (begun_list any_value))
    (none_leaf 91 F refl refl refl refl refl)
    (no_list any_value F some)
    (leaf_reads 0 F some un [] (omega arith)))
any_reads_none F some un (c ∷ bs) h = absurd (omega arith)

-- a value, by a reader that may go as deep as the bytes are many
pub any_reads : (depth n : ℕ) → n ≤ depth → ReadsElements n any_value (read_nested depth)
unfolding read_nested
any_reads zero n l F some un bs h = any_reads_none F some un bs (omega arith)
any_reads (suc depth) n l F some un bs h =
    alike_step (either (list_of any_value) leaf) any_value F bs (read_nested (suc depth) bs) any_to any_from
    (or_else_step (is 91) (list_of any_value) leaf F (read_list (read_nested depth)) read_leaf bs
    (starts_begun (is 91) (list_of any_value) F (begun_list any_value))
    (none_leaf 91 F refl refl refl refl refl)
    (list_reads (n - 1) any_value (read_nested depth) F has_any unclosing_any some (any_reads depth (n - 1) (omega arith)) bs (omega arith))
    (leaf_reads n F some un bs h))
