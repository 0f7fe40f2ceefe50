-- What the grammars of values, paths, orders, bounds and functions spell is within the limits.
use Rattle.std.proofs.Common.{ℕ, zero, suc, ℤ, ◌≤◌, List, [], ◌∷◌, length, sym, subst, inl, inr, arith, codes}
use Rattle.std.specs.Prelude.{FitsSigned}
use Rattle.std.specs.Int.{w64}
use Rattle.std.specs.List.{AllByRecursion}
use Rattle.spec_value.specs.Tree.{Tree, trees, nesting, trees_nesting}
use Rattle.spec_syntax.specs.Grammar.{Grammar, after, closed, apart, optional, many, more_of, listed, upto}
use Rattle.spec_lang.specs.declared.Bounds.{Bounds}
use Rattle.spec_lang.specs.declared.Bounds.TheVariants.{Head, Tail, Middle}
use Rattle.spec_lang.specs.Sorting.{Key}
use Rattle.spec_lang.specs.Func.{Func, funcs}
use Rattle.spec_syntax.specs.Number.{negative, number}
use Rattle.spec_syntax.specs.Path.{path_index, path, key, order}
use Rattle.spec_syntax.specs.Bounds.{two_numbers, bounds}
use Rattle.spec_syntax.specs.Value.{leaf, value, bracketed}
use Rattle.spec_syntax.specs.Func.{flat_func, func}
use Rattle.spec_syntax.specs.Proper.{IsProper, AreProper, IsPath, IsOrder, IsBounds, IsFunc, AreFuncs}
use Rattle.spec_syntax.proofs.Spellings.{positive_most, natural_most}
use Rattle.spec_syntax.proofs.Utf8.{texts_utf8}

-- what holds of things after a word, and ahead of one
pub of_after : {A : Type 0} (P : A → Type 0) (w : List ℕ) (S : Grammar A) → ((a : A) (t : List ℕ) → S a t → P a) → (a : A) (t : List ℕ) → after w S a t → P a
of_after P w S h a t s = subst P (sym s.2) (h s.0.1 s.1.1 s.1.3)

of_closed : {A : Type 0} (P : A → Type 0) (S : Grammar A) (w : List ℕ) → ((a : A) (t : List ℕ) → S a t → P a) → (a : A) (t : List ℕ) → closed S w a t → P a
of_closed P S w h a t s = subst P (sym s.2) (h s.0.0 s.1.0 s.1.2)

negative_fits : (n : ℕ) → n ≤ 9223372036854775808 → FitsSigned w64 (negative n)
negative_fits n l = omega arith

number_within : (n : ℤ) (t : List ℕ) → number n t → FitsSigned w64 n
number_within n t s = elim s as (λ _. FitsSigned w64 n) [
  | inl g ↦
      let most : g.0 ≤ 9223372036854775808 = omega (arith, g.1.2, positive_most 9223372036854775808 g.1.0.1 g.1.1.1 (omega arith) g.1.1.3) in
      subst (FitsSigned w64) (sym g.2) (negative_fits g.0 most)
  | inr g ↦
      let most : g.0 ≤ 9223372036854775807 = natural_most 9223372036854775807 g.0 t (omega arith) g.1 in
      subst (FitsSigned w64) (sym g.2) (omega arith)
]

-- a value as the code has it, nested no deeper
abbrev IsWithin : ℕ → Tree → Type 0
IsWithin depth v = IsProper v × (nesting v ≤ depth)

leaf_within : (depth : ℕ) (v : Tree) (t : List ℕ) → leaf v t → IsWithin depth v
leaf_within depth v t s = elim s as (λ _. IsWithin depth v) [
  | inl g ↦ subst (IsWithin depth) (sym g.2) (texts_utf8 g.0 t g.1, omega arith)
  | inr g ↦ subst (IsWithin depth) (sym g.2) (number_within g.0 t g.1, omega arith)
]

abbrev AreWithin : ℕ → List Tree → Type 0
AreWithin depth vs = AreProper (trees vs) × (trees_nesting (trees vs) ≤ depth)

others_within : (depth : ℕ) (V : Grammar Tree) → ((v : Tree) (t : List ℕ) → V v t → IsWithin depth v) → (vs : List Tree) (t : List ℕ) → many (after (codes ",") V) vs t → AreWithin depth vs
others_within depth V h [] t s = (tt, omega arith)
others_within depth V h (v ∷ vs) t s =
    let first = of_after (IsWithin depth) (codes ",") V h v s.0 s.2 in
    let others = others_within depth V h vs s.1 s.3 in
    ((first.0, others.0), omega (arith, first.1, others.1))

elements_within : (depth : ℕ) (V : Grammar Tree) → ((v : Tree) (t : List ℕ) → V v t → IsWithin depth v) → (vs : List Tree) (t : List ℕ) → optional [] (listed V (codes ",")) vs t → AreWithin depth vs
elements_within depth V h vs t s = elim s as (λ _. AreWithin depth vs) [
  | inl g ↦
      let first = h g.0.0 g.1.0 g.1.2 in
      let others = others_within depth V h g.0.1 g.1.1 g.1.3 in
      subst (AreWithin depth) (sym g.2) ((first.0, others.0), omega (arith, first.1, others.1))
  | inr g ↦ subst (AreWithin depth) (sym g.2) (tt, omega arith)
]

bracketed_within : (depth : ℕ) (V : Grammar Tree) → ((v : Tree) (t : List ℕ) → V v t → IsWithin depth v) → (vs : List Tree) (t : List ℕ) → bracketed V vs t → AreWithin depth vs
bracketed_within depth V h =
    of_after (AreWithin depth) (codes "[") (closed (optional [] (listed V (codes ","))) (codes "]"))
    (of_closed (AreWithin depth) (optional [] (listed V (codes ","))) (codes "]") (elements_within depth V h))

-- a value that is spelled is one of the code's, and nests no deeper
pub value_within : (depth : ℕ) (v : Tree) (t : List ℕ) → value depth v t → IsProper v × (nesting v ≤ depth)
unfolding value
value_within zero v t s = leaf_within zero v t s
value_within (suc depth) v t s = elim s as (λ _. IsWithin (suc depth) v) [
  | inl g ↦
      let inside = bracketed_within depth (value depth) (value_within depth) g.0 t g.1 in
      subst (IsWithin (suc depth)) (sym g.2) (inside.0, omega (arith, inside.1))
  | inr g ↦ leaf_within (suc depth) v t g
]

-- so are the values of a list
pub values_within : (depth : ℕ) (vs : List Tree) (t : List ℕ) → bracketed (value depth) vs t → AreProper (trees vs) × (trees_nesting (trees vs) ≤ depth)
values_within depth = bracketed_within depth (value depth) (value_within depth)

index_within : (i : ℕ) (t : List ℕ) → path_index i t → i ≤ 65535
index_within i t s = natural_most 65535 i t (omega arith) s

steps_within : (most : ℕ) (steps t : List ℕ) → upto most (after (codes ".") path_index) steps t → (length steps ≤ most) × AllByRecursion (λ i. i ≤ 65535) steps
steps_within most [] t s = (omega arith, tt)
steps_within zero (i ∷ steps) t s = absurd s
steps_within (suc most) (i ∷ steps) t s =
    let others = steps_within most steps s.1 s.3 in
    (omega (arith, others.0), (of_after (λ j. j ≤ 65535) (codes ".") path_index index_within i s.0 s.2, others.1))

indices_within : (p t : List ℕ) → optional [] (more_of path_index (upto 15 (after (codes ".") path_index))) p t → IsPath p
indices_within p t s = elim s as (λ _. IsPath p) [
  | inl g ↦
      let others = steps_within 15 g.0.1 g.1.1 g.1.3 in
      subst IsPath (sym g.2) (omega (arith, others.0), (index_within g.0.0 g.1.0 g.1.2, others.1))
  | inr g ↦ subst IsPath (sym g.2) (omega arith, tt)
]

pub path_within : (p t : List ℕ) → path p t → IsPath p
path_within p t s = of_after IsPath (codes ".") (optional [] (more_of path_index (upto 15 (after (codes ".") path_index)))) indices_within p t s

abbrev IsKey : Key → Type 0
IsKey k = IsPath k.path

key_within : (k : Key) (t : List ℕ) → key k t → IsKey k
key_within k t s = elim s as (λ _. IsKey k) [
  | inl g ↦ subst IsKey (sym g.2) (of_after IsPath (codes "desc ") path path_within g.0 t g.1)
  | inr g ↦ subst IsKey (sym g.2) (path_within g.0 t g.1)
]

keys_within : (most : ℕ) (keys : List Key) (t : List ℕ) → upto most (after (codes ", ") key) keys t → (length keys ≤ most) × AllByRecursion IsKey keys
keys_within most [] t s = (omega arith, tt)
keys_within zero (k ∷ keys) t s = absurd s
keys_within (suc most) (k ∷ keys) t s =
    let others = keys_within most keys s.1 s.3 in
    (omega (arith, others.0), (of_after IsKey (codes ", ") key key_within k s.0 s.2, others.1))

pub order_within : (keys : List Key) (t : List ℕ) → order keys t → IsOrder keys
order_within keys t s =
    let others = keys_within 7 s.0.1 s.1.1 s.1.3 in
    subst IsOrder (sym s.2) (omega arith, omega (arith, others.0), (key_within s.0.0 s.1.0 s.1.2, others.1))

two_within : (k : ℕ → ℕ → Bounds) → ((a b : ℕ) → a ≤ 4294967295 → b ≤ 4294967295 → IsBounds (k a b)) → (b : Bounds) (t : List ℕ) → two_numbers k b t → IsBounds b
two_within k h b t s =
    let second : s.0.1 ≤ 4294967295 = omega (arith, s.1.3.2, natural_most 4294967295 s.1.3.0.1 s.1.3.1.1 (omega arith) s.1.3.1.3) in
    subst IsBounds (sym s.2) (h s.0.0 s.0.1 (natural_most 4294967295 s.0.0 s.1.0 (omega arith) s.1.2) second)

pub bounds_within : (b : Bounds) (t : List ℕ) → bounds b t → IsBounds b
bounds_within b t s = elim s as (λ _. IsBounds b) [
  | inl g ↦ of_after IsBounds (codes "head ") (two_numbers Head) (two_within Head (λ a c l m. (l, m))) b t g
  | inr g ↦ elim g as (λ _. IsBounds b) [
    | inl h ↦ of_after IsBounds (codes "tail ") (two_numbers Tail) (two_within Tail (λ a c l m. (l, m))) b t h
    | inr h ↦ elim h as (λ _. IsBounds b) [
      | inl i ↦ of_after IsBounds (codes "middle ") (two_numbers Middle) (two_within Middle (λ a c l m. (l, m))) b t i
      | inr i ↦ absurd i
    ]
  ]
]

-- two things between parentheses
pair_within : {A : Type 0} (P : A → Type 0) (V : Grammar A) → ((a : A) (t : List ℕ) → V a t → P a) → (ab : A × A) (t : List ℕ) → closed (apart V (codes ",") V) (codes ")") ab t → P ab.0 × P ab.1
pair_within {A = A} P V h = of_closed (λ ab. P ab.0 × P ab.1) (apart V (codes ",") V) (codes ")") both_within
  where
    both_within : (ab : A × A) (t : List ℕ) → apart V (codes ",") V ab t → P ab.0 × P ab.1
    both_within ab t s = (h ab.0 s.0 s.2, of_after P (codes ",") V h ab.1 s.1 s.3)

flat_within : (depth : ℕ) (f : Func) (t : List ℕ) → flat_func f t → IsFunc depth f
flat_within depth f t s = elim s as (λ _. IsFunc depth f) [
  | inl g ↦ subst (IsFunc depth) (sym g.2) (path_within g.0 t g.1)
  | inr s ↦ elim s as (λ _. IsFunc depth f) [
    | inl g ↦ subst (IsFunc depth) (sym g.2) (texts_utf8 g.0 t g.1)
    | inr s ↦ elim s as (λ _. IsFunc depth f) [
      | inl g ↦ subst (IsFunc depth) (sym g.2) (of_after IsPath (codes "count(") (closed path (codes ")")) (of_closed IsPath path (codes ")") path_within) g.0 t g.1)
      | inr s ↦ elim s as (λ _. IsFunc depth f) [
        | inl g ↦
            subst (IsFunc depth) (sym g.2)
            (of_after (λ ab. IsPath ab.0 × IsPath ab.1) (codes "sum(") (closed (apart path (codes ",") path) (codes ")")) (pair_within IsPath path path_within) g.0 t g.1)
        | inr g ↦ subst (IsFunc depth) (sym g.2) (number_within g.0 t g.1)
      ]
    ]
  ]
]

parts_within : (depth : ℕ) (V : Grammar Func) → ((f : Func) (t : List ℕ) → V f t → IsFunc depth f) → (fs : List Func) (t : List ℕ) → many (after (codes ",") V) fs t → AreFuncs depth (funcs fs)
parts_within depth V h [] t s = tt
parts_within depth V h (f ∷ fs) t s = (of_after (IsFunc depth) (codes ",") V h f s.0 s.2, parts_within depth V h fs s.1 s.3)

listed_within : (depth : ℕ) (V : Grammar Func) → ((f : Func) (t : List ℕ) → V f t → IsFunc depth f) → (fs : List Func) (t : List ℕ) → optional [] (listed V (codes ",")) fs t → AreFuncs depth (funcs fs)
listed_within depth V h fs t s = elim s as (λ _. AreFuncs depth (funcs fs)) [
  | inl g ↦ subst (λ x. AreFuncs depth (funcs x)) (sym g.2) (h g.0.0 g.1.0 g.1.2, parts_within depth V h g.0.1 g.1.1 g.1.3)
  | inr g ↦ subst (λ x. AreFuncs depth (funcs x)) (sym g.2) tt
]

pub func_within : (depth : ℕ) (f : Func) (t : List ℕ) → func depth f t → IsFunc depth f
unfolding func
func_within zero f t s = flat_within zero f t s
func_within (suc depth) f t s = elim s as (λ _. IsFunc (suc depth) f) [
  | inl g ↦
      subst (IsFunc (suc depth)) (sym g.2)
      (of_after (λ ab. IsFunc depth ab.0 × IsFunc depth ab.1) (codes "add(") (closed (apart (func depth) (codes ",") (func depth)) (codes ")")) (pair_within (IsFunc depth) (func depth) (func_within depth)) g.0 t g.1)
  | inr s ↦ elim s as (λ _. IsFunc (suc depth) f) [
    | inl g ↦
        subst (IsFunc (suc depth)) (sym g.2)
        (of_after (λ fs. AreFuncs depth (funcs fs)) (codes "[") (closed (optional [] (listed (func depth) (codes ","))) (codes "]"))
        (of_closed (λ fs. AreFuncs depth (funcs fs)) (optional [] (listed (func depth) (codes ","))) (codes "]") (listed_within depth (func depth) (func_within depth))) g.0 t g.1)
    | inr g ↦ flat_within (suc depth) f t g
  ]
]
