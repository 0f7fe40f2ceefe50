-- Writing the elements of a list one after another.
use Rattle.std.proofs.Common.{◌≡◌, ◌∙◌, ℕ, zero, suc, ◌+◌, ◌<◌, ◌≤◌, ◌++◌, List, [], ◌∷◌, length, get_or, drop, refl, ap, sym, arith, append_assoc, append-nil, Bor}
use Rattle.std.specs.Prelude.{Option, Some, None, IsSome, slice_get, pos}
use Rattle.std.specs.Option.{option_copied}
use Rattle.std.proofs.lemmas.Option.{slice_get-get_or}
use Rattle.std.proofs.lemmas.List.{drop_all}
use Rattle.spec_value.specs.Tree.{Tree, num, tree_size, trees, trees_size}
use Rattle.spec_syntax.specs.ValueText.{spelled_value, spelled_elements, spelled_others, spelled_list}
use Rattle.gl_syntax.specs.Elements.{comma_before, elements_from}
use Rattle.gl_value.proofs.Lists.{tree_size-at}

others_are : (offset : ℕ) (ts : List Tree) → elements_from (suc offset) ts ≡ spelled_others (trees ts)
others_are offset [] = refl
others_are offset (t ∷ ts) = ap (λ rest. 44 ∷ spelled_value t ++ rest) (others_are (suc offset) ts)

pub elements_are : (ts : List Tree) → elements_from 0 ts ≡ spelled_elements (trees ts)
elements_are [] = refl
elements_are (t ∷ ts) = ap (λ rest. spelled_value t ++ rest) (others_are 0 ts)

-- all elements, between brackets
pub closed : (start out : List ℕ) (ts : List Tree) (n : ℕ) → length ts ≤ n → out ++ elements_from n (drop n ts) ≡ (start ++ 91 ∷ []) ++ elements_from 0 ts → out ++ 93 ∷ [] ≡ start ++ spelled_list ts
closed start out ts n ends whole =
    let done : out ≡ (start ++ 91 ∷ []) ++ spelled_elements (trees ts) =
    sym (append-nil out) ∙ ap (λ rest. out ++ elements_from n rest) (sym (drop_all n ts ends)) ∙ whole ∙ ap (λ rest. (start ++ 91 ∷ []) ++ rest) (elements_are ts) in
    ap (λ l. l ++ 93 ∷ []) done ∙ append_assoc (start ++ 91 ∷ []) (spelled_elements (trees ts)) (93 ∷ []) ∙ append_assoc start (91 ∷ []) (spelled_elements (trees ts) ++ 93 ∷ [])

elements_step : (ts : List Tree) (from k : ℕ) (t : Tree) → slice_get ts k ≡ Some t → elements_from from (drop k ts) ≡ comma_before from ++ spelled_value t ++ elements_from (suc from) (drop (suc k) ts)
elements_step [] from k t there = cc
elements_step (u ∷ ts) from zero t there = let e : u ≡ t = cc in ap (λ v. comma_before from ++ spelled_value v ++ elements_from (suc from) ts) e
elements_step (u ∷ ts) from (suc k) t there = elements_step ts from k t there

-- one element more is written, of those from a place on
pub element_more : (out before : List ℕ) (ts : List Tree) (k : ℕ) (t : Tree) → slice_get ts k ≡ Some t → out ++ elements_from k (drop k ts) ≡ before → (out ++ comma_before k) ++ spelled_value t ++ elements_from (k + 1) (drop (k + 1) ts) ≡ before
element_more out before ts k t there whole =
    let next : elements_from k (drop k ts) ≡ comma_before k ++ spelled_value t ++ elements_from (k + 1) (drop (k + 1) ts) = let e : k + 1 ≡ suc k = omega arith in rw e (elements_step ts k k t there) in
    append_assoc (out ++ comma_before k) (spelled_value t) (elements_from (k + 1) (drop (k + 1) ts))
    ∙ append_assoc out (comma_before k) (spelled_value t ++ elements_from (k + 1) (drop (k + 1) ts))
    ∙ ap (λ l. out ++ l) (sym (append_assoc (comma_before k) (spelled_value t) (elements_from (k + 1) (drop (k + 1) ts))) ∙ sym next) ∙ whole

-- what is found at a place within the list is there
pub some_within : (found : Option (Bor Tree)) (ts : List Tree) (k : ℕ) → k < length ts → option_copied found ≡ slice_get ts k → IsSome found
some_within None ts k within is = let e : slice_get ts k ≡ Some (get_or ts k (num (pos 0))) = slice_get-get_or ts k (num (pos 0)) within in cc
some_within (Some t) ts k within is = refl
