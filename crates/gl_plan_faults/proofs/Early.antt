-- Which names stand among the first.
use Rattle.std.proofs.Common.{◌≡◌, ℕ, suc, Bool, true, false, cond, List, [], ◌∷◌, ◌++◌, length, map, take, drop, Option, Some, None, refl, sym, ap, ◌∙◌, arith, ltb}
use Rattle.std.specs.Prelude.{option_map, position, filter_map, bytes_eq}
use Rattle.std.specs.Option.{is_some}
use Rattle.std.proofs.lemmas.List.{take-append-drop, length-map, map-append}
use Rattle.std.proofs.lemmas.List.Elements.{filter_map-append}
use Rattle.std.proofs.lemmas.Bool.{lt-ltb}
use Rattle.std.proofs.lemmas.Bool.Decides.{nat_tests}
use Rattle.gl_lines.specs.declared.line.NumberedLine.{NumberedLine}
use Rattle.spec_plans.specs.Lines.{Head, Hearer, head_of, hearer_of}
use Rattle.spec_plans.specs.Names.{heads, hearers, list_names, listener_names, number_of}
use Rattle.gl_plan_faults.specs.Passed.{is_early}
use Rattle.gl_plan_faults.proofs.Numbers.{position_in_prefix}

module _ {X : Type 0} (p : X → Bool) where
  -- a first place among the first items
  pub early : (xs ys : List X) → is_some (position p xs) ≡ is_early (position p (xs ++ ys)) (length xs)
  early [] ys = none (position p ys)
    where
      none : (o : Option ℕ) → false ≡ is_early o 0
      none None = refl
      none (Some k) = sym (never k)
        where
          never : (k : ℕ) → ltb k 0 ≡ false
          never k = grind (arith, nat_tests)
  early (x ∷ xs) ys =
      ap is_some (position_in_prefix p x xs)
      ∙ step (p x) (position p xs) (position p (xs ++ ys)) (early xs ys)
      ∙ ap (λ o. is_early o (suc (length xs))) (sym (position_in_prefix p x (xs ++ ys)))
    where
      more : (o q : Option ℕ) → is_some o ≡ is_early q (length xs) → is_some (option_map suc o) ≡ is_early (option_map suc q) (suc (length xs))
      more None None e = refl
      more (Some k) None e = e
      more None (Some j) e = e ∙ sym (shift j (length xs))
        where
          shift : (j n : ℕ) → ltb (suc j) (suc n) ≡ ltb j n
          shift j n = grind (arith, nat_tests)
      more (Some k) (Some j) e = e ∙ sym (shift2 j (length xs))
        where
          shift2 : (j n : ℕ) → ltb (suc j) (suc n) ≡ ltb j n
          shift2 j n = grind (arith, nat_tests)

      step : (t : Bool) (o q : Option ℕ) → is_some o ≡ is_early q (length xs) → is_some (cond t (Some 0) (option_map suc o)) ≡ is_early (cond t (Some 0) (option_map suc q)) (suc (length xs))
      step true o q e = sym (lt-ltb 0 (suc (length xs)) (omega arith))
      step false o q e = more o q e

list_names_split : (lines : List NumberedLine) (i : ℕ) → list_names lines ≡ list_names (take i lines) ++ list_names (drop i lines)
list_names_split lines i =
    let f : Head → List ℕ = λ h. h.name.name in
    let g : NumberedLine → Option Head = λ l. head_of l.what in
    ap (λ ls. map f (filter_map g ls)) (sym (take-append-drop i lines))
    ∙ ap (map f) (filter_map-append g (take i lines) (drop i lines))
    ∙ map-append f (heads (take i lines)) (heads (drop i lines))

listener_names_split : (lines : List NumberedLine) (i : ℕ) → listener_names lines ≡ listener_names (take i lines) ++ listener_names (drop i lines)
listener_names_split lines i =
    let f : Hearer → List ℕ = λ h. h.name.name in
    let g : NumberedLine → Option Hearer = λ l. hearer_of l.what in
    ap (λ ls. map f (filter_map g ls)) (sym (take-append-drop i lines))
    ∙ ap (map f) (filter_map-append g (take i lines) (drop i lines))
    ∙ map-append f (hearers (take i lines)) (hearers (drop i lines))

-- the name of an earlier list
pub list_taken : (lines : List NumberedLine) (i : ℕ) (name : List ℕ) → is_some (number_of (list_names (take i lines)) name) ≡ is_early (number_of (list_names lines) name) (length (heads (take i lines)))
list_taken lines i name =
    early (λ other. bytes_eq other name) (list_names (take i lines)) (list_names (drop i lines))
    ∙ ap (λ ns. is_early (number_of ns name) (length (list_names (take i lines)))) (sym (list_names_split lines i))
    ∙ ap (is_early (number_of (list_names lines) name)) (length-map (heads (take i lines)) (λ (h : Head). h.name.name))

-- the name of an earlier listener
pub listener_taken : (lines : List NumberedLine) (i : ℕ) (name : List ℕ) → is_some (number_of (listener_names (take i lines)) name) ≡ is_early (number_of (listener_names lines) name) (length (hearers (take i lines)))
listener_taken lines i name =
    early (λ other. bytes_eq other name) (listener_names (take i lines)) (listener_names (drop i lines))
    ∙ ap (λ ns. is_early (number_of ns name) (length (listener_names (take i lines)))) (sym (listener_names_split lines i))
    ∙ ap (is_early (number_of (listener_names lines) name)) (length-map (hearers (take i lines)) (λ (h : Hearer). h.name.name))
