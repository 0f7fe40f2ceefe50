-- Numbers of names.
use Rattle.std.proofs.Common.{◌≡◌, ℕ, suc, ◌+◌, Bool, true, false, cond, List, [], ◌∷◌, ◌++◌, length, Option, Some, None, refl, sym, ap, ◌∙◌, arith, ltb, not, true≢false}
use Rattle.std.specs.Prelude.{option_map, position, bytes_eq}
use Rattle.std.specs.Ordering.{nat_cmp}
use Rattle.std.specs.Cmp.Lexicographic.{slice_cmp}
use Rattle.std.specs.BTreeMap.{BTreeMap, get, Updates}
use Rattle.std.proofs.lemmas.Slice.Eq.{bytes_eq-Decides}
use Rattle.std.proofs.lemmas.Map.Text.{is_eq-slice_cmp}
use Rattle.gl_plan_faults.specs.Table.{HasNumbers}
use Rattle.std.specs.Option.{option_or, is_some}
use Rattle.std.specs.List.{prefix_len}
use Rattle.std.proofs.lemmas.Bool.{lt-ltb}
use Rattle.std.proofs.lemmas.Bool.Decides.{nat_tests}
use Rattle.spec_plans.specs.Names.{number_of}
use Rattle.spec_basics.proofs.Numbers.{ltb-suc}
use Rattle.spec_plans.proofs.Numbers.{number_step}

abbrev no_number : Option ℕ
no_number = None

module _ {X : Type 0} (p : X → Bool) where
  -- the first place in a list with an item in front
  pub position_in_prefix : (x : X) (xs : List X) → position p (x ∷ xs) ≡ cond (p x) (Some 0) (option_map suc (position p xs))
  position_in_prefix x xs = number_step (p x) (prefix_len (λ y. not (p y)) xs) (length xs)

  -- the first place in a list with an item more
  pub position_more : (xs : List X) (y : X) → position p (xs ++ y ∷ []) ≡ option_or (position p xs) (cond (p y) (Some (length xs)) None)
  position_more [] y = position_in_prefix y [] ∙ alone (p y)
    where
      alone : (t : Bool) → cond t (Some 0) (option_map suc no_number) ≡ cond t (Some 0) None
      alone true = refl
      alone false = refl
  position_more (x ∷ xs) y =
      position_in_prefix x (xs ++ y ∷ [])
      ∙ ap (λ o. cond (p x) (Some 0) (option_map suc o)) (position_more xs y)
      ∙ later (p x) (p y) (position p xs)
      ∙ ap (λ o. option_or o (cond (p y) (Some (length (x ∷ xs))) None)) (sym (position_in_prefix x xs))
    where
      later : (t s : Bool) (o : Option ℕ) → cond t (Some 0) (option_map suc (option_or o (cond s (Some (length xs)) None))) ≡ option_or (cond t (Some 0) (option_map suc o)) (cond s (Some (suc (length xs))) None)
      later true s o = refl
      later false true None = refl
      later false false None = refl
      later false true (Some k) = refl
      later false false (Some k) = refl

-- the first number of a name, among names with one more
number_more : (names : List (List ℕ)) (name q : List ℕ) → number_of (names ++ name ∷ []) q ≡ option_or (number_of names q) (cond (bytes_eq name q) (Some (length names)) None)
number_more names name q = position_more (λ other. bytes_eq other q) names name

same_name : (names : List (List ℕ)) (name q : List ℕ) → bytes_eq name q ≡ true → number_of names q ≡ number_of names name
same_name names name q e = ap (number_of names) (sym ((bytes_eq-Decides name q).0 e))

-- a name that was there keeps its first number
pub still_there : (m : BTreeMap (List ℕ) ℕ) (names : List (List ℕ)) (name : List ℕ) → true ≡ is_some (get (slice_cmp nat_cmp) m name) → HasNumbers m names → HasNumbers m (names ++ name ∷ [])
still_there m names name there has q = has q ∙ sym (number_more names name q ∙ kept (bytes_eq name q) refl (number_of names q) refl)
  where
    is_there : is_some (number_of names name) ≡ true
    is_there = ap is_some (sym (has name)) ∙ sym there

    first : (o : Option ℕ) (c : Option ℕ) → is_some o ≡ true → option_or o c ≡ o
    first None c e = absurd (true≢false (sym e))
    first (Some k) c e = refl

    none_more : (o : Option ℕ) → option_or o None ≡ o
    none_more None = refl
    none_more (Some k) = refl

    kept : (t : Bool) → bytes_eq name q ≡ t → (o : Option ℕ) → number_of names q ≡ o → option_or o (cond t (Some (length names)) None) ≡ o
    kept true e o e2 = first o (Some (length names)) (ap is_some (sym e2 ∙ same_name names name q e) ∙ is_there)
    kept false e o e2 = none_more o

-- a name that was not there gets the next number
pub put_there : (m n : BTreeMap (List ℕ) ℕ) (names : List (List ℕ)) (name : List ℕ) → false ≡ is_some (get (slice_cmp nat_cmp) m name) → Updates (slice_cmp nat_cmp) m n name (Some (length names)) → HasNumbers m names → HasNumbers n (names ++ name ∷ [])
put_there m n names name away updates has q =
    updates.0 q
    ∙ ap (λ t. cond t (Some (length names)) (get (slice_cmp nat_cmp) m q)) (is_eq-slice_cmp name q)
    ∙ ap (λ o. cond (bytes_eq name q) (Some (length names)) o) (has q)
    ∙ other (bytes_eq name q) refl (number_of names q) refl
    ∙ sym (number_more names name q)
  where
    is_away : is_some (number_of names name) ≡ false
    is_away = ap is_some (sym (has name)) ∙ sym away

    gone : (o : Option ℕ) → is_some o ≡ false → Some (length names) ≡ option_or o (Some (length names))
    gone None e = refl
    gone (Some k) e = absurd (true≢false e)

    none_more : (o : Option ℕ) → o ≡ option_or o None
    none_more None = refl
    none_more (Some k) = refl

    other : (t : Bool) → bytes_eq name q ≡ t → (o : Option ℕ) → number_of names q ≡ o → cond t (Some (length names)) o ≡ option_or o (cond t (Some (length names)) None)
    other true e o e2 = gone o (ap is_some (sym e2 ∙ same_name names name q e) ∙ is_away)
    other false e o e2 = none_more o
