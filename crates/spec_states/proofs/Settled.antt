-- Items settled one after another, each from those that it depends on.
use Rattle.std.proofs.Common.{◌≡◌, ◌≢◌, ◌∙◌, ℕ, zero, suc, ◌<◌, List, [], ◌∷◌, ◌++◌, length, fold, refl, ap, sym, subst, arith, slice_set, length-set, inl, inr}
use Rattle.std.specs.Prelude.{unwrap_or, slice_get}
use Rattle.std.specs.List.{Contains}
use Rattle.std.proofs.lemmas.List.Elements.{Contains-append_left, Contains-append_right}
use Rattle.spec_order.proofs.Members.{Contains-cons_cases, Contains-here, Contains-later}
use Rattle.spec_states.proofs.DependencyOrder.{Follow, placed_not_left}

-- the item of a number; past the end the one that is given
abbrev pub at : {X : Type 0} → X → List X → ℕ → X
at x t k = unwrap_or (slice_get t k) x

-- the items once these have been settled, one after another
abbrev pub settle_all : {X : Type 0} → X → (ℕ → (ℕ → X) → X) → List X → List ℕ → List X
settle_all x view t ks = fold (λ u k. slice_set u k (view k (at x u))) t ks

-- what is settled at a number depends on the items that it needs alone
abbrev pub IsLocal : {X : Type 0} → (ℕ → List ℕ) → (ℕ → (ℕ → X) → X) → Type 0
IsLocal {X = X} needs view = (k : ℕ) (f g : ℕ → X) → ((i : ℕ) → Contains (needs k) i → f i ≡ g i) → view k f ≡ view k g

pub set_same : {X : Type 0} (x : X) (t : List X) (k : ℕ) (v : X) → k < length t → at x (slice_set t k v) k ≡ v
set_same x [] k v h = absurd (omega (arith, h))
set_same x (y ∷ t) zero v h = refl
set_same x (y ∷ t) (suc k) v h = set_same x t k v (omega arith)

pub set_other : {X : Type 0} (x : X) (t : List X) (j k : ℕ) (v : X) → k ≢ j → at x (slice_set t j v) k ≡ at x t k
set_other x [] j k v h = refl
set_other x (y ∷ t) zero zero v h = absurd (h refl)
set_other x (y ∷ t) zero (suc k) v h = refl
set_other x (y ∷ t) (suc j) zero v h = refl
set_other x (y ∷ t) (suc j) (suc k) v h = set_other x t j k v (λ e. h (ap suc e))

-- items that are settled leave the others
later : {X : Type 0} (x : X) (view : ℕ → (ℕ → X) → X) (t : List X) (ks : List ℕ) (k : ℕ) → ¬ Contains ks k → at x (settle_all x view t ks) k ≡ at x t k
later x view t [] k h = refl
later x view t (j ∷ js) k h =
    later x view (slice_set t j (view j (at x t))) js k (λ c. h (Contains-later j js k c))
    ∙ set_other x t j k _ (λ e. h (Contains-here j js k (sym e)))

-- each item that is settled is the view of what all are at the end
pub settled_is : {X : Type 0} (x : X) (needs : ℕ → List ℕ) (view : ℕ → (ℕ → X) → X) → IsLocal needs view → (t : List X) (placed ks : List ℕ) (k : ℕ) → Follow needs placed ks → Contains ks k → k < length t
    → at x (settle_all x view t ks) k ≡ view k (at x (settle_all x view t ks))
settled_is x needs view local t placed [] k h c within = absurd (omega (arith, c.1))
settled_is {X = X} x needs view local t placed (j ∷ js) k h c within =
    let first : List X = slice_set t j (view j (at x t)) in
    let end : List X = settle_all x view first js in
    elim (Contains-cons_cases j js k c) [
      | inl e ↦
          let gone : (i : ℕ) → Contains (placed ++ j ∷ []) i → ¬ Contains js i = λ i d. placed_not_left needs (placed ++ j ∷ []) js i h.2 d in
          let here : at x end j ≡ view j (at x t) =
          later x view first js j (gone j (Contains-append_right placed (j ∷ []) j (Contains-here j [] j refl)))
          ∙ set_same x t j _ (subst (λ m. m < length t) (sym e) within) in
          let other : (i : ℕ) → Contains (needs j) i → at x t i ≡ at x end i =
          λ i d.
          let was : Contains placed i = h.0 i d in
          sym (later x view first js i (gone i (Contains-append_left placed (j ∷ []) i was)) ∙ set_other x t j i _ (λ same. h.1 (subst (λ m. Contains placed m) same was))) in
          subst (λ m. at x end m ≡ view m (at x end)) e (here ∙ local j (at x t) (at x end) other)
      | inr there ↦ settled_is x needs view local first (placed ++ j ∷ []) js k h.2 there (rw (length-set t j (view j (at x t))) within)
    ]

pub length-settled : {X : Type 0} (x : X) (view : ℕ → (ℕ → X) → X) (t : List X) (ks : List ℕ) → length (settle_all x view t ks) ≡ length t
length-settled x view t [] = refl
length-settled x view t (k ∷ ks) = length-settled x view (slice_set t k (view k (at x t))) ks ∙ length-set t k _
