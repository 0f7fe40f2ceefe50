-- Why a list isn't opened, or doesn't follow.
use Rattle.std.proofs.Common.{◌≡◌, ℕ, ◌<◌, List, length, refl, sym, subst}
use Rattle.std.specs.Prelude.{Result, Ok, Err, IfErr, ◌↔◌}
use Rattle.spec_states.specs.Tree.{Tree}
use Rattle.spec_states.specs.View.{view_of, collection}
use Rattle.gl_source.specs.declared.fault.OpenFault.{OpenFault}
use Rattle.gl_source.specs.declared.fault.OpenFault.TheVariants.{TooLong, Memory}
use Rattle.gl_kernels.specs.CollectionKept.{Kept}
use Rattle.gl_kernels.specs.KernelFault.{KernelFault}
use Rattle.gl_kernels.specs.KernelFault.TheVariants as k
use Rattle.gl_graph.specs.declared.derived.Derived.TheVariants.{Collection}
use Rattle.gl_graph.specs.Derived as derived
use Rattle.gl_graph.specs.Opening.{IsOver, IsFaultBy}

pub over_is : {X : Type 0} (r : Result X OpenFault) (limit n : ℕ) → ((len : ℕ) → (r ≡ Err (TooLong len)) ↔ ((limit < len) × (len ≡ n))) → IfErr r (IsOver limit n)
over_is (Ok x) limit n h = tt
over_is (Err (TooLong len)) limit n h = let both = (h len).0 refl in (both.1, subst (λ m. limit < m) both.1 both.0)
over_is (Err Memory) limit n h = tt

-- the same where a list over another was made
pub over_by : {X : Type 0} (r : Result X KernelFault) (limit n : ℕ) (fault : KernelFault) (why : OpenFault)
    → ((len : ℕ) → (r ≡ Err (k.TooLong len)) ↔ ((limit < len) × (len ≡ n))) → r ≡ Err fault → IsFaultBy fault why → IsOver limit n why
over_by r limit n (k.TooLong len) why h is by =
    let both = (h len).0 is in
    subst (IsOver limit n) (sym by) (both.1, subst (λ m. limit < m) both.1 both.0)
over_by r limit n k.Memory why h is by = subst (IsOver limit n) (sym by) tt

-- why a collection doesn't follow
pub collection_over : {X : Type 0} (c : Kept) (xs : List Tree) (r : Result X KernelFault)
    → ((len : ℕ) → (r ≡ Err (k.TooLong len)) ↔ ((c.limit < len) × (len ≡ length (view_of (collection c.kids) xs))))
    → IfErr r (derived.IsOver (Collection c) xs)
collection_over c xs (Ok x) h = tt
collection_over c xs (Err (k.TooLong len)) h = (h len).0 refl
collection_over c xs (Err k.Memory) h = tt
