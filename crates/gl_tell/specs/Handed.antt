-- Deltas of lists, handed to the listeners of those lists.
use Rattle.std.specs.Prelude.{◌≡◌, ℕ, List, length, Contains, Option, Some, None, option_map, slice_get, slice_index_or}
use Rattle.spec_states.specs.Delta.{Delta}
use Rattle.spec_states.specs.ListenerDecl.{ListenerDecl}
use Rattle.spec_states.specs.Plan.{Plan}
use Rattle.gl_delta.specs.Model.{DeltaModel}

-- the pieces of the delta under a number, if there is one
abbrev pub pieces_at : List (Option DeltaModel) → ℕ → Option Delta
pieces_at deltas k = option_map (λ d. d.pieces) (slice_index_or deltas k None)

-- under the number of each listener of a plan stands the delta of its list, if there is one
pub record AreHanded (p : Plan) (deltas heard : List (Option DeltaModel)) : Type 0 where
  pub long : length heard ≡ length p.listeners
  pub each : (k : ℕ) (d : ListenerDecl) → slice_get p.listeners k ≡ Some d
      → pieces_at heard k ≡ pieces_at deltas d.list

-- these listeners were given a delta of these pieces, and the others nothing
pub record AreGiven (pieces : Delta) (listeners : List ℕ) (old new : List (Option DeltaModel)) : Type
    0 where
  pub long : length new ≡ length old
  pub here : (k : ℕ) → Contains listeners k → pieces_at new k ≡ Some pieces
  pub others : (k : ℕ) → ¬ Contains listeners k
      → slice_index_or new k None ≡ slice_index_or old k None

-- these listeners were given a delta, if there is one
abbrev pub IsHanded : Option DeltaModel → List ℕ → List (Option DeltaModel)
    → List (Option DeltaModel) → Type 0
IsHanded None listeners old new = new ≡ old
IsHanded (Some d) listeners old new = AreGiven d.pieces listeners old new
