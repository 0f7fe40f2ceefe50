-- Deltas by the numbers of listeners, and what listeners are told of them.
use Rattle.std.specs.Prelude.{◌≡◌, ℕ, zero, suc, Bool, true, false, List, [], ◌∷◌, length, flat_map, Option, Some, None, slice_get, slice_index_or, Contains, ⊤}
use Rattle.spec_states.specs.Delta.{Delta, is_identity}
use Rattle.spec_states.specs.ListenerDecl.{ListenerDecl}
use Rattle.spec_states.specs.Plan.{Plan}
use Rattle.spec_states.specs.Wave.{Deltas, delta_in}
use Rattle.spec_runs.specs.Telling.{Telling, telling_of}
use Rattle.gl_delta.specs.Model.{DeltaModel}

-- this is a delta; nothing may stand for an identity
abbrev pub IsFor : Delta → Option DeltaModel → Type 0
IsFor delta None = is_identity delta ≡ true
IsFor delta (Some d) = d.pieces ≡ delta

-- under the number of each listener of a plan stands the delta of its list
pub record AreHeard (p : Plan) (lists : Deltas) (heard : List (Option DeltaModel)) : Type 0 where
  pub long : length heard ≡ length p.listeners
  pub each : (k : ℕ) (d : ListenerDecl) → slice_get p.listeners k ≡ Some d
      → IsFor (delta_in lists d.list) (slice_index_or heard k None)

-- of some deltas of the lists
abbrev pub HasHeard : Plan → List (Option DeltaModel) → Type 0
HasHeard p heard = (lists : Deltas) × AreHeard p lists heard

-- whether the listener of a number is an echo
abbrev pub is_echo : List ListenerDecl → ℕ → Bool
is_echo [] k = false
is_echo (d ∷ ds) zero = d.echo
is_echo (d ∷ ds) (suc k) = is_echo ds k

-- what is told of a delta, if there is one
abbrev pub told_if : ℕ → ℕ → Bool → Option DeltaModel → List Telling
told_if place listener echo None = []
told_if place listener echo (Some d) = telling_of place listener echo d.pieces

-- what a listener is told of the delta under its number
abbrev pub heard_one : List ListenerDecl → ℕ → List (Option DeltaModel) → ℕ → List Telling
heard_one listeners place heard k =
    told_if place k (is_echo listeners k) (slice_index_or heard k None)

-- what listeners are told, one after another
abbrev pub heard_all : List ListenerDecl → ℕ → List (Option DeltaModel) → List ℕ → List Telling
heard_all listeners place heard turn = flat_map (heard_one listeners place heard) turn

-- none of these numbers is there twice
abbrev pub AreOnce : List ℕ → Type 0
AreOnce [] = ⊤
AreOnce (k ∷ ks) = (¬ Contains ks k) × AreOnce ks
