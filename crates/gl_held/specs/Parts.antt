-- Deltas that lead on one from the other, kept as they are: the parts of their composition.
use Rattle.std.specs.Prelude.{◌≡◌, ⊤, List, [], ◌∷◌, ◌++◌, map}
use Rattle.std.specs.declared.sync.Arc.{Arc}
use Rattle.spec_lists.specs.Piece.{old_len, new_len}
use Rattle.spec_lists.specs.Delta.{Delta, composed}
use Rattle.gl_delta.specs.Model.{DeltaModel}

-- what is shared of them
abbrev pub parts_of : {Z : Type 0} → List (Arc DeltaModel Z) → List Delta
parts_of arcs = map (λ a. a.value.pieces) arcs

-- there is a first one, and each other one begins where the one before it has led to
abbrev pub LeadOn : List Delta → Type 0
LeadOn [] = ⊥
LeadOn (part ∷ []) = ⊤
LeadOn (part ∷ next ∷ parts) = (new_len part ≡ old_len next) × LeadOn (next ∷ parts)

-- their composition
abbrev pub together : List Delta → Delta
together [] = []
together (part ∷ []) = part
together (part ∷ next ∷ parts) = composed part (together (next ∷ parts))

-- the composition goes on with one delta more
pub record GoesOn (parts : List Delta) (d : Delta) (made : List Delta) : Type 0 where
  pub leads : LeadOn made
  pub same : together made ≡ composed (together parts) d
