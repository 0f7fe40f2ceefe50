-- What is told so far of another order.
use Rattle.std.specs.Prelude.{⊤, List, [], ◌∷◌}
use Rattle.spec_sorting.specs.Piece.{Piece, kept, updated, deleted, inserted}

-- elements were deleted, and nothing else was told
abbrev pub AreDeleted : List Piece → Type 0
AreDeleted [] = ⊤
AreDeleted (kept ∷ ps) = ⊥
AreDeleted (updated v w ∷ ps) = ⊥
AreDeleted (deleted v ∷ ps) = AreDeleted ps
AreDeleted (inserted w ∷ ps) = ⊥
