-- What was read of a delta.
use Rattle.std.specs.Prelude.{◌≡◌, ◌+◌, ◌++◌, List, map}
use Rattle.spec_sorting.specs.Piece.{Piece, inverted, old_len, new_len}
use Rattle.spec_sorting.specs.Sides as side
use Rattle.gl_arranged.specs.declared.collected.Collected.{Collected}
use Rattle.gl_arranged.specs.Changes.{changed_of}

-- these pieces were read
pub record Notes (ps : List Piece) (before after : Collected) : Type 0 where
  pub gone : after.gone.items
      ≡ before.gone.items ++ changed_of before.olds (side.olds before.news ps)
  pub came : after.came.items
      ≡ before.came.items ++ changed_of before.news (side.olds before.olds (map inverted ps))
  pub old_is : after.olds ≡ before.olds + old_len ps
  pub new_is : after.news ≡ before.news + new_len ps
