-- How the telling goes on.
use Rattle.std.specs.Prelude.{◌≡◌, ◌+◌, ◌++◌, ℕ, List}
use Rattle.spec_views.specs.Piece.{Piece, normal}
use Rattle.gl_range.specs.declared.follow.Walk.{Walk}

-- so much more was told, and so many elements of the old and of the new input are after it
pub record GoesOn (told : List Piece) (olds news : ℕ) (before after : Walk) : Type 0 where
  pub told_is : after.out.pieces ≡ normal (before.out.pieces ++ told)
  pub old_is : after.old_position ≡ before.old_position + olds
  pub new_is : after.new_position ≡ before.new_position + news
