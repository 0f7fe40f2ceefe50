-- How a plan goes on.
use Rattle.std.specs.Prelude.{◌≡◌, ◌+◌, ◌≤◌, ◌++◌, ℕ, List}
use Rattle.spec_lists.specs.Piece.{Piece, old_len, new_len, normal}
use Rattle.gl_kernel.specs.declared.log_step.LogStep.{LogStep}
use Rattle.gl_kernel.specs.declared.plan.Plan.{Plan}

-- so much more was told, these edits were added, and so many elements of the input are after it
pub record GoesOn {T : Type 0} (told : List Piece) (edits : List (LogStep T)) (olds : ℕ)
    (before after : Plan T) : Type 0 where
  pub told_is : after.out.pieces ≡ normal (before.out.pieces ++ told)
  pub edits_are : after.log.items ≡ before.log.items ++ edits
  pub position_is : after.position ≡ before.position + olds

-- so much more can be told: neither side passes the limit of deltas
pub record CanTell (told : List Piece) (out : List Piece) : Type 0 where
  pub olds : old_len out + old_len told ≤ 2147483647
  pub news : new_len out + new_len told ≤ 2147483647
