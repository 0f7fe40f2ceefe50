-- What contracts see of a grouping.
use Rattle.gl_kernel.specs.Values.{Stored}
use Rattle.gl_classes.specs.Kept as of_classes

-- the classes of its input, and the group of each of them
pub record Kept : Type 0 where
  pub classes : of_classes.Kept
  pub groups : Stored
