-- The touched classes of the old list, which haven't met those of the new one.
use Rattle.std.specs.Prelude.{not, Bool, List, map}
use Rattle.spec_sorting.specs.Tree.{Tree}
use Rattle.spec_sorting.specs.Sides.{sides}
use Rattle.spec_sorting.specs.Delta.{Delta}
use Rattle.spec_sorting.specs.Arrangement.{Comparison, arrangement, same_key_marks}
use Rattle.gl_arranged.specs.Changes.{AreRanked}
use Rattle.gl_arranged.specs.declared.changed.Ranked.{Ranked}
use Rattle.gl_classes.specs.declared.touched.Touched.{Touched}
use Rattle.gl_classes.specs.Touching.{AreTouched}

-- the marks of the first members of a list
abbrev pub first_marks_of : Comparison → List Tree → List Bool
first_marks_of compare xs = map not (same_key_marks compare xs (arrangement compare xs))

-- the touched classes of the old list, before those of the new list met them
pub record AreTouchedOld (compare : Comparison) (xs : List Tree) (d : Delta)
    (olds : List Touched) : Type 0 where
  pub gone : List Ranked
  pub gone_are : AreRanked (arrangement compare xs) (sides d).old gone
  pub touched : AreTouched (first_marks_of compare xs) gone olds
