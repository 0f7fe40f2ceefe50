-- What is known where the arrangement followed a change, and the marks of the first members haven't yet.
use Rattle.std.specs.Prelude.{◌≡◌, ⊤, List, []}
use Rattle.spec_sorting.specs.Tree.{Tree}
use Rattle.spec_sorting.specs.Sides.{sides}
use Rattle.spec_sorting.specs.Delta.{Delta}
use Rattle.spec_sorting.specs.Arrangement.{arrangement, same_key_marks}
use Rattle.gl_arranged.specs.Sorting.{order_cmp}
use Rattle.gl_arranged.specs.Stands as arranged
use Rattle.gl_arranged.specs.Changes.{AreRanked, fresh_len}
use Rattle.gl_arranged.specs.Marks.{HasSteps, inserted_by}
use Rattle.gl_arranged.specs.declared.changed.Ranked.{Ranked}
use Rattle.gl_arranged.specs.declared.step.Step.{Step}
use Rattle.gl_arranged.specs.declared.arrangement.ArrangementUndo.{ArrangementUndo}
use Rattle.gl_arranged.specs.declared.arrangement.ArrangementUndo.TheVariants.{Steps, Whole}
use Rattle.gl_classes.specs.Kept.{Kept}
use Rattle.gl_classes.specs.Unmet.{first_marks_of}

-- an undo is one of steps
abbrev pub TookSteps : ArrangementUndo → Type 0
TookSteps (Steps steps) = ⊤
TookSteps (Whole whole) = ⊥

abbrev pub taken : ArrangementUndo → List Step
taken (Steps steps) = steps.items
taken (Whole whole) = []

-- the arrangement is that of the new list, and the marks are those of the old one
pub record Follows (k : Kept) (xs ys : List Tree) (d : Delta) (gone came : List Ranked)
    (undo : ArrangementUndo) : Type 0 where
  pub list : arranged.StandsFor k.list ys
  pub firsts : k.firsts.shown ≡ first_marks_of (order_cmp k.list.order) xs
  pub gone_are : AreRanked (arrangement (order_cmp k.list.order) xs) (sides d).old gone
  pub came_are : AreRanked k.list.tree.places (sides d).new came
  pub steps : HasSteps undo
      (same_key_marks (order_cmp k.list.order) xs (arrangement (order_cmp k.list.order) xs))
      k.list.tree.marks
  pub inserted : inserted_by undo ≡ fresh_len d
