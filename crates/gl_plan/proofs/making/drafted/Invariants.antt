use Rattle.std.proofs.Common.{◌≡◌, length, map}
use Rattle.std.specs.Prelude.{fold}
use Rattle.std.specs.Vec.Iter.{into_iter_items, into_iter_len}
use Rattle.spec_plans.specs.Making.{with_part, plan_of}
use Rattle.gl_plan.proofs.Parts.{part_by}
use Rattle.gl_plan.proofs.making.drafted.Given as goal

-- what is left, added to what there is, gives the whole
abbrev pub invariant-loop-line : goal.invariant-loop-line
invariant-loop-line l = record {
  left : fold with_part l.draft (map (part_by l.tables) (into_iter_items l.line-iterator)) ≡ plan_of l.fn.lines;
  count : into_iter_len l.line-iterator ≡ length (into_iter_items l.line-iterator);
}
