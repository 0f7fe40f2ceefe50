use Rattle.std.proofs.Common.{◌≡◌, ◌+◌, ◌≤◌, Bool, List, length, drop, vec_len, vec_capacity}
use Rattle.std.specs.Cmp.{IsTotalOrder}
use Rattle.spec_sorting.specs.Tree.{Tree}
use Rattle.spec_sorting.specs.Arrangement.{Comparison}
use Rattle.gl_order.specs.Arranged.{IsOrdered, spare}
use Rattle.gl_arranged.specs.Changes.{without}
use Rattle.gl_arranged.specs.Marks.{LeadMarks, inserted_len}
use Rattle.gl_arranged.specs.Steps.{LeadsBackTo}
use Rattle.gl_arranged.proofs.follow.take_out.Given as goal

abbrev pub invariant-loop-left : goal.invariant-loop-left
invariant-loop-left l = record {
  within : l.left ≤ length l.gone;
  ordered : (compare : Comparison) (xs : List Tree) → IsTotalOrder compare → IsOrdered compare xs l.fn.tree → IsOrdered compare (without (drop l.left l.gone) xs) l.tree;
  undo : LeadsBackTo l.fn.undo.items l.fn.tree l.undo.items l.tree;
  marks : (compare : Comparison) (xs : List Tree) (start : List Bool) → IsTotalOrder compare → IsOrdered compare xs l.fn.tree → LeadMarks l.fn.undo.items start l.fn.tree.marks → LeadMarks l.undo.items start l.tree.marks;
  inserted : inserted_len l.undo.items ≡ inserted_len l.fn.undo.items;
  spare : spare l.tree + l.left ≡ spare l.fn.tree + length l.gone;
  places : length l.tree.places + length l.gone ≡ length l.fn.tree.places + l.left;
  room : l.tree.room ≡ l.fn.tree.room;
  len : vec_len l.undo + l.left ≡ vec_len l.fn.undo + length l.gone;
  capacity : vec_capacity l.undo ≡ vec_capacity l.fn.undo;
}

abbrev pub decreases-loop-left : goal.decreases-loop-left
decreases-loop-left l = l.left
