use Rattle.std.proofs.Common.{◌≡◌, ◌+◌, ◌*◌, ◌^◌, ◌<◌, ◌≤◌, ℕ, Bool, List, length, drop, vec_len, vec_capacity}
use Rattle.spec_lang.specs.Sorting.{order_cmp}
use Rattle.gl_order.specs.Arranged.{IsOrdered, spare}
use Rattle.gl_arranged.specs.Changes.{without}
use Rattle.gl_arranged.specs.Marks.{LeadMarks, inserted_len}
use Rattle.gl_arranged.specs.Steps.{LeadsBackTo}
use Rattle.gl_arranged.proofs.follow.put_in.Given as goal

abbrev pub invariant-loop-changed : goal.invariant-loop-changed
invariant-loop-changed g l = record {
  ordered : IsOrdered (order_cmp l.order) (without (drop l.changed-index l.came) (g.S.Shelf.items l.input)) l.tree;
  undo : LeadsBackTo l.fn.undo.items l.fn.tree l.undo.items l.tree;
  marks : (start : List Bool) → LeadMarks l.fn.undo.items start l.fn.tree.marks → LeadMarks l.undo.items start l.tree.marks;
  inserted : inserted_len l.undo.items ≡ inserted_len l.fn.undo.items + l.changed-index;
  spare : length l.came ≤ spare l.tree + l.changed-index;
  room : l.tree.room ≡ l.fn.tree.room;
  len : vec_len l.undo ≡ vec_len l.fn.undo + l.changed-index;
  capacity : vec_capacity l.undo ≡ vec_capacity l.fn.undo;
  counted : (digits : ℕ) → length (g.S.Shelf.items l.input) < 2 ^ digits → l.steps ≤ l.fn.steps + l.changed-index * (3 * (digits + 1));
}
