use Rattle.std.proofs.Common.{◌≡◌, ◌≤◌, vec_len}
use Rattle.gl_kernel.specs.Edits.{played, CanPlay}
use Rattle.gl_kernel.proofs.log.take_back.Given as goal

abbrev pub invariant-edits : goal.invariant-edits
invariant-edits g l = record {
  left : played l.log.items (g.E.Editable.items l.list) ≡ played l.initial.log.items (g.E.Editable.items l.initial.list);
  can : CanPlay g.E.Editable.need (g.E.Editable.room l.list) l.log.items (g.E.Editable.items l.list);
  more : g.E.Editable.room l.initial.list ≤ g.E.Editable.room l.list;
}

abbrev pub decreases-edits : goal.decreases-edits
decreases-edits g l = vec_len l.log
