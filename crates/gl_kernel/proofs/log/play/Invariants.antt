use Rattle.std.proofs.Common.{◌≡◌, ◌+◌, ◌≤◌, vec_len, vec_capacity}
use Rattle.gl_kernel.specs.Edits.{played, CanPlay}
use Rattle.gl_kernel.proofs.log.play.Given as goal

abbrev pub invariant-edits : goal.invariant-edits
invariant-edits g l = record {
  left : played l.log.items (g.E.Editable.items l.list) ≡ played l.initial.log.items (g.E.Editable.items l.initial.list);
  can : CanPlay g.E.Editable.need (g.E.Editable.room l.list) l.log.items (g.E.Editable.items l.list);
  back : played l.back.items (g.E.Editable.items l.list) ≡ g.E.Editable.items l.initial.list;
  can_go_back : CanPlay g.E.Editable.need (g.E.Editable.room l.list) l.back.items (g.E.Editable.items l.list);
  room : vec_len l.log + vec_len l.back ≤ vec_capacity l.back;
  more : g.E.Editable.room l.initial.list ≤ g.E.Editable.room l.list;
}

abbrev pub decreases-edits : goal.decreases-edits
decreases-edits g l = vec_len l.log
