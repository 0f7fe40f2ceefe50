use Rattle.std.proofs.Common.{◌≤◌, ◌++◌}
use Rattle.spec_lists.specs.Piece.{identity}
use Rattle.spec_lists.specs.Changes.{changed_len}
use Rattle.gl_delta.specs.Absorb.{IsAbsorbing, NoneDeleted}
use Rattle.gl_delta.specs.Pieces.{pieces, room}
use Rattle.gl_delta.proofs.absorb.absorb_rest.Given as goal

abbrev pub invariant-changes : goal.invariant-changes
invariant-changes l = record {
  left : IsAbsorbing (pieces l.initial.store) (pieces l.initial.next) (pieces l.store) (identity l.at ++ pieces l.next) (room l.store);
  none_deleted : NoneDeleted (pieces l.next);
  room : room l.initial.store ≤ room l.store;
}

abbrev pub decreases-changes : goal.decreases-changes
decreases-changes l = changed_len (pieces l.next)
