use Rattle.std.proofs.Common.{◌≡◌, take}
use Rattle.std.specs.Prelude.{flat_map}
use Rattle.spec_lists.specs.Leads.{IsDelta}
use Rattle.gl_testing.specs.Rows.{old_of, new_of}
use Rattle.gl_testing.proofs.change.change_of.Given as goal

-- the rows so far are in the change
abbrev pub invariant-rows : goal.invariant-rows
invariant-rows l =
    IsDelta l.change.delta.pieces l.change.before l.change.after
    × (l.change.before ≡ flat_map old_of (take l.row-index l.rows))
    × (l.change.after ≡ flat_map new_of (take l.row-index l.rows))
