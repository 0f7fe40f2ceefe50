-- Whether a list is held.
use Rattle.std.specs.Prelude.{◌∷◌, suc, length, Some}
use Rattle.spec_states.specs.State.{Own, transaction, freezable, proxy}
use Rattle.gl_graph.specs.declared.hold.Hold.{Hold}
use Rattle.gl_graph.specs.declared.hold.Hold.TheVariants.{Free, Frozen, Open, Queued}

-- by what it keeps
abbrev pub hold_of : Own → Hold
hold_of (transaction input (level ∷ levels)) = Open (suc (length levels))
hold_of (freezable input (Some since)) = Frozen
hold_of (proxy input kept queue) = Queued (length queue)
hold_of other = Free
