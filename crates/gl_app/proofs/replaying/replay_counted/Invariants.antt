use Rattle.std.proofs.Common.{◌≡◌, take, drop}
use Rattle.spec_reports.specs.Fits.{bad_place_from, first_bad_place}
use Rattle.gl_app.proofs.replaying.replay_counted.Given as goal

-- the entries so far, and what is still to be judged
abbrev pub invariant-loop-place : goal.invariant-loop-place
invariant-loop-place g l = record {
  taken : l.world ≡ record { plan = l.initial.world.plan; order = take l.place l.order };
  judged : bad_place_from l.initial.world.plan (take l.place l.order) (drop l.place l.order)
      ≡ first_bad_place l.initial.world.plan l.order;
}
