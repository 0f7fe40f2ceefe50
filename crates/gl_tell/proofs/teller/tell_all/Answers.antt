use Rattle.std.proofs.Common.{◌∙◌, length, ap, arith, length-set}
use Rattle.std.specs.Prelude.{slice_index, None}
use Rattle.gl_tell.specs.Told.{tellings_of}
use Rattle.gl_tell.proofs.Handings.{below_at}
use Rattle.gl_tell.proofs.Turns.{one_told, once_more}
use Rattle.gl_tell.proofs.teller.tell_all.Goals as goal

pub tell-requires-clause-known : goal.tell-requires-clause-known
tell-requires-clause-known c =
    below_at (length c.args.listeners.now) c.args.turn.now c.loop-index.index c.requires.known
    c.loop-index-test.true

pub loop-index-preserved : goal.loop-index-preserved
loop-index-preserved c =
    let i = c.loop-index.index in
    let before = c.loop-index.invariant in
    let next = c.tell.ensures in
    let turn = c.args.turn.now in
    let within = c.loop-index-test.true in
    record {
      told = rw next.left (one_told c.args.listeners.now c.args.place c.loop-index.deltas turn i
          (tellings_of c.loop-index.told.items) (tellings_of c.tell.new.told.items) _ within before.once next.told
          before.told);
      once = once_more turn i within before.once;
      long = ap length next.left ∙ length-set c.loop-index.deltas (slice_index turn i) None ∙ before.long;
      room = omega (arith, next.few, next.capacity, before.room, within);
      capacity = next.capacity ∙ before.capacity;
      fresh = λ all. next.fresh (before.fresh all);
    }
