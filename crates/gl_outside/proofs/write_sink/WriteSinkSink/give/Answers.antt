use Rattle.std.proofs.Common.{refl}
use Rattle.gl_outside.proofs.Sinks.{grows_by_nothing}
use Rattle.gl_outside.proofs.write_sink.WriteSinkSink.give.Goals as goal

pub returns-then-write_whole-clause-nothing : goal.returns-then-write_whole-clause-nothing
returns-then-write_whole-clause-nothing g c =
    grows_by_nothing _ _ c.args.piece.now _ (c.if-write_whole.ensures.all refl)
