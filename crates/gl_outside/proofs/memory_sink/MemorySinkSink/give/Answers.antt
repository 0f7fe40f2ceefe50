use Rattle.std.proofs.Common.{take, drop, sym, rules, take-append-drop}
use Rattle.gl_outside.proofs.memory_sink.MemorySinkSink.give.Goals as goal

pub returns-clause-part : goal.returns-clause-part
returns-clause-part c =
    let piece = c.args.piece.now in
    record {
      prefix = take c.min.result piece;
      back = drop c.min.result piece;
      whole = sym (take-append-drop c.min.result piece);
      appended = search rules;
    }
