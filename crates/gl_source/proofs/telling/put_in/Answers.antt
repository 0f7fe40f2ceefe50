use Rattle.std.proofs.Common.{arith}
use Rattle.gl_source.proofs.Built.{one_inserted, unchanged_len}
use Rattle.gl_source.proofs.telling.put_in.Goals as goal

pub record_insert-requires-clause-within : goal.record_insert-requires-clause-within
record_insert-requires-clause-within c = omega (arith, unchanged_len c.in_ok-d.d.pieces c.args.len c.in_ok-d.ensures, c.requires.within)

pub record_insert-requires-clause-few : goal.record_insert-requires-clause-few
record_insert-requires-clause-few c = omega (arith, unchanged_len c.in_ok-d.d.pieces c.args.len c.in_ok-d.ensures, c.requires.few)

pub returns-in-Ok : goal.returns-in-Ok
returns-in-Ok c = one_inserted c.in_ok-d.d.pieces c.record_insert.new.self.pieces c.args.len c.args.index c.args.value c.in_ok-d.ensures c.requires.within c.in-Ok.ensures.ok
