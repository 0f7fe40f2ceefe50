use Rattle.gl_delta.proofs.Ranks.{none_left}
use Rattle.gl_delta.proofs.InverseColours.{reached_some, reached_none}
use Rattle.gl_delta.proofs.turn.next.Goals as goal

pub returns-in-Some-clause-reached : goal.returns-in-Some-clause-reached
returns-in-Some-clause-reached c = λ prefix rest e f. reached_some c.args.set c.args.from c.rank.result c.in-Some.position c.args.colours.now.colours prefix rest c.rank.ensures c.in-Some.ensures.position e f

pub returns-in-None-clause-reached : goal.returns-in-None-clause-reached
returns-in-None-clause-reached c = λ prefix rest e f. reached_none c.args.set c.args.from c.rank.result c.len.result c.args.colours.now.colours prefix rest c.rank.ensures (none_left _ _ c.in-None.ensures.some) c.len.ensures.value e f
