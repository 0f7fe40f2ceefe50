use Rattle.std.proofs.Common.{sym}
use Rattle.gl_fourcolour.proofs.Questions.{colour_at}
use Rattle.gl_fourcolour.proofs.ask.colour.Goals as goal

pub returns : goal.returns
returns g c = sym (colour_at _ _ _ _ _ c.in-Some.here c.locate.ensures c.in-Some.is)
