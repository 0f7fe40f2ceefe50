use Rattle.std.proofs.Common.{sym, subst}
use Rattle.spec_states.specs.Wave.{pump as pumped_by}
use Rattle.gl_graph.specs.declared.keeps.Keeps.TheVariants.{Proxy}
use Rattle.gl_graph.specs.declared.keeps.KeepsUndo.TheVariants as u
use Rattle.gl_graph.specs.declared.turned.Turned.TheVariants.{Told}
use Rattle.gl_graph.specs.Spread.{IsOwnStep}
use Rattle.gl_graph.proofs.Pumping.{pumped_step}
use Rattle.gl_graph.proofs.keeps.Keeps.pump.Goals as goal

pub returns-in-Ok-clause-ok : goal.returns-in-Ok-clause-ok
returns-in-Ok-clause-ok c = λ shows list number.
    let of = c.in-Proxy in
    let done = c.in-Ok in
    let e = done.ensures in
    subst (λ k. IsOwnStep shows (pumped_by number) list k (Proxy of.input c.pump.new.self) (Told done.out (u.Pumped done.undo))) (sym of.is)
    (pumped_step shows list number of.input of.proxy c.pump.new.self done.out done.undo e.pieces e.kept e.undo e.room e.queue_room)
