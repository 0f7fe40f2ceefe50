use Rattle.std.proofs.Common.{◌∙◌, ap, sym}
use Rattle.std.specs.Prelude.{slice_get}
use Rattle.gl_graph.proofs.HeldSteps.{free_shows, past_shows}
use Rattle.gl_graph.proofs.held.Held.find.Goals as goal

pub returns-then-position-len-clause-spotted : goal.returns-then-position-len-clause-spotted
returns-then-position-len-clause-spotted c = λ shows stands.
    past_shows c.args.input c.args.self.now shows c.in-Some.len c.args.position (sym c.in-Some.is ∙ c.held_len.ensures) c.if-position-len.true stands

pub returns-in-None-clause-spotted : goal.returns-in-None-clause-spotted
returns-in-None-clause-spotted c = λ shows stands.
    ap (λ xs. slice_get xs c.args.position) (sym (free_shows c.args.input c.args.self.now shows (sym c.in-None.is ∙ c.held_len.ensures)))
