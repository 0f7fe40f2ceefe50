use Rattle.std.proofs.Common.{◌≡◌, ◌∙◌, length, ap, sym, subst}
use Rattle.spec_states.specs.Shown.{shown_of}
use Rattle.gl_graph.specs.Nodes.{own_of, StandsFor}
use Rattle.gl_graph.proofs.HeldSteps.{free_shows, len_shows}
use Rattle.gl_graph.proofs.keeps.Keeps.len.Goals as goal

pub returns-in-Some-clause-measured : goal.returns-in-Some-clause-measured
returns-in-Some-clause-measured c = λ shows stands.
    let of = c.in-Held in
    subst (λ k. c.in-Some.len ≡ length (shown_of (own_of k) shows)) (sym of.is)
    (len_shows of.input of.held shows c.in-Some.len (sym c.in-Some.is ∙ c.held_len.ensures) (subst (λ k. StandsFor k shows) of.is stands))

pub returns-in-None-clause-measured : goal.returns-in-None-clause-measured
returns-in-None-clause-measured c = λ shows stands.
    let of = c.in-Held in
    subst (λ k. length (shows of.input) ≡ length (shown_of (own_of k) shows)) (sym of.is)
    (ap length (sym (free_shows of.input of.held shows (sym c.in-None.is ∙ c.held_len.ensures))))
