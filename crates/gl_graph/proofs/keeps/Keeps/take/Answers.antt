use Rattle.std.proofs.Common.{sym, subst, arith}
use Rattle.gl_graph.specs.declared.keeps.Keeps.TheVariants.{Held}
use Rattle.spec_states.specs.Wave.{command as made_by}
use Rattle.gl_graph.specs.Nodes.{own_of, shown_by, OnInput, AreAmong, StandsFor, IsPlaced}
use Rattle.gl_graph.specs.Held.{deltas_of}
use Rattle.gl_graph.specs.Spread.{IsOwnStep, IsRefusalOf}
use Rattle.gl_graph.proofs.Prefixes.{placed_few}
use Rattle.gl_graph.proofs.HeldSteps.{begins_with, taken_step, own_stopped}
use Rattle.gl_graph.specs.Commands.{Suits}
use Rattle.gl_graph.proofs.MemberChanges.{members_placed}
use Rattle.gl_graph.proofs.keeps.Keeps.take.Goals as goal

pub regroup-requires-clause-placed : goal.regroup-requires-clause-placed
regroup-requires-clause-placed g c =
    let of = c.in-Composite in
    let P = IsPlaced c.args.prefix.now c.args.positions.now in
    members_placed P of.needed of.composite.lists c.args.command.now (subst (OnInput P) of.is c.requires.later) (subst AreAmong of.is c.requires.among)
    (subst (λ k. Suits c.args.command.now (own_of k)) of.is c.requires.can.suits)

pub take-requires-clause-begins : goal.take-requires-clause-begins
take-requires-clause-begins g c =
    let of = c.in-Held in
    let shows = shown_by c.args.prefix.now c.args.positions.now in
    begins_with (deltas_of of.held) (shows of.input) c.shown_len-len.result (subst (λ k. StandsFor k shows) of.is c.requires.can.stands) c.shown_len-len.ensures

pub take-requires-clause-few : goal.take-requires-clause-few
take-requires-clause-few g c =
    let of = c.in-Held in
    let prefix = c.args.prefix.now in
    let positions = c.args.positions.now in
    let few = placed_few prefix positions of.input c.requires.settled (subst (OnInput (IsPlaced prefix positions)) of.is c.requires.later) in
    omega (arith, few, c.shown_len-len.ensures)

pub returns-in-Err-take-clause-stopped : goal.returns-in-Err-take-clause-stopped
returns-in-Err-take-clause-stopped g c = λ limit limited.
    let of = c.in-Held in
    let shows = shown_by c.args.prefix.now c.args.positions.now in
    let command = c.args.command.now in
    own_stopped limit shows command c.args.list (own_of c.args.self.now) c.in-Err-take.why
    (subst (λ k. IsRefusalOf (own_of k) (made_by command) c.in-Err-take.why) (sym of.is) (c.in-Err-take.ensures.refused of.input))

pub returns-in-Ok-take-clause-ok : goal.returns-in-Ok-take-clause-ok
returns-in-Ok-take-clause-ok g c =
    let of = c.in-Held in
    let shows = shown_by c.args.prefix.now c.args.positions.now in
    let command = c.args.command.now in
    let done = c.in-Ok-take in
    subst (λ k. IsOwnStep shows (made_by command) c.args.list k (Held of.input c.take.new.self) c.turned.result) (sym of.is)
    (subst (IsOwnStep shows (made_by command) c.args.list (Held of.input of.held) (Held of.input c.take.new.self)) (sym c.turned.ensures)
    (taken_step command shows c.args.list of.input c.shown_len-len.result of.held c.take.new.self done.told done.undo c.shown_len-len.ensures done.ensures.ok))
