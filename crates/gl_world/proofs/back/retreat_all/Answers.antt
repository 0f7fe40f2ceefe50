use Rattle.std.proofs.Common.{rules, ◌≡◌, [], subst}
use Rattle.gl_graph.specs.Graph.{Kept}
use Rattle.gl_world.specs.Back.{Leads, CanGoBack}
use Rattle.gl_world.proofs.Backs.{last_can, others_lead}
use Rattle.gl_world.proofs.back.retreat_all.Goals as goal

pub retreat-requires : goal.retreat-requires
retreat-requires c =
    let now = c.undos.graph in
    last_can c.pop.new.self.items c.in-Some.undo now
    (subst (λ us. CanGoBack us now) c.in-Some.ensures.items c.undos.invariant.can)

pub undos-preserved : goal.undos-preserved
undos-preserved c =
    let now = c.undos.graph in
    let rest = c.pop.new.self.items in
    let undo = c.in-Some.undo in
    let next = c.retreat.new.self in
    let on : (start : Kept) → Leads c.undos.undos.items start now → Leads rest start next = λ start h.
    others_lead rest undo start now next (subst (λ us. Leads us start now) c.in-Some.ensures.items h)
    c.retreat.ensures.back c.retreat.ensures.room in
    record {
      can = (c.undos.invariant.can.0, on c.undos.invariant.can.0 c.undos.invariant.can.1);
      leads = λ start h. on start (c.undos.invariant.leads start h);
    }

pub returns : goal.returns
returns c = λ start h.
    let empty : c.undos.undos.items ≡ [] = search rules in
    (subst (λ us. Leads us start c.undos.graph) empty (c.undos.invariant.leads start h)).same
