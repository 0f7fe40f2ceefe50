use Rattle.std.proofs.Common.{sym, subst}
use Rattle.std.specs.List.{Contains}
use Rattle.std.proofs.lemmas.List.Elements.{All-contains}
use Rattle.spec_states.specs.State.{inputs}
use Rattle.gl_graph.specs.Nodes.{own_of, AreAmong, StandsFor}
use Rattle.gl_graph.specs.Spots.{OnSpot}
use Rattle.gl_graph.proofs.MemberChanges.{on_spot_more}
use Rattle.gl_graph.proofs.keeps.Keeps.find.Goals as goal

pub returns-in-Composite-clause-on : goal.returns-in-Composite-clause-on
returns-in-Composite-clause-on c shows among stands =
    let of = c.in-Composite in
    let known = subst AreAmong of.is among in
    let here = subst (λ k. StandsFor k shows) of.is stands in
    subst (λ k. OnSpot (Contains (inputs (own_of k))) c.member_spot.result) (sym of.is)
    (on_spot_more (Contains of.composite.lists) (Contains of.needed) (λ i d. All-contains (λ list. Contains of.needed list) of.composite.lists i known d)
    c.member_spot.result (c.member_spot.ensures.on shows here))
