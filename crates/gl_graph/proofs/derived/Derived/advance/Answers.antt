use Rattle.std.proofs.Common.{sym, subst}
use Rattle.std.specs.Prelude.{IfErr}
use Rattle.gl_graph.specs.declared.derived.Derived.TheVariants.{Collection}
use Rattle.gl_graph.specs.Derived.{IsOver}
use Rattle.gl_graph.proofs.Openings.{collection_over}
use Rattle.gl_graph.proofs.derived.Derived.advance.Goals as goal

pub returns-in-Err-advance-6-clause-over : goal.returns-in-Err-advance-6-clause-over
returns-in-Err-advance-6-clause-over g c =
    let xs = g.S.Shelf.items c.args.input.now in
    let kept = c.in-Collection.collection in
    subst (λ k. IsOver k xs c.in-Err-advance-6.fault) (sym c.in-Collection.is)
    (subst (λ r. IfErr r (IsOver (Collection kept) xs)) c.in-Err-advance-6.is
    (collection_over kept xs c.advance-in-Collection.result c.advance-in-Collection.ensures.too_long))
