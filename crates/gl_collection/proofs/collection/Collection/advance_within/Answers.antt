use Rattle.std.proofs.Common.{◌∙◌, length, map, sum, ap, sym, subst, arith}
use Rattle.gl_joined.specs.Piece.{inverted}
use Rattle.gl_joined.specs.Leads.{applied}
use Rattle.gl_joined.proofs.DeltaLeads.{length_from}
use Rattle.spec_lang.specs.Kids.{kids}
use Rattle.spec_views.specs.Collection.{collection_view, collection_follow}
use Rattle.gl_joined.proofs.Joined.{joined_len}
use Rattle.gl_kernel.proofs.Fates.{delta_makes}
use Rattle.gl_kernel.proofs.Leads.{from_new}
use Rattle.gl_kernel.proofs.Made.{length-made}
use Rattle.gl_collection.specs.Kept.{Kept}
use Rattle.gl_collection.specs.Stands.{StandsFor}
use Rattle.gl_collection.specs.Told.{child_len}
use Rattle.gl_collection.proofs.Told.{follow_is, old_children, new_children}
use Rattle.gl_collection.proofs.collection.Collection.advance_within.Goals as goal

pub follow-requires-clause-olds : goal.follow-requires-clause-olds
follow-requires-clause-olds g c =
    let f = kids c.self.inside.model in
    let ps = c.args.d.now.pieces in
    let ys = g.S.Shelf.items c.args.input.now in
    let xs = applied (map inverted ps) ys in
    let leads = from_new ps ys c.old_len-olds.ensures.normal c.requires.leads in
    let Stands : Kept → Type 0 = λ k. StandsFor k xs in
    let lens = subst Stands (sym c.self.view_is) c.requires.stands in
    omega (arith, length_from ps xs leads.starts, ap length lens, length-made (child_len f) xs)

pub follow-requires-clause-old_children : goal.follow-requires-clause-old_children
follow-requires-clause-old_children g c =
    let f = kids c.self.inside.model in
    let ps = c.args.d.now.pieces in
    let ys = g.S.Shelf.items c.args.input.now in
    let xs = applied (map inverted ps) ys in
    let leads = from_new ps ys c.old_len-olds.ensures.normal c.requires.leads in
    let Stands : Kept → Type 0 = λ k. StandsFor k xs in
    let lens = subst Stands (sym c.self.view_is) c.requires.stands in
    omega (arith, old_children f ps xs c.self.inside.lens.lens leads.starts lens, c.self.invariant.within, c.self.invariant.few)

pub follow-requires-clause-new_children : goal.follow-requires-clause-new_children
follow-requires-clause-new_children g c =
    let f = kids c.self.inside.model in
    let ps = c.args.d.now.pieces in
    let ys = g.S.Shelf.items c.args.input.now in
    let xs = applied (map inverted ps) ys in
    let leads = from_new ps ys c.old_len-olds.ensures.normal c.requires.leads in
    let Stands : Kept → Type 0 = λ k. StandsFor k xs in
    let lens = subst Stands (sym c.self.view_is) c.requires.stands in
    omega (arith, new_children f ps xs ys c.self.inside.lens.lens leads lens, ap (λ (k : Kept). length (collection_view (kids k.kids) ys)) c.self.view_is, ap (λ (k : Kept). k.limit) c.self.view_is, c.requires.within, c.self.invariant.few)

pub apply-requires-clause-within : goal.apply-requires-clause-within
apply-requires-clause-within g c =
    let f = kids c.self.inside.model in
    let ps = c.args.d.now.pieces in
    let ys = g.S.Shelf.items c.args.input.now in
    let xs = applied (map inverted ps) ys in
    let leads = from_new ps ys c.old_len-olds.ensures.normal c.requires.leads in
    let Stands : Kept → Type 0 = λ k. StandsFor k xs in
    let lens = subst Stands (sym c.self.view_is) c.requires.stands in
    let makes = delta_makes (child_len f) ps xs ys c.in_ok-plan.plan.log.items c.self.inside.lens.lens leads
    (omega (arith, c.old_len-olds.ensures.value, c.old_len-olds.ensures.few)) (omega (arith, c.new_len-news.ensures.value, c.new_len-news.ensures.few)) lens c.in_ok-plan.ensures.edits in
    makes.within

pub apply-requires-clause-few : goal.apply-requires-clause-few
apply-requires-clause-few g c =
    let f = kids c.self.inside.model in
    let ps = c.args.d.now.pieces in
    let ys = g.S.Shelf.items c.args.input.now in
    let xs = applied (map inverted ps) ys in
    let leads = from_new ps ys c.old_len-olds.ensures.normal c.requires.leads in
    let Stands : Kept → Type 0 = λ k. StandsFor k xs in
    let lens = subst Stands (sym c.self.view_is) c.requires.stands in
    let makes = delta_makes (child_len f) ps xs ys c.in_ok-plan.plan.log.items c.self.inside.lens.lens leads
    (omega (arith, c.old_len-olds.ensures.value, c.old_len-olds.ensures.few)) (omega (arith, c.new_len-news.ensures.value, c.new_len-news.ensures.few)) lens c.in_ok-plan.ensures.edits in
    makes.few

pub invariant_of-self-2 : goal.invariant_of-self-2
invariant_of-self-2 g c =
    let f = kids c.self.inside.model in
    let ps = c.args.d.now.pieces in
    let ys = g.S.Shelf.items c.args.input.now in
    let xs = applied (map inverted ps) ys in
    let leads = from_new ps ys c.old_len-olds.ensures.normal c.requires.leads in
    let Stands : Kept → Type 0 = λ k. StandsFor k xs in
    let lens = subst Stands (sym c.self.view_is) c.requires.stands in
    let makes = delta_makes (child_len f) ps xs ys c.in_ok-plan.plan.log.items c.self.inside.lens.lens leads
    (omega (arith, c.old_len-olds.ensures.value, c.old_len-olds.ensures.few)) (omega (arith, c.new_len-news.ensures.value, c.new_len-news.ensures.few)) lens c.in_ok-plan.ensures.edits in
    let made = c.in_ok-log.ensures.ok ∙ makes.made in
    record {
      within = omega (arith, ap sum made, joined_len f ys, ap (λ (k : Kept). length (collection_view (kids k.kids) ys)) c.self.view_is, ap (λ (k : Kept). k.limit) c.self.view_is, c.requires.within);
      few = c.self.invariant.few;
    }

pub returns-clause-pieces : goal.returns-clause-pieces
returns-clause-pieces g c =
    let f = kids c.self.inside.model in
    let ps = c.args.d.now.pieces in
    let ys = g.S.Shelf.items c.args.input.now in
    let xs = applied (map inverted ps) ys in
    let leads = from_new ps ys c.old_len-olds.ensures.normal c.requires.leads in
    let Stands : Kept → Type 0 = λ k. StandsFor k xs in
    let lens = subst Stands (sym c.self.view_is) c.requires.stands in
    c.in_ok-plan.ensures.told ∙ (follow_is f ps xs c.self.inside.lens.lens leads.starts lens ∙ ap (λ (k : Kept). collection_follow (kids k.kids) xs ps) c.self.view_is)

pub returns-clause-stands : goal.returns-clause-stands
returns-clause-stands g c =
    let f = kids c.self.inside.model in
    let ps = c.args.d.now.pieces in
    let ys = g.S.Shelf.items c.args.input.now in
    let xs = applied (map inverted ps) ys in
    let leads = from_new ps ys c.old_len-olds.ensures.normal c.requires.leads in
    let Stands : Kept → Type 0 = λ k. StandsFor k xs in
    let lens = subst Stands (sym c.self.view_is) c.requires.stands in
    let makes = delta_makes (child_len f) ps xs ys c.in_ok-plan.plan.log.items c.self.inside.lens.lens leads
    (omega (arith, c.old_len-olds.ensures.value, c.old_len-olds.ensures.few)) (omega (arith, c.new_len-news.ensures.value, c.new_len-news.ensures.few)) lens c.in_ok-plan.ensures.edits in
    c.in_ok-log.ensures.ok ∙ makes.made
