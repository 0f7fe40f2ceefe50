use Rattle.std.proofs.Common.{◌≡◌, ◌∙◌, length, map, flat_map, sum, ap, sym, subst, arith}
use Rattle.gl_joined.specs.Piece.{inverted}
use Rattle.gl_joined.specs.Leads.{applied}
use Rattle.spec_lang.specs.Kids.{kids}
use Rattle.spec_views.specs.Collection.{collection_view}
use Rattle.gl_joined.proofs.Joined.{joined_len}
use Rattle.gl_kernel.proofs.Leads.{from_new}
use Rattle.gl_collection.specs.Kept.{Kept}
use Rattle.gl_collection.specs.Stands.{StandsFor}
use Rattle.gl_collection.proofs.Balances.{balance, lost_within}
use Rattle.gl_collection.proofs.collection.Collection.len_after.Goals as goal

pub new_total-requires-clause-lost : goal.new_total-requires-clause-lost
new_total-requires-clause-lost g c =
    let f = kids c.self.inside.model in
    let ps = c.args.d.now.pieces in
    let ys = g.S.Shelf.items c.args.input.now in
    let xs = applied (map inverted ps) ys in
    let leads = from_new ps ys c.old_len-normal.ensures.normal c.requires.leads in
    let Stands : Kept → Type 0 = λ k. StandsFor k xs in
    let lens = subst Stands (sym c.self.view_is) c.requires.stands in
    omega (arith, lost_within f ps xs leads.starts, ap sum lens, joined_len f xs)

pub returns : goal.returns
returns g c =
    let f = kids c.self.inside.model in
    let ps = c.args.d.now.pieces in
    let ys = g.S.Shelf.items c.args.input.now in
    let xs = applied (map inverted ps) ys in
    let leads = from_new ps ys c.old_len-normal.ensures.normal c.requires.leads in
    let Stands : Kept → Type 0 = λ k. StandsFor k xs in
    let lens = subst Stands (sym c.self.view_is) c.requires.stands in
    let there : c.new_total.result ≡ length (flat_map f ys) =
    omega (arith, c.new_total.ensures, balance f ps xs leads.starts, ap sum lens, joined_len f xs, ap (λ zs. length (flat_map f zs)) leads.ends) in
    there ∙ ap (λ (k : Kept). length (collection_view (kids k.kids) ys)) c.self.view_is
