use Rattle.std.proofs.Common.{◌≡◌, ◌∙◌, ◌+◌, ◌<◌, ℕ, suc, List, length, ap, sym, subst, arith}
use Rattle.spec_sorting.specs.Tree.{Tree}
use Rattle.spec_sorting.proofs.Arrangements.{arrangement_is}
use Rattle.spec_classes.specs.Classes.{classes}
use Rattle.spec_classes.proofs.Members.{are_classes}
use Rattle.gl_arranged.specs.Sorting.{order_cmp}
use Rattle.gl_arranged.proofs.Sortings.{order_cmp_total}
use Rattle.gl_barcode.specs.Bars.{IsKthShown}
use Rattle.gl_classes.specs.Kept.{Kept}
use Rattle.gl_classes.specs.Stands.{StandsFor}
use Rattle.gl_classes.proofs.Cuts.{members_of, start_is, members_all, span_is}
use Rattle.gl_classes.proofs.Standing.{shown_is, many, places_are}
use Rattle.gl_classes.proofs.classes.Classes.span.Goals as goal

pub start_of-start-requires : goal.start_of-start-requires
start_of-start-requires g c =
    let xs = g.S.Shelf.items c.args.input.now in
    omega (arith, c.requires.within, many c.args.self.now xs c.requires.stands)

-- a class begins after the members of those before it
begins : (k : Kept) (xs : List Tree) → StandsFor k xs → (class place : ℕ) → IsKthShown class k.firsts.shown place → place ≡ members_of (classes (order_cmp k.list.order) xs) class
begins k xs stands class place shown =
    let compare = order_cmp k.list.order in
    let all = are_classes compare (order_cmp_total k.list.order) xs in
    start_is compare xs (classes compare xs) all.each class place (subst (λ bs. IsKthShown class bs place) (shown_is k xs stands) shown)

pub returns-then-class-classes : goal.returns-then-class-classes
returns-then-class-classes g c =
    let k = c.args.self.now in
    let xs = g.S.Shelf.items c.args.input.now in
    let cs = classes (order_cmp k.list.order) xs in
    let next : c.args.class + 1 ≡ suc c.args.class = omega arith in
    span_is cs c.args.class k.list.tree.places c.start_of-start.result c.start_of.result (places_are k xs c.requires.stands) c.requires.within
    (begins k xs c.requires.stands c.args.class c.start_of-start.result c.start_of-start.ensures)
    (begins k xs c.requires.stands (suc c.args.class) c.start_of.result (subst (λ n. IsKthShown n k.firsts.shown c.start_of.result) next c.start_of.ensures))

pub returns-else-class-classes : goal.returns-else-class-classes
returns-else-class-classes g c =
    let k = c.args.self.now in
    let xs = g.S.Shelf.items c.args.input.now in
    let compare = order_cmp k.list.order in
    let cs = classes compare xs in
    let are = places_are k xs c.requires.stands in
    let long = (arrangement_is compare (order_cmp_total k.list.order) xs).long in
    let all = members_all cs (suc c.args.class) (omega (arith, c.if-class-classes.false, c.len-classes.ensures.classes xs c.requires.stands)) in
    span_is cs c.args.class k.list.tree.places c.start_of-start.result c.len.result are c.requires.within
    (begins k xs c.requires.stands c.args.class c.start_of-start.result c.start_of-start.ensures)
    (omega (arith, c.len.ensures, all, ap length are, ap length c.requires.stands.list.places, long))
