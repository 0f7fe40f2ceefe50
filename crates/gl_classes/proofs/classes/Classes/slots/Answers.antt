use Rattle.std.proofs.Common.{◌≡◌, ◌∙◌, ◌≤◌, List, length, map, ap, sym, subst, arith}
use Rattle.std.proofs.lemmas.Nat.{mul-le}
use Rattle.spec_sorting.specs.Tree.{Tree}
use Rattle.spec_sorting.specs.Arrangement.{Comparison}
use Rattle.spec_sorting.specs.Piece.{inverted}
use Rattle.spec_sorting.specs.Leads.{undone}
use Rattle.spec_sorting.proofs.DeltaLeads.{length_from}
use Rattle.gl_arranged.specs.Sorting.{Key, order_cmp}
use Rattle.gl_arranged.specs.Changes.{fresh_len}
use Rattle.gl_arranged.specs.declared.changed.Ranked.{Ranked}
use Rattle.gl_classes.specs.declared.touched.Touched.{Touched}
use Rattle.gl_classes.specs.Finding.{AreOlds, AreNews, met_olds, met_news}
use Rattle.gl_classes.specs.Kept.{Kept}
use Rattle.gl_classes.specs.Sides.{AreSides}
use Rattle.gl_classes.specs.Touching.{AreChangedIn, AreTouched}
use Rattle.gl_classes.proofs.ToldSides.{olds_found, few_olds, came_changed, news_found, few_news, sides_told}
use Rattle.gl_classes.proofs.classes.Classes.slots.Goals as goal

pub find_touched-requires : goal.find_touched-requires
find_touched-requires g c =
    let k = c.args.self.now in
    let ys = g.S.Shelf.items c.args.input.now in
    let d = c.args.d.now.pieces in
    let few : length ys ≤ 2147483647 = omega (arith, length_from (map inverted d) ys c.requires.leads, c.new_len-news.ensures.value, c.new_len-news.ensures.few) in
    subst (λ (a : Kept). AreChangedIn a.firsts.shown c.args.came.now) (sym c.self.view_is)
    (came_changed k ys d c.requires.leads c.args.olds.items c.requires.olds c.requires.stands c.args.came.now c.requires.came few)

pub meet-requires-clause-olds : goal.meet-requires-clause-olds
meet-requires-clause-olds g c =
    let k = c.args.self.now in
    let ys = g.S.Shelf.items c.args.input.now in
    let d = c.args.d.now.pieces in
    let order : c.order.result.now ≡ k.list.order = c.order.ensures ∙ ap (λ (a : Kept). a.list.order) c.self.view_is in
    let found : AreOlds (order_cmp k.list.order) (undone d ys) d c.args.olds.items = olds_found k ys d c.requires.leads c.args.olds.items c.requires.olds in
    subst (λ is. AreOlds (order_cmp is) (undone d ys) d c.as_mut_slice-olds.result.now) (sym order)
    (subst (λ ts. AreOlds (order_cmp k.list.order) (undone d ys) d ts) (sym c.as_mut_slice-olds.ensures.value) found)

-- both met by an order that is the same, of lists that are
met_same : (met : Comparison → List Tree → List Tree → List Touched → List Touched → List Touched) (xs ys : List Tree) (ks ls : List Key) (us ts vs ws : List Touched)
    → ks ≡ ls → us ≡ ts → vs ≡ ws → met (order_cmp ks) xs ys us vs ≡ met (order_cmp ls) xs ys ts ws
met_same met xs ys ks ls us ts vs ws e f h =
    ap (λ is. met (order_cmp is) xs ys us vs) e ∙ (ap (λ is. met (order_cmp ls) xs ys is vs) f ∙ ap (met (order_cmp ls) xs ys ts) h)

now_touched : (inside k : Kept) (came : List Ranked) (news : List Touched) → inside ≡ k → AreTouched inside.firsts.shown came news → AreTouched k.firsts.shown came news
now_touched inside k came news is h = subst (λ (a : Kept). AreTouched a.firsts.shown came news) is h

pub meet-requires-clause-news : goal.meet-requires-clause-news
meet-requires-clause-news g c =
    let k = c.args.self.now in
    let ys = g.S.Shelf.items c.args.input.now in
    let d = c.args.d.now.pieces in
    let are : AreTouched k.firsts.shown c.args.came.now c.in_ok-news.news.items = now_touched _ k c.args.came.now c.in_ok-news.news.items c.self.view_is c.in_ok-news.ensures in
    subst (AreNews ys) (sym c.as_mut_slice-news.ensures.value)
    (news_found k ys d c.requires.leads c.args.olds.items c.requires.olds c.requires.stands c.args.came.now c.requires.came c.in_ok-news.news.items are)

pub told_slots-requires-clause-sides : goal.told_slots-requires-clause-sides
told_slots-requires-clause-sides g c =
    let k = c.args.self.now in
    let ys = g.S.Shelf.items c.args.input.now in
    let d = c.args.d.now.pieces in
    let xs = undone d ys in
    let compare = order_cmp k.list.order in
    let olds = c.args.olds.items in
    let news = c.in_ok-news.news.items in
    let are : AreTouched k.firsts.shown c.args.came.now news = now_touched _ k c.args.came.now news c.self.view_is c.in_ok-news.ensures in
    let order : c.order.result.now ≡ k.list.order = c.order.ensures ∙ ap (λ (a : Kept). a.list.order) c.self.view_is in
    let gone : c.meet.new.olds ≡ met_olds compare xs ys olds news = c.meet.ensures.olds
    ∙ met_same met_olds xs ys _ _ _ _ _ _ order c.as_mut_slice-olds.ensures.value c.as_mut_slice-news.ensures.value in
    let came : c.meet.new.news ≡ met_news compare xs ys olds news = c.meet.ensures.news
    ∙ met_same met_news xs ys _ _ _ _ _ _ order c.as_mut_slice-olds.ensures.value c.as_mut_slice-news.ensures.value in
    subst (λ ts. AreSides compare xs ys d ts c.meet.new.news) (sym gone)
    (subst (AreSides compare xs ys d (met_olds compare xs ys olds news)) (sym came)
    (sides_told k ys d c.requires.leads olds c.requires.olds c.requires.stands c.args.came.now c.requires.came news are))

pub returns-clause-counted : goal.returns-clause-counted
returns-clause-counted g c =
    λ digits below.
    let k = c.args.self.now in
    let ys = g.S.Shelf.items c.args.input.now in
    let d = c.args.d.now.pieces in
    let olds = c.args.olds.items in
    let news = c.in_ok-news.news.items in
    let are : AreTouched k.firsts.shown c.args.came.now news = now_touched _ k c.args.came.now news c.self.view_is c.in_ok-news.ensures in
    let few = few_olds k ys d c.requires.leads olds c.requires.olds in
    let compared = c.meet.ensures.counted digits (omega (arith, few, below, ap length c.as_mut_slice-olds.ensures.value)) in
    let less = few_news k ys d c.requires.leads olds c.requires.olds c.requires.stands c.args.came.now c.requires.came news are in
    let most = mul-le (length c.as_mut_slice-news.result.now) digits (fresh_len d) digits (omega (arith, less, ap length c.as_mut_slice-news.ensures.value)) (omega arith) in
    omega (arith, compared, most)
