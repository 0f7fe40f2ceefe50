-- The marks of the first members, where the classes stand for a list.
use Rattle.std.proofs.Common.{◌≡◌, ◌∙◌, ℕ, ◌<◌, List, length, map, refl, ap, sym, subst, arith}
use Rattle.std.specs.Prelude.{not, Option, Some, None, slice_get, option_map}
use Rattle.std.proofs.lemmas.Option.{slice_get_within}
use Rattle.spec_sorting.specs.Tree.{Tree}
use Rattle.spec_sorting.specs.Arrangement.{Comparison, same_key_marks}
use Rattle.spec_classes.specs.Classes.{Class, first_of, classes}
use Rattle.spec_classes.specs.Members.{joined, firsts}
use Rattle.spec_classes.proofs.Members.{are_classes}
use Rattle.gl_arranged.specs.Sorting.{order_cmp}
use Rattle.gl_arranged.proofs.Sortings.{order_cmp_total}
use Rattle.gl_barcode.specs.Bars.{count_shown, IsKthShown}
use Rattle.gl_classes.specs.Kept.{Kept}
use Rattle.gl_classes.specs.Stands.{StandsFor}
use Rattle.gl_classes.proofs.Positions.{placed, class_count, count_here}
use Rattle.gl_classes.proofs.TouchedClasses.{firsts_long}

module _ (k : Kept) (xs : List Tree) (stands : StandsFor k xs) where
  abbrev compare : Comparison
  compare = order_cmp k.list.order

  pub shown_is : k.firsts.shown ≡ firsts (classes compare xs)
  shown_is =
      stands.firsts ∙ (ap (map not) (stands.list.marks ∙ ap (same_key_marks compare xs) stands.list.places) ∙ (are_classes compare (order_cmp_total k.list.order) xs).marks)

  pub many : count_shown k.firsts.shown ≡ length (classes compare xs)
  many = ap count_shown shown_is ∙ class_count compare xs (classes compare xs) (are_classes compare (order_cmp_total k.list.order) xs).each

  pub places_are : k.list.tree.places ≡ joined (classes compare xs)
  places_are = stands.list.places ∙ sym (are_classes compare (order_cmp_total k.list.order) xs).whole

  pub long : length k.firsts.shown ≡ length k.list.tree.places
  long = ap length shown_is ∙ (firsts_long (classes compare xs) ∙ sym (ap length places_are))

  -- the first member of a class is the one at its first place
  pub first_found : (class place source : ℕ) → IsKthShown class k.firsts.shown place → slice_get k.list.tree.places place ≡ Some source
      → Some source ≡ option_map first_of (slice_get (classes compare xs) class)
  first_found class place source shown at =
      let o = order_cmp_total k.list.order in
      let here : IsKthShown class (firsts (classes compare xs)) place = subst (λ bs. IsKthShown class bs place) shown_is shown in
      let p = placed compare xs (classes compare xs) (are_classes compare o xs).each place source (ap (λ js. slice_get js place) (sym places_are) ∙ at) in
      let index : p.index ≡ class = omega (arith, p.number, count_here (firsts (classes compare xs)) place here.shown, here.before) in
      let class_at : slice_get (classes compare xs) class ≡ Some p.class = ap (slice_get (classes compare xs)) (sym index) ∙ p.at in
      sym (ap (option_map first_of) class_at ∙ ap Some (sym (p.first here.shown)))

  pub none_found : (class : ℕ) → (class < count_shown k.firsts.shown → ⊥) → None ≡ option_map first_of (slice_get (classes compare xs) class)
  none_found class none = by (slice_get (classes compare xs) class) refl
    where
      by : (t : Option Class) → slice_get (classes compare xs) class ≡ t → None ≡ option_map first_of (slice_get (classes compare xs) class)
      by None e = sym (ap (option_map first_of) e)
      by (Some c) e = absurd (none (let less = slice_get_within (classes compare xs) class c e in omega (arith, less, many)))
