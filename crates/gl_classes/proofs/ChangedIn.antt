-- The changed elements of a list in sorted order are fit to find the classes that they are in.
use Rattle.std.proofs.Common.{◌≡◌, ◌∙◌, ◌<◌, ◌≤◌, List, length, ap, arith}
use Rattle.std.specs.Cmp.{IsTotalOrder}
use Rattle.std.proofs.lemmas.List.{length-map}
use Rattle.std.proofs.lemmas.List.Sorted.{length_permutation}
use Rattle.std.proofs.lemmas.Option.{slice_get-get_or, slice_get_within}
use Rattle.spec_sorting.specs.Tree.{Tree}
use Rattle.spec_sorting.specs.Sides.{Item}
use Rattle.spec_sorting.specs.Arrangement.{Comparison, arrangement}
use Rattle.spec_sorting.proofs.Arrangements.{arrangement_is}
use Rattle.spec_sorting.proofs.Partners.{each_weaker}
use Rattle.spec_classes.specs.Classes.{classes}
use Rattle.spec_classes.specs.Members.{joined, firsts}
use Rattle.spec_classes.proofs.Members.{are_classes}
use Rattle.gl_arranged.specs.Changes.{AreRanked, changed_of, rank_of}
use Rattle.gl_arranged.specs.declared.changed.Ranked.{Ranked}
use Rattle.gl_arranged.proofs.Lists.{rising_span}
use Rattle.gl_arranged.proofs.Ranks.{changed_rise}
use Rattle.gl_classes.specs.Touching.{AreChangedIn}
use Rattle.gl_classes.proofs.ChangedPlaces.{StandsThere, ranked_there}
use Rattle.gl_classes.proofs.Positions.{placed}
use Rattle.gl_classes.proofs.TouchedClasses.{firsts_long}

-- there is a mark for each element
pub marks_long : (compare : Comparison) → IsTotalOrder compare → (zs : List Tree) → length (firsts (classes compare zs)) ≡ length zs
marks_long compare o zs = firsts_long (classes compare zs) ∙ (ap length (are_classes compare o zs).whole ∙ (arrangement_is compare o zs).long)

module _ (compare : Comparison) (o : IsTotalOrder compare) (zs : List Tree) (items : List Item) (long : length items ≡ length zs) where
  pub changed_in : (ranked : List Ranked) → AreRanked (arrangement compare zs) items ranked → length zs ≤ 2147483647 → AreChangedIn (firsts (classes compare zs)) ranked
  changed_in ranked are most = record {
    rise = are.rise;
    low = each_weaker (StandsThere compare zs items) (λ (r : Ranked). r.place < length (firsts (classes compare zs)))
        (λ r there. let within = slice_get_within (arrangement compare zs) r.place r.source there.at in
        omega (arith, within, firsts_long (classes compare zs), ap length (are_classes compare o zs).whole)) ranked (ranked_there compare o zs items long ranked are);
    begins = λ place less.
        let here = placed compare zs (classes compare zs) (are_classes compare o zs).each place _
        (slice_get-get_or (joined (classes compare zs)) place 0 (omega (arith, less, firsts_long (classes compare zs)))) in
        omega (arith, here.number);
    few = omega (arith, most, marks_long compare o zs);
    few_ranked = omega (arith, most, long, length_permutation _ ranked are.are, length-map (changed_of 0 items) (rank_of (arrangement compare zs)), rising_span 0 _ (changed_of 0 items) (changed_rise 0 items));
  }
