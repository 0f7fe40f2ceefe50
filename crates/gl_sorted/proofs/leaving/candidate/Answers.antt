use Rattle.std.proofs.Common.{rules, ◌≡◌, ◌==◌, ◌+◌, ◌∙◌, None, ap, sym, subst}
use Rattle.std.specs.Prelude.{nat_lt}
use Rattle.std.specs.List.{slice_index_or, Contains}
use Rattle.std.proofs.lemmas.Option.{get_or_from_slice_get}
use Rattle.std.proofs.lemmas.List.Sorted.{IsPartitionPoint-from_clause, IsPartitionedBy-ltb}
use Rattle.spec_sorting.specs.Sorted.{index_of}
use Rattle.gl_arranged.specs.declared.changed.Ranked.{Ranked}
use Rattle.gl_arranged.proofs.Ranks.{index_only}
use Rattle.gl_sorted.specs.Leaves.{ranks, IsFound}
use Rattle.gl_sorted.proofs.Leavings.{ranks_rise, point_is, kept_rank, some_leaving, none_leaving}
use Rattle.gl_sorted.proofs.leaving.candidate.Goals as goal

pub returns-in-Some : goal.returns-in-Some
returns-in-Some c =
    λ r at.
    let is = c.args.list.now.tree.places in
    let gs = c.args.gone.now in
    let cs = c.args.came.now in
    let f = c.requires.found in
    let new = c.place_of-new.result in
    let one = slice_index_or gs c.args.index (record { place = 0; source = 0; partner = None }) in
    let same : one ≡ r = get_or_from_slice_get gs c.args.index r (record { place = 0; source = 0; partner = None }) at in
    let e : new ≡ index_of c.in-Some.partner is = sym (index_only is new c.in-Some.partner c.place_of-new.ensures.at c.place_of-new.ensures.only) in
    let there = subst (IsFound is (ranks cs)) c.in-Some.is (f.partners c.args.index (record { place = 0; source = 0; partner = None }) c.requires.index) in
    let found : Contains (ranks cs) new = subst (Contains (ranks cs)) (sym e) there.1 in
    let point = IsPartitionPoint-from_clause (λ x. nat_lt x.place new) cs c.partition_point-before.result c.partition_point-before.ensures.partitioned (IsPartitionedBy-ltb (λ x. x.place) cs new (ranks_rise cs f.came_rise)) (λ a r q k. search rules) in
    let before = point_is cs new c.partition_point-before.result f.came_rise found c.partition_point-before.ensures.bound point in
    let kept = kept_rank gs cs c.args.index c.partition_point-before.result new r f.gone_rise f.came_rise at found before in
    some_leaving is gs cs one r c.in-Some.partner new _ same c.in-Some.is e (ap (λ (x : Ranked). x.place + c.partition_point-before.result == new + c.args.index) same ∙ kept)

pub returns-in-None : goal.returns-in-None
returns-in-None c =
    λ r at.
    let gs = c.args.gone.now in
    none_leaving c.args.list.now.tree.places gs c.args.came.now _ r (get_or_from_slice_get gs c.args.index r (record { place = 0; source = 0; partner = None }) at) c.in-None.is
