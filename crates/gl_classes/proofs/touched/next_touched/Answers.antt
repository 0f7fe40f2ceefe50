use Rattle.std.proofs.Common.{◌≡◌, ◌∙◌, ◌+◌, ◌-◌, ◌<◌, ℕ, suc, List, Option, None, length, take, refl, sym, ap, subst, arith}
use Rattle.std.specs.Prelude.{Bool}
use Rattle.std.specs.Option.{IsSome}
use Rattle.std.specs.List.{slice_index_or}
use Rattle.std.proofs.lemmas.Option.{slice_get-get_or}
use Rattle.gl_barcode.specs.Bars.{count_shown, IsKthShown}
use Rattle.gl_arranged.specs.declared.changed.Ranked.{Ranked}
use Rattle.gl_classes.specs.Touching.{class_of, AreChangedIn, IsSpan}
use Rattle.gl_classes.proofs.Positions.{count_more}
use Rattle.gl_classes.proofs.Spans.{take_all, span_to_next, span_to_end, in_span}
use Rattle.gl_classes.proofs.FoundClasses.{each_low}
use Rattle.gl_classes.proofs.touched.next_touched.Goals.{in-Some-select, in-None-select}
use Rattle.gl_classes.proofs.touched.next_touched.Goals as goal

none_some : IsSome {T = ℕ} None → ⊥
none_some e = absurd cc

abbrev one_at : List Ranked → ℕ → Ranked
one_at ranked at = slice_index_or ranked at (record { place = 0; source = 0; partner = None })

-- the number of its class
record IsNumbered (bs : List Bool) (place class : ℕ) : Type 0 where
  within : place < length bs
  number : class_of bs place ≡ suc class
  below : class < count_shown bs

numbered : (bs : List Bool) (ranked : List Ranked) (at rank : ℕ) → AreChangedIn bs ranked → at < length ranked
    → rank ≡ count_shown (take ((one_at ranked at).place + 1) bs) → IsNumbered bs (one_at ranked at).place (rank - 1)
numbered bs ranked at rank changed more is =
    let place = (one_at ranked at).place in
    let within : place < length bs = each_low bs ranked changed.low at (one_at ranked at) (slice_get-get_or ranked at _ more) in
    let next : place + 1 ≡ suc place = omega arith in
    let rank_is : rank ≡ class_of bs place = is ∙ ap (λ n. count_shown (take n bs)) next in
    let some = changed.begins place within in
    let most = count_more bs (suc place) (length bs) (omega (arith, within)) in
    let all : count_shown (take (length bs) bs) ≡ count_shown bs = ap count_shown (take_all bs (length bs) (omega arith)) in
    record {
      within = within;
      number = omega (arith, rank_is, some);
      below = omega (arith, rank_is, some, most, all);
    }

pub unreachable-requires : goal.unreachable-requires
unreachable-requires c =
    let h = numbered c.args.firsts.now.shown c.args.ranked.now c.args.at c.rank-class.result c.requires.changed c.requires.more c.rank-class.ensures in
    none_some (subst (λ (t : Option ℕ). IsSome t) c.in-None.is (c.select.ensures.some.1 h.below))

pub returns : goal.returns
returns c =
    let bs = c.args.firsts.now.shown in
    let ranked = c.args.ranked.now in
    let one = one_at ranked c.args.at in
    let class : ℕ = c.rank-class.result - 1 in
    let h = numbered bs ranked c.args.at c.rank-class.result c.requires.changed c.requires.more c.rank-class.ensures in
    let next : class + 1 ≡ suc class = omega arith in
    let span : IsSpan bs class c.in-Some.start c.match-select-2.end =
    elim c.match-select-2.branch [
      | in-Some-select w ↦ subst (λ e. IsSpan bs class c.in-Some.start e) (sym w.end-is) (span_to_next bs class c.in-Some.start _ c.in-Some.ensures.position (subst (λ k. IsKthShown k bs w.in-Some-select.end) next w.in-Some-select.ensures.position))
      | in-None-select w ↦
          span_to_end bs class c.in-Some.start c.match-select-2.end c.in-Some.ensures.position (w.end-is ∙ w.len-end.ensures)
          (λ less. none_some (subst (λ (t : Option ℕ). IsSome t) w.in-None-select.is (c.select-2.ensures.some.1 (omega (arith, less)))))
    ] in
    let inside = in_span bs class c.in-Some.start c.match-select-2.end one.place span h.within h.number in
    record {
      one = one;
      here = slice_get-get_or ranked c.args.at _ c.requires.more;
      start = c.in-Some.start;
      end = c.match-select-2.end;
      span = span;
      from = inside.0;
      below = inside.1;
      source_is = refl;
      first_is = refl;
      plain_is = c.plain_from-plain.ensures;
      stays_is = c.is_some.ensures;
      next_is = c.changed_before.ensures;
    }
