use Rattle.std.proofs.Common.{◌≡◌, ◌∙◌, ◌<◌, ◌≤◌, ◌++◌, length, ap, sym, arith}
use Rattle.std.specs.Prelude.{Some, slice_get}
use Rattle.std.specs.Option.{option_copied}
use Rattle.std.proofs.lemmas.Result.{IfOk-equal}
use Rattle.spec_reports.specs.Run.{shown_after}
use Rattle.gl_syntax.specs.Elements.{elements_from}
use Rattle.gl_syntax.proofs.Elements.{closed, element_more, some_within}
use Rattle.gl_report.proofs.lists.write_shown.Goals as goal

pub unwrap-value-requires : goal.unwrap-value-requires
unwrap-value-requires g c =
    let values = shown_after c.args.world.now.plan c.args.world.now.order c.args.list in
    let within : c.loop-place.place < length values = omega (arith, c.len-place-end.ensures.len) in
    some_within c.shown.result values c.loop-place.place within c.shown.ensures.value

pub loop-place-preserved : goal.loop-place-preserved
loop-place-preserved g c =
    let values = shown_after c.args.world.now.plan c.args.world.now.order c.args.list in
    let there : slice_get values c.loop-place.place ≡ Some c.unwrap-value.result.now = sym c.shown.ensures.value ∙ ap option_copied c.unwrap-value.ensures in
    rw (c.in_ok-add_value.ensures.value, c.in_ok-add_comma.ensures) (element_more c.loop-place.out _ values c.loop-place.place c.unwrap-value.result.now there c.loop-place.invariant)

pub returns : goal.returns
returns g c =
    let values = shown_after c.args.world.now.plan c.args.world.now.order c.args.list in
    let opened = ap (λ l. l ++ elements_from 0 values) (c.in_ok-push_all.ensures.ok) in
    let ends : length values ≤ c.loop-place.place = omega (arith, c.len-place-end.ensures.len) in
    IfOk-equal c.push_all-2.result _ _ _ c.push_all-2.ensures.ok (closed c.args.out.now c.loop-place.out values c.loop-place.place ends (c.loop-place.invariant ∙ opened))
