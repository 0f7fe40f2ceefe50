use Rattle.std.proofs.Common.{◌≡◌, suc, take, subst, sym, ◌+◌, ◌<◌, ◌≤◌, ◌++◌, length, arith, ap, ◌∙◌}
use Rattle.std.proofs.lemmas.Result.{IfOk-equal}
use Rattle.spec_value.specs.Tree.{tree_size, trees, trees_size}
use Rattle.std.specs.Prelude.{Result, Ok, Err, OnOk, Some, slice_get}
use Rattle.std.proofs.lemmas.Option.{slice_get-get_or}
use Rattle.spec_syntax.specs.Proper.{AreProper}
use Rattle.spec_syntax.proofs.Spelled.{proper_all, proper_more}
use Rattle.gl_syntax.specs.Elements.{elements_from}
use Rattle.gl_syntax.proofs.Elements.{closed, element_more}
use Rattle.gl_syntax.proofs.spelling.+value.Goals as goal
use Rattle.gl_value.proofs.Lists.{tree_size-at}

-- an element is smaller than its list
pub add_values-add_value-requires : goal.add_values-add_value-requires
add_values-add_value-requires t c =
    let within : c.loop-offset.offset < length c.args.values.now = omega arith in
    let smaller : tree_size c.index-values-offset.result + 1 ≤ trees_size (trees c.args.values.now) = tree_size-at c.args.values.now c.loop-offset.offset c.index-values-offset.result within c.index-values-offset.is in
    (omega arith, tt)

pub add_values-returns-clause-value : goal.add_values-returns-clause-value
add_values-returns-clause-value t c =
    let opened = ap (λ l. l ++ elements_from 0 c.args.values.now) (c.in_ok-push_all.ensures.ok) in
    IfOk-equal c.push_all-2.result _ _ _ c.push_all-2.ensures.ok (closed c.args.out.now c.loop-offset.out c.args.values.now c.loop-offset.offset c.loop-offset-test.false (c.loop-offset.invariant.0 ∙ opened))

on_ok : {X E : Type 0} (P : Type 0) (r : Result X E) → P → OnOk r P
on_ok P (Ok x) p = p
on_ok P (Err e) p = tt

pub add_values-returns-clause-proper : goal.add_values-returns-clause-proper
add_values-returns-clause-proper t c =
    on_ok (AreProper (trees c.args.values.now)) c.push_all-2.result (proper_all c.args.values.now c.loop-offset.offset c.loop-offset-test.false c.loop-offset.invariant.1)

pub add_values-loop-offset-preserved : goal.add_values-loop-offset-preserved
add_values-loop-offset-preserved t c =
    let values = c.args.values.now in
    let offset = c.loop-offset.offset in
    let element = c.index-values-offset.result in
    let within : offset < length values = omega arith in
    let there : slice_get values offset ≡ Some element = slice_get-get_or values offset element within ∙ ap Some (sym c.index-values-offset.is) in
    let next : suc offset ≡ offset + 1 = omega arith in (
      rw (c.in_ok-add_value.ensures.value, c.in_ok-add_comma.ensures) (element_more c.loop-offset.out _ values offset element there c.loop-offset.invariant.0),
      subst (λ n. AreProper (trees (take n values))) next (proper_more values offset element within c.index-values-offset.is c.loop-offset.invariant.1 c.in_ok-add_value.ensures.proper),
    )
