use Rattle.std.proofs.Common.{◌≡◌, ◌∙◌, ◌+◌, ◌-◌, [], length, ap, sym, subst, arith}
use Rattle.std.specs.Prelude.{None}
use Rattle.std.specs.List.{slice_index_or}
use Rattle.std.proofs.lemmas.Option.{slice_get-get_or}
use Rattle.spec_sorting.specs.Piece.{identity}
use Rattle.spec_classes.specs.Slots.{after_one}
use Rattle.spec_classes.specs.declared.Slot.{Slot}
use Rattle.gl_kernel.specs.Plans.{CanTell, GoesOn}
use Rattle.gl_grouping.specs.Following.{groups_of}
use Rattle.gl_grouping.proofs.Laws.{can_tell_all}
use Rattle.gl_grouping.proofs.Turns.{among, passes, can_pass, can_tell_piece, one_more, reached_low, can_end, edits_all}
use Rattle.gl_grouping.proofs.follow.follow.Goals as goal

-- what reads past the touched keys gives
abbrev none : Slot
none = record { old = None; new = None }

pub pass-requires-clause-can : goal.pass-requires-clause-can
pass-requires-clause-can g c =
    let olds = c.args.groups.now.values in
    let news = groups_of c.args.classes.now (g.S.Shelf.items c.args.input.now) in
    let ts = c.args.slots.now in
    let n = c.slots.slot-index in
    let t = slice_index_or ts n none in
    let here = slice_get-get_or ts n none c.slots-test.true in
    let can = can_tell_all c.args.classes.now olds (g.S.Shelf.items c.args.input.now) ts c.requires in
    subst (λ k. CanTell (identity k) c.slots.plan.out.pieces) (sym c.kept_before-kept.ensures) (can_pass olds news ts n c.slots.at c.slots.plan t c.slots.invariant here can)

pub pass-requires-clause-few : goal.pass-requires-clause-few
pass-requires-clause-few g c =
    let olds = c.args.groups.now.values in
    let news = groups_of c.args.classes.now (g.S.Shelf.items c.args.input.now) in
    let ts = c.args.slots.now in
    let n = c.slots.slot-index in
    let t = slice_index_or ts n none in
    let here = slice_get-get_or ts n none c.slots-test.true in
    let within = passes olds news ts n c.slots.at c.slots.plan t c.slots.invariant here in
    omega (arith, within.0, c.requires.few_olds, c.kept_before-kept.ensures, c.slots.invariant.position)

pub tell_group-requires-clause-among : goal.tell_group-requires-clause-among
tell_group-requires-clause-among g c =
    let olds = c.args.groups.now.values in
    let news = groups_of c.args.classes.now (g.S.Shelf.items c.args.input.now) in
    let ts = c.args.slots.now in
    let n = c.slots.slot-index in
    let t = slice_index_or ts n none in
    let here = slice_get-get_or ts n none c.slots-test.true in
    among olds news ts n c.slots.at c.slots.plan t c.slots.invariant here

pub tell_group-requires-clause-few : goal.tell_group-requires-clause-few
tell_group-requires-clause-few g c =
    let olds = c.args.groups.now.values in
    let news = groups_of c.args.classes.now (g.S.Shelf.items c.args.input.now) in
    let ts = c.args.slots.now in
    let n = c.slots.slot-index in
    let t = slice_index_or ts n none in
    let here = slice_get-get_or ts n none c.slots-test.true in
    let within = passes olds news ts n c.slots.at c.slots.plan t c.slots.invariant here in
    omega (arith, within.0, c.requires.few_olds, c.kept_before-kept.ensures, c.slots.invariant.position, c.in_ok-pass.ensures.position_is)

pub tell_group-requires-clause-can : goal.tell_group-requires-clause-can
tell_group-requires-clause-can g c =
    let olds = c.args.groups.now.values in
    let news = groups_of c.args.classes.now (g.S.Shelf.items c.args.input.now) in
    let ts = c.args.slots.now in
    let n = c.slots.slot-index in
    let t = slice_index_or ts n none in
    let here = slice_get-get_or ts n none c.slots-test.true in
    let can = can_tell_all c.args.classes.now olds (g.S.Shelf.items c.args.input.now) ts c.requires in
    let goes = subst (λ k. GoesOn (identity k) [] k c.slots.plan c.pass.new.plan) c.kept_before-kept.ensures c.in_ok-pass.ensures in
    can_tell_piece olds news ts n c.slots.at c.slots.plan t c.slots.invariant here c.pass.new.plan goes can

pub past-at-requires-clause-olds : goal.past-at-requires-clause-olds
past-at-requires-clause-olds g c =
    let olds = c.args.groups.now.values in
    let news = groups_of c.args.classes.now (g.S.Shelf.items c.args.input.now) in
    let ts = c.args.slots.now in
    let n = c.slots.slot-index in
    let t = slice_index_or ts n none in
    let here = slice_get-get_or ts n none c.slots-test.true in
    let within = passes olds news ts n c.slots.at c.slots.plan t c.slots.invariant here in
    omega (arith, within.0, c.requires.few_olds, c.kept_before-kept.ensures)

pub past-at-requires-clause-news : goal.past-at-requires-clause-news
past-at-requires-clause-news g c =
    let olds = c.args.groups.now.values in
    let news = groups_of c.args.classes.now (g.S.Shelf.items c.args.input.now) in
    let ts = c.args.slots.now in
    let n = c.slots.slot-index in
    let t = slice_index_or ts n none in
    let here = slice_get-get_or ts n none c.slots-test.true in
    let within = passes olds news ts n c.slots.at c.slots.plan t c.slots.invariant here in
    omega (arith, within.1, c.requires.few_news, c.kept_before-kept.ensures)

pub slots-preserved : goal.slots-preserved
slots-preserved g c =
    let olds = c.args.groups.now.values in
    let news = groups_of c.args.classes.now (g.S.Shelf.items c.args.input.now) in
    let ts = c.args.slots.now in
    let n = c.slots.slot-index in
    let t = slice_index_or ts n none in
    let here = slice_get-get_or ts n none c.slots-test.true in
    let goes = subst (λ k. GoesOn (identity k) [] k c.slots.plan c.pass.new.plan) c.kept_before-kept.ensures c.in_ok-pass.ensures in
    one_more olds news ts n c.slots.at c.slots.plan t c.slots.invariant here c.pass.new.plan goes c.past-at.result c.tell_group.new.plan
    (c.past-at.ensures.olds ∙ ap (λ k. after_one (c.slots.at.olds + k) t.old) c.kept_before-kept.ensures)
    (c.past-at.ensures.news ∙ ap (λ k. after_one (c.slots.at.news + k) t.new) c.kept_before-kept.ensures) c.in_ok-tell_group.ensures

pub pass-requires-2-clause-can : goal.pass-requires-2-clause-can
pass-requires-2-clause-can g c =
    let olds = c.args.groups.now.values in
    let news = groups_of c.args.classes.now (g.S.Shelf.items c.args.input.now) in
    let ts = c.args.slots.now in
    let n = c.slots.slot-index in
    let can = can_tell_all c.args.classes.now olds (g.S.Shelf.items c.args.input.now) ts c.requires in
    subst (λ m. CanTell (identity (m - c.slots.at.olds)) c.slots.plan.out.pieces) (sym c.len.ensures) (can_end olds news ts n c.slots.at c.slots.plan c.slots.invariant (omega (arith, c.slots-test.false)) can)

pub pass-requires-2-clause-few : goal.pass-requires-2-clause-few
pass-requires-2-clause-few g c =
    let olds = c.args.groups.now.values in
    let news = groups_of c.args.classes.now (g.S.Shelf.items c.args.input.now) in
    let ts = c.args.slots.now in
    let n = c.slots.slot-index in
    let low = reached_low olds news ts n c.slots.at c.slots.plan c.slots.invariant (omega (arith, c.slots-test.false)) in
    omega (arith, low, c.requires.few_olds, c.len.ensures, c.slots.invariant.position)

pub returns-clause-edits : goal.returns-clause-edits
returns-clause-edits g c =
    let olds = c.args.groups.now.values in
    let news = groups_of c.args.classes.now (g.S.Shelf.items c.args.input.now) in
    let ts = c.args.slots.now in
    let n = c.slots.slot-index in
    let goes = subst (λ m. GoesOn (identity (m - c.slots.at.olds)) [] (m - c.slots.at.olds) c.slots.plan c.pass-2.new.plan) c.len.ensures c.in_ok-pass-2.ensures in
    edits_all olds news ts n c.slots.at c.slots.plan c.slots.invariant (omega (arith, c.slots-test.false)) c.pass-2.new.plan goes
