use Rattle.std.proofs.Common.{◌≡◌, ◌∙◌, ◌-◌, Some, true, false, ap}
use Rattle.gl_filter.proofs.Skips.{next_shown, next_hidden, none_shown, none_hidden, before_hidden}
use Rattle.gl_filter.proofs.marks.next_other.Goals as goal

pub overflow_sub-position : goal.overflow_sub-position
overflow_sub-position c = (before_hidden c.args.marks.now.shown c.args.position c.rank.result c.requires c.rank.ensures).0

pub returns-in-Some-true-clause-next : goal.returns-in-Some-true-clause-next
returns-in-Some-true-clause-next c =
    let bs = c.args.marks.now.shown in
    let mark : c.args.mark ≡ Some true = c.in-Some-true.is ∙ ap Some c.in-Some-true.field-0-test in
    let before = (before_hidden bs c.args.position c.rank.result c.requires c.rank.ensures).1 in
    next_hidden c.args.mark bs c.args.position (c.args.position - c.rank.result) c.select_hidden.result mark before c.select_hidden.ensures.position

pub returns-in-Some-true-clause-none : goal.returns-in-Some-true-clause-none
returns-in-Some-true-clause-none c =
    let bs = c.args.marks.now.shown in
    let mark : c.args.mark ≡ Some true = c.in-Some-true.is ∙ ap Some c.in-Some-true.field-0-test in
    let before = (before_hidden bs c.args.position c.rank.result c.requires c.rank.ensures).1 in
    none_hidden c.args.mark bs c.args.position (c.args.position - c.rank.result) c.select_hidden.result mark before c.select_hidden.ensures.some

pub returns-in-Some-false-clause-next : goal.returns-in-Some-false-clause-next
returns-in-Some-false-clause-next c =
    let mark : c.args.mark ≡ Some false = c.in-Some-false.is ∙ ap Some c.in-Some-false.field-0-test in
    next_shown c.args.mark c.args.marks.now.shown c.args.position c.rank-in-Some-false.result c.select.result mark c.rank-in-Some-false.ensures c.select.ensures.position

pub returns-in-Some-false-clause-none : goal.returns-in-Some-false-clause-none
returns-in-Some-false-clause-none c =
    let mark : c.args.mark ≡ Some false = c.in-Some-false.is ∙ ap Some c.in-Some-false.field-0-test in
    none_shown c.args.mark c.args.marks.now.shown c.args.position c.rank-in-Some-false.result c.select.result mark c.rank-in-Some-false.ensures c.select.ensures.some
