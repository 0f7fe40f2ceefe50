use Rattle.std.proofs.Common.{◌-◌, length, sym, ap, ◌∙◌, arith}
use Rattle.std.proofs.lemmas.List.{length-set}
use Rattle.gl_fourcolour.proofs.Spots.{get_first, joins}
use Rattle.gl_fourcolour.proofs.Removals.{gap, gap_kept, gap_closed, join_fits}
use Rattle.gl_fourcolour.proofs.edit.close_gap.Goals as goal

pub joined-requires : goal.joined-requires
joined-requires g c =
    let q = c.requires in
    join_fits _ q.prefix q.back _ _ q.is q.small (c.before-2.ensures q.prefix q.back q.is q.position_is) (c.get.ensures ∙ get_first _ q.prefix q.back c.args.position q.is q.position_is)

pub returns-in_default : goal.returns-in_default
returns-in_default g c = λ prefix back r is max position_is.
    let left_is = c.before-2.ensures prefix back is position_is in
    let right_is = c.get.ensures ∙ get_first _ prefix back c.args.position is position_is in
    gap_kept g.row.C c.args.row.now prefix back r c.before-2.result c.get.result is max (sym c.in_default.is ∙ c.joined.ensures) left_is right_is

pub set-requires : goal.set-requires
set-requires g c =
    let q = c.requires in
    let left_is = c.before-2.ensures q.prefix q.back q.is q.position_is in
    let right_is = c.get.ensures ∙ get_first _ q.prefix q.back c.args.position q.is q.position_is in
    let p = gap g.row.C c.args.position c.args.row.now q.prefix q.back q.run c.before-2.result c.get.result c.in-Some.whole q.few_colours q.is q.position_is q.maximal q.small left_is right_is (joins _ _ _ (sym c.in-Some.is ∙ c.joined.ensures)) in
    record { in_range = omega (arith, p.count); colour = p.colour; some = p.some; small = p.small }

pub remove-requires : goal.remove-requires
remove-requires g c =
    let q = c.requires in
    let left_is = c.before-2.ensures q.prefix q.back q.is q.position_is in
    let right_is = c.get.ensures ∙ get_first _ q.prefix q.back c.args.position q.is q.position_is in
    let p = gap g.row.C c.args.position c.args.row.now q.prefix q.back q.run c.before-2.result c.get.result c.in-Some.whole q.few_colours q.is q.position_is q.maximal q.small left_is right_is (joins _ _ _ (sym c.in-Some.is ∙ c.joined.ensures)) in
    omega (arith, p.count, ap length c.set.ensures.runs, length-set c.args.row.now.runs (c.args.position - 1) c.in-Some.whole)

pub returns : goal.returns
returns g c = λ prefix back r is max position_is.
    let q = c.requires in
    let left_is = c.before-2.ensures prefix back is position_is in
    let right_is = c.get.ensures ∙ get_first _ prefix back c.args.position is position_is in
    let p = gap g.row.C c.args.position c.args.row.now prefix back r c.before-2.result c.get.result c.in-Some.whole q.few_colours is position_is max q.small left_is right_is (joins _ _ _ (sym c.in-Some.is ∙ c.joined.ensures)) in
    gap_closed g.row.C c.args.position c.args.row.now c.set.new.self c.remove.new.self prefix back c.in-Some.whole is p c.set.ensures.runs c.remove.ensures.runs c.set.ensures.room c.remove.ensures.room
