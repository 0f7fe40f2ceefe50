use Rattle.std.proofs.Common.{sym, arith}
use Rattle.spec_sorting.specs.Leads.{undone}
use Rattle.gl_sorted.proofs.NextTellings.{update_next, insert_next}
use Rattle.gl_sorted.proofs.merged.tell_next.Goals as goal

pub tell_updated-requires-clause-next : goal.tell_updated-requires-clause-next
tell_updated-requires-clause-next g c =
    let ys = g.S.Shelf.items c.args.input.now in
    let xs = undone c.args.d.now.pieces ys in
    update_next xs ys c.args.gone.now c.args.came.now c.pass.new.out.pieces c.pass.new.told c.in_ok-pass.ensures.ok.left c.in_ok-pass.ensures.change (sym c.in-Update.ensures)

pub tell_inserted-requires-clause-next : goal.tell_inserted-requires-clause-next
tell_inserted-requires-clause-next g c =
    let ys = g.S.Shelf.items c.args.input.now in
    let xs = undone c.args.d.now.pieces ys in
    insert_next xs ys c.args.gone.now c.args.came.now c.pass.new.out.pieces c.pass.new.told c.in_ok-pass.ensures.ok.left c.in_ok-pass.ensures.change
    (omega (arith, c.requires.more, c.pass.ensures.gone, c.pass.ensures.came)) (sym c.in-Insert.ensures)
