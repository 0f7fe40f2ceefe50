use Rattle.std.proofs.Common.{◌∙◌, ◌++◌, map, ap, sym, subst}
use Rattle.spec_sorting.specs.Piece.{Piece, deleted, inserted, normal}
use Rattle.gl_kernel.specs.Plans.{CanTell}
use Rattle.gl_grouping.proofs.Replacement.{can_delete, can_insert, both_told}
use Rattle.gl_grouping.proofs.replaced.replaced.Goals as goal

pub delete_all-requires : goal.delete_all-requires
delete_all-requires c =
    let olds = c.args.before.now.values in
    subst (CanTell (map deleted olds)) (sym c.start-out.ensures) (can_delete olds c.args.after.now.values c.requires.before c.requires.after)

pub insert_all-requires : goal.insert_all-requires
insert_all-requires c =
    let olds = c.args.before.now.values in
    let told = c.in_ok-delete_all.ensures ∙ ap (λ ps. normal (ps ++ map deleted olds)) c.start-out.ensures in
    can_insert olds c.args.after.now.values c.requires.before c.requires.after c.delete_all.new.out.pieces told

pub returns : goal.returns
returns c =
    let olds = c.args.before.now.values in
    let told = c.in_ok-delete_all.ensures ∙ ap (λ ps. normal (ps ++ map deleted olds)) c.start-out.ensures in
    both_told olds c.args.after.now.values c.requires.before c.requires.after c.delete_all.new.out.pieces c.insert_all.new.out.pieces told c.in_ok-insert_all.ensures
