use Rattle.std.proofs.Common.{◌∙◌, ◌<◌, ◌≤◌, ap, length, insert, remove, slice_set, List, subst, arith}
use Rattle.std.proofs.lemmas.List.Edits.{length-insert, length-remove}
use Rattle.std.proofs.lemmas.List.{length-set}
use Rattle.gl_kernel.specs.declared.log_step.LogStep.{LogStep}
use Rattle.gl_kernel.specs.declared.log_step.LogStep.TheVariants.{Insert, Remove, Set}
use Rattle.gl_kernel.specs.Edits.{IsWithin}
use Rattle.gl_kernel.proofs.Play.{remove-insert, insert-remove, set-back, can_go_back}
use Rattle.gl_kernel.proofs.log.made.Goals as goal

abbrev Within : {T : Type 0} → List T → LogStep T → Type 0
Within xs e = IsWithin e xs

pub returns-in-Insert-clause-back : goal.returns-in-Insert-clause-back
returns-in-Insert-clause-back g c =
    let xs = g.E.Editable.items c.args.list.now in
    let within : c.in-Insert.at ≤ length xs = subst (Within xs) c.in-Insert.is c.requires.can.within in
    ap (λ ys. remove ys c.in-Insert.at) c.insert.ensures.items ∙ remove-insert xs c.in-Insert.at c.in-Insert.item within

pub returns-in-Insert-clause-can_go_back : goal.returns-in-Insert-clause-can_go_back
returns-in-Insert-clause-can_go_back g c =
    let xs = g.E.Editable.items c.args.list.now in
    let ys = g.E.Editable.items c.insert.new.self in
    let at = c.in-Insert.at in
    let within : at ≤ length xs = subst (Within xs) c.in-Insert.is c.requires.can.within in
    let len = length-insert xs at c.in-Insert.item within in
    let back = ap (λ ys. remove ys at) c.insert.ensures.items ∙ remove-insert xs at c.in-Insert.item within in
    can_go_back g.E.Editable.need _ _ xs ys (Remove at) back (omega (arith, ap length c.insert.ensures.items, len, within)) c.insert.ensures.room c.requires.fits

pub returns-in-Remove-clause-back : goal.returns-in-Remove-clause-back
returns-in-Remove-clause-back g c =
    let xs = g.E.Editable.items c.args.list.now in
    ap (λ ys. insert ys c.in-Remove.at c.remove-old.result) c.remove-old.ensures.items ∙ insert-remove xs c.in-Remove.at c.remove-old.result c.remove-old.ensures.item

pub returns-in-Remove-clause-can_go_back : goal.returns-in-Remove-clause-can_go_back
returns-in-Remove-clause-can_go_back g c =
    let xs = g.E.Editable.items c.args.list.now in
    let ys = g.E.Editable.items c.remove-old.new.self in
    let at = c.in-Remove.at in
    let within : at < length xs = subst (Within xs) c.in-Remove.is c.requires.can.within in
    let len = length-remove xs at within in
    let back = ap (λ ys. insert ys at c.remove-old.result) c.remove-old.ensures.items ∙ insert-remove xs at c.remove-old.result c.remove-old.ensures.item in
    can_go_back g.E.Editable.need _ _ xs ys (Insert at c.remove-old.result) back (omega (arith, ap length c.remove-old.ensures.items, len, within)) c.remove-old.ensures.room c.requires.fits

pub returns-in-Set-clause-back : goal.returns-in-Set-clause-back
returns-in-Set-clause-back g c =
    let xs = g.E.Editable.items c.args.list.now in
    ap (λ ys. slice_set ys c.in-Set.at c.replace-old.result) c.replace-old.ensures.items
    ∙ set-back xs c.in-Set.at c.replace-old.result c.in-Set.item c.replace-old.ensures.item

pub returns-in-Set-clause-can_go_back : goal.returns-in-Set-clause-can_go_back
returns-in-Set-clause-can_go_back g c =
    let xs = g.E.Editable.items c.args.list.now in
    let ys = g.E.Editable.items c.replace-old.new.self in
    let at = c.in-Set.at in
    let within : at < length xs = subst (Within xs) c.in-Set.is c.requires.can.within in
    let len = length-set xs at c.in-Set.item in
    let back = ap (λ ys. slice_set ys at c.replace-old.result) c.replace-old.ensures.items ∙ set-back xs at c.replace-old.result c.in-Set.item c.replace-old.ensures.item in
    can_go_back g.E.Editable.need _ _ xs ys (Set at c.replace-old.result) back (omega (arith, ap length c.replace-old.ensures.items, len, within)) c.replace-old.ensures.room c.requires.fits
