use Rattle.std.proofs.Common.{sym, subst}
use Rattle.spec_lang.specs.declared.EditKind.{EditKind}
use Rattle.spec_lang.specs.Kind as spec
use Rattle.spec_lang.proofs.KindCases.{kind_says}
use Rattle.gl_editor.proofs.editor.kind.Goals as goal

pub returns-clause-meaning : goal.returns-clause-meaning
returns-clause-meaning c =
    let Meant : EditKind → Type 0 = λ k. spec.Says k c.args.old.now c.args.new.now in
    subst Meant (sym c.first_rule.ensures) (kind_says c.args.old.now c.args.new.now)
