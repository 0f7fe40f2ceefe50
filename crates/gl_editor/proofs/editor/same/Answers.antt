use Rattle.spec_lang.proofs.KindCases.{same_decided}
use Rattle.gl_editor.proofs.editor.same.Goals as goal

pub returns : goal.returns
returns c = same_decided c.args.m.now c.args.n.now c.same.result c.same.ensures
