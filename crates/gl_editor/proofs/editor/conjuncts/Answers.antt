use Rattle.spec_lang.proofs.KindCases.{conjuncts-both}
use Rattle.gl_editor.proofs.editor.conjuncts.Goals as goal

pub returns-in-And : goal.returns-in-And
returns-in-And c = conjuncts-both c.in-And.parts.now c.args.m.now c.in-And.ensures.value
