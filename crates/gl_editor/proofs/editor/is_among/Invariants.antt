use Rattle.std.proofs.Common.{◌≡◌, drop}
use Rattle.std.specs.List.{list_any}
use Rattle.spec_lang.specs.Kind as spec
use Rattle.gl_editor.proofs.editor.is_among.Given as goal

-- none so far is the same
abbrev pub invariant-loop-other : goal.invariant-loop-other
invariant-loop-other l = list_any (spec.same l.m) l.those ≡ list_any (spec.same l.m) (drop l.other-index l.those)
