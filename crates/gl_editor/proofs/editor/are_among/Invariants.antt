use Rattle.std.proofs.Common.{◌≡◌, drop}
use Rattle.spec_lang.specs.Kind as spec
use Rattle.gl_editor.proofs.editor.are_among.Given as goal

-- all so far are among those
abbrev pub invariant-loop-m : goal.invariant-loop-m
invariant-loop-m l = spec.are_among l.these l.those ≡ spec.are_among (drop l.m-index l.these) l.those
