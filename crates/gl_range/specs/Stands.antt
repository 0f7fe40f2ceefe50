-- What a range stands for, and what its undos give back.
use Rattle.std.specs.Prelude.{◌≡◌, ◌-◌, ℕ, List, length}
use Rattle.spec_views.specs.Tree.{Tree}
use Rattle.spec_views.specs.Range.{start_of, end_of}
use Rattle.gl_range.specs.Kept.{Kept}
use Rattle.gl_range.specs.declared.range.RangeUndo.{RangeUndo}

-- the range stands for an input: it has as many elements as it keeps
abbrev pub StandsFor : Kept → List Tree → Type 0
StandsFor k xs = k.len ≡ length xs

-- how many elements are shown
abbrev pub shown_len : Kept → ℕ
shown_len k = end_of k.bounds k.len - start_of k.bounds k.len

-- the range that an undo leads back to
abbrev pub before : RangeUndo → Kept
before undo = record { bounds = undo.bounds; len = undo.len }
