-- What a filter stands for, and what its undos give back.
use Rattle.std.specs.Prelude.{Bool, List, unwrap_or}
use Rattle.spec_views.specs.Tree.{Tree}
use Rattle.spec_views.specs.Matcher.{Matcher, accepts}
use Rattle.gl_barcode.specs.Bars.{stretch_count}
use Rattle.gl_kernel.specs.Edits.{played, CanPlay}
use Rattle.gl_kernel.specs.Results.{AreResults, LeadsBack}
use Rattle.gl_filter.specs.Kept.{Kept}
use Rattle.gl_filter.specs.declared.filter.FilterUndo.{FilterUndo}

-- the filter stands for an input: it shows exactly what its matcher accepts of it
abbrev pub StandsFor : Kept → List Tree → Type 0
StandsFor k xs = AreResults (accepts k.matcher) k.shown xs

-- what a filter is, whatever its room
pub record Contents : Type 0 where
  pub matcher : Matcher
  pub shown : List Bool

abbrev pub contents : Kept → Contents
contents k = record { matcher = k.matcher; shown = k.shown }

-- what an undo makes of a filter
abbrev pub before : FilterUndo → Kept → Contents
before undo k =
    record { matcher = unwrap_or undo.matcher k.matcher; shown = played undo.log.items k.shown }

-- the filter has the room that the way back needs
abbrev pub CanRetreat : FilterUndo → Kept → Type 0
CanRetreat undo k = CanPlay stretch_count k.room undo.log.items k.shown

-- the undo is of the filter's last change
abbrev pub IsUndo : FilterUndo → Kept → Kept → Type 0
IsUndo undo old new = LeadsBack (before undo new) (contents old) (CanRetreat undo new)
