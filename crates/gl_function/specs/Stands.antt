-- What a function list stands for, and what its undos give back.
use Rattle.std.specs.Prelude.{List, length, unwrap_or}
use Rattle.spec_views.specs.Tree.{Tree}
use Rattle.spec_lang.specs.Func.{Func, eval}
use Rattle.gl_kernel.specs.Edits.{played, CanPlay}
use Rattle.gl_kernel.specs.Results.{AreResults, LeadsBack}
use Rattle.gl_function.specs.Kept.{Kept}
use Rattle.gl_function.specs.declared.function.FunctionUndo.{FunctionUndo}

-- the list stands for an input: it keeps what its function makes of each of its elements
abbrev pub StandsFor : Kept → List Tree → Type 0
StandsFor k xs = AreResults (eval k.func) k.values xs

-- what a function list is, whatever its room
pub record Contents : Type 0 where
  pub func : Func
  pub values : List Tree

abbrev pub contents : Kept → Contents
contents k = record { func = k.func; values = k.values }

-- what an undo makes of a function list
abbrev pub before : FunctionUndo → Kept → Contents
before undo k =
    record { func = unwrap_or undo.func k.func; values = played undo.log.items k.values }

-- the list has the room that the way back needs
abbrev pub CanRetreat : FunctionUndo → Kept → Type 0
CanRetreat undo k = CanPlay length k.room undo.log.items k.values

-- the undo is of the list's last change
abbrev pub IsUndo : FunctionUndo → Kept → Kept → Type 0
IsUndo undo old new = LeadsBack (before undo new) (contents old) (CanRetreat undo new)
