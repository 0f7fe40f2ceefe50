-- What the reading of a whole text answers.
use Rattle.std.specs.Prelude.{◌≡◌, ℕ, List, ◌∷◌, codes, IsUtf8, ⊤}
use Rattle.spec_plan_texts.specs.Cuts.{lines_in}
use Rattle.gl_lines.specs.declared.fault.PlanKind.{PlanKind}
use Rattle.gl_lines.specs.declared.fault.PlanKind.TheVariants.{Utf8}
use Rattle.spec_plan_texts.specs.FaultAt.{FaultAt}
use Rattle.spec_plan_texts.specs.Text.{FirstFault, SpellsCycle}
use Rattle.gl_plan.specs.declared.fault.PlanFault.{PlanFault}
use Rattle.gl_plan.specs.declared.fault.PlanFault.TheVariants.{At, Cycle, Memory}

abbrev pub fault_at : ℕ → ℕ → PlanKind → FaultAt
fault_at line column kind = record { line = line; column = column; kind = kind }

-- it is the first fault of the text, or its first cycle, or memory ran out
abbrev pub IsFault : List ℕ → PlanFault → Type 0
IsFault bytes (At line column kind) = FirstFault bytes (fault_at line column kind)
IsFault bytes (Cycle names) = SpellsCycle bytes names
IsFault bytes Memory = ⊤

-- the rest stands after the first line, which is `glaze 1`
pub record IsHeader (bytes rest : List ℕ) : Type 0 where
  pub lines : lines_in bytes ≡ codes "glaze 1" ∷ lines_in rest
  pub utf8 : IsUtf8 bytes → IsUtf8 rest

abbrev pub LacksHeader : List ℕ → Type 0
LacksHeader bytes = (raws : List (List ℕ)) → ¬ (lines_in bytes ≡ codes "glaze 1" ∷ raws)

-- the fault is at this place
abbrev pub IsPlaceFault : ℕ × ℕ → PlanFault → Type 0
IsPlaceFault at fault = fault ≡ At at.0 at.1 Utf8
