-- The plan that a text spells, and the first fault of a text that spells none.
use Rattle.std.specs.Prelude.{◌≡◌, ◌+◌, ℕ, ◌==◌, suc, if◌then◌else◌, List, [], ◌∷◌, codes, take, count_by, Some, None, IsUtf8}
use Rattle.std.specs.Str.Lossy.{utf8_valid_len}
use Rattle.spec_syntax.specs.Cuts.{lines_in}
use Rattle.gl_lines.specs.declared.line.NumberedLine.{NumberedLine}
use Rattle.gl_lines.specs.declared.fault.PlanKind.TheVariants.{Utf8, Header}
use Rattle.spec_plans.specs.declared.fault.FaultAt.{FaultAt}
use Rattle.spec_plans.specs.NameFaults.{first_fault_at}
use Rattle.spec_plans.specs.Making.{plan_of}
use Rattle.spec_plans.specs.Plan.{Plan}
use Rattle.spec_plans.specs.Cycles.{IsAcyclic, IsCycleOf}
use Rattle.spec_plan_texts.specs.Reading.{Outcome, all_read, stopped, outside, Comes}

-- how many bytes stand after the last line feed
abbrev pub after_last : ℕ → List ℕ → ℕ
after_last sofar [] = sofar
after_last sofar (b ∷ bs) = if b == 10 then after_last 0 bs else after_last (suc sofar) bs

-- the line and the column of the byte after these
abbrev pub place_behind : List ℕ → ℕ × ℕ
place_behind bytes = (count_by (λ b. b == 10) bytes + 1, after_last 0 bytes + 1)

-- the fault at the first byte at which no whole character begins
abbrev pub utf8_fault : List ℕ → FaultAt
utf8_fault bytes =
    let at = place_behind (take (utf8_valid_len bytes) bytes) in
    record { line = at.0; column = at.1; kind = Utf8 }

-- what the lines after the first one, which is `glaze 1`, come to
abbrev pub ReadsTo : List ℕ → Outcome → Type 0
ReadsTo bytes out =
    IsUtf8 bytes × (raws : List (List ℕ)) × (lines_in bytes ≡ codes "glaze 1" ∷ raws)
    × Comes outside [] 2 raws out

-- the text spells this plan
pub record SpellsPlan (bytes : List ℕ) (p : Plan) : Type 0 where
  pub lines : List NumberedLine
  pub read : ReadsTo bytes (all_read lines)
  pub sound : first_fault_at lines ≡ None
  pub makes : p ≡ plan_of lines
  pub acyclic : IsAcyclic p

-- The first fault of a text, by the first of these that fits: it isn't UTF-8; its first line isn't `glaze 1`; a line can't be
-- read or may not stand where it stands; a name stands for nothing or for the wrong thing.
pub data FirstFault (bytes : List ℕ) : FaultAt → Type 0 where
  no_utf8 : ¬ IsUtf8 bytes → FirstFault bytes (utf8_fault bytes)
  no_header : IsUtf8 bytes → ((raws : List (List ℕ)) → ¬ (lines_in bytes ≡ codes "glaze 1" ∷ raws))
      → FirstFault bytes (record { line = 1; column = 1; kind = Header })
  in_line : {f : FaultAt} → ReadsTo bytes (stopped f) → FirstFault bytes f
  in_names : {f : FaultAt} {lines : List NumberedLine} → ReadsTo bytes (all_read lines)
      → first_fault_at lines ≡ Some f → FirstFault bytes f

-- the names of the first cycle of lists, or else of listeners, of a text that has no other fault
pub record SpellsCycle (bytes : List ℕ) (names : List (List ℕ)) : Type 0 where
  pub lines : List NumberedLine
  pub read : ReadsTo bytes (all_read lines)
  pub sound : first_fault_at lines ≡ None
  pub cycle : IsCycleOf (plan_of lines) names
