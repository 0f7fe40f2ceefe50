-- Whole texts: what the lines after the first one come to is what the text comes to.
use Rattle.std.proofs.Common.{◌≡◌, ◌∙◌, ℕ, List, [], ◌∷◌, take, None, Result, Ok, Err, sym, ap, subst, codes}
use Rattle.std.specs.Prelude.{All, IfOk, OnOk, IfErr, MatchResult}
use Rattle.std.specs.Str.{IsUtf8}
use Rattle.std.specs.Str.Lossy.{utf8_valid_len}
use Rattle.std.proofs.lemmas.List.Elements.{All-from_recursion}
use Rattle.spec_plan_texts.specs.Cuts.{lines_in, IsFirstLine}
use Rattle.gl_lines.specs.declared.line.NumberedLine.{NumberedLine}
use Rattle.gl_lines.specs.declared.fault.PlanKind.TheVariants.{Header}
use Rattle.spec_plan_texts.specs.FaultAt.{FaultAt}
use Rattle.spec_plan_texts.specs.NameFaults.{first_fault_at}
use Rattle.spec_plan_texts.specs.Making.{plan_of}
use Rattle.spec_plan_texts.specs.Plan.{Plan}
use Rattle.spec_plan_texts.specs.Cycles.{IsAcyclic}
use Rattle.spec_plan_texts.specs.Reading.{all_read, stopped, outside, Comes}
use Rattle.spec_plan_texts.specs.Text.{ReadsTo, SpellsPlan, no_utf8, no_header, in_line, in_names, place_behind}
use Rattle.spec_plan_texts.proofs.Read.{read_within}
use Rattle.gl_plan.specs.Within.{IsWithin}
use Rattle.gl_plan.specs.Fault.{IsFaultOf}
use Rattle.gl_plan.specs.declared.fault.PlanFault.{PlanFault}
use Rattle.gl_plan.specs.declared.fault.PlanFault.TheVariants.{At, Cycle, Memory}
use Rattle.gl_text.specs.Spelled.{IsFault, IsHeader, LacksHeader, IsPlaceFault}
use Rattle.gl_text.proofs.Progress.{rest_text}

-- the lines after the header
pub lines_read : (bytes rest : List ℕ) (lines : List NumberedLine) → IsUtf8 bytes → IsHeader bytes rest
    → Comes outside [] 2 (lines_in rest) (all_read lines) → ReadsTo bytes (all_read lines)
lines_read bytes rest lines u head read = (u, lines_in rest, head.lines, read)

pub line_stops : (bytes rest : List ℕ) (f : FaultAt) → IsUtf8 bytes → IsHeader bytes rest
    → Comes outside [] 2 (lines_in rest) (stopped f) → IsFault bytes (At f.line f.column f.kind)
line_stops bytes rest f u head stops = in_line (u, lines_in rest, head.lines, stops)

pub lines_within : (bytes : List ℕ) (lines : List NumberedLine) → ReadsTo bytes (all_read lines)
    → All (λ l. IsWithin l.what) lines
lines_within bytes lines read = All-from_recursion (λ (l : NumberedLine). IsWithin l.what) lines (read_within bytes lines read)

-- what is made of the lines
unmade : (bytes : List ℕ) (lines : List NumberedLine) (fault : PlanFault) → ReadsTo bytes (all_read lines)
    → IsFaultOf lines fault → IsFault bytes fault
unmade bytes lines (At line column k) read h = in_names read h
unmade bytes lines (Cycle names) read h = record { lines = lines; read = read; sound = h.0; cycle = h.1 }
unmade bytes lines Memory read h = tt

pub text_either : (bytes : List ℕ) (lines : List NumberedLine) (result : Result Plan PlanFault) → ReadsTo bytes (all_read lines)
    → IfOk result (λ p. p ≡ plan_of lines) → OnOk result (first_fault_at lines ≡ None) → IfOk result IsAcyclic → IfErr result (IsFaultOf lines)
    → MatchResult result (SpellsPlan bytes) (IsFault bytes)
text_either bytes lines (Ok p) read makes sound acyclic fault = record { lines = lines; read = read; sound = sound; makes = makes; acyclic = acyclic }
text_either bytes lines (Err f) read makes sound acyclic fault = unmade bytes lines f read fault

pub header_fault : (bytes : List ℕ) → IsUtf8 bytes → LacksHeader bytes → IsFault bytes (At 1 1 Header)
header_fault bytes u lacks = no_header u lacks

pub bytes_fault : (bytes : List ℕ) (fault : PlanFault) → ¬ IsUtf8 bytes → IsPlaceFault (place_behind (take (utf8_valid_len bytes) bytes)) fault → IsFault bytes fault
bytes_fault bytes fault none e = subst (λ (f : PlanFault). IsFault bytes f) (sym e) (no_utf8 none)

-- the header
pub header_is : (bytes first rest : List ℕ) → lines_in bytes ≡ first ∷ lines_in rest → IsFirstLine bytes first rest → first ≡ codes "glaze 1" → IsHeader bytes rest
header_is bytes first rest lines cut is = record {
  lines = lines ∙ ap (λ x. x ∷ lines_in rest) is;
  utf8 = λ u. rest_text bytes first rest u cut;
}

pub header_other : (bytes first : List ℕ) (others : List (List ℕ)) → lines_in bytes ≡ first ∷ others → ¬ (first ≡ codes "glaze 1") → LacksHeader bytes
header_other bytes first others lines other = λ raws e. other (let same : first ≡ codes "glaze 1" = cc in same)

pub header_none : (bytes : List ℕ) → lines_in bytes ≡ [] → LacksHeader bytes
header_none bytes lines = λ raws e. absurd (let same : [] ≡ codes "glaze 1" ∷ raws = sym lines ∙ e in cc)
