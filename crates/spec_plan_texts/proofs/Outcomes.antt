-- The spellings of lines are read as these lines, their names in their columns.
use Rattle.std.proofs.Common.{◌≡◌, ℕ, suc, List, [], ◌∷◌, ◌++◌, map, None, sym, subst, append_assoc, append-nil}
use Rattle.std.specs.List.{AllByRecursion}
use Rattle.gl_lines.specs.declared.line.Line.{Line}
use Rattle.gl_lines.specs.declared.line.NumberedLine.{NumberedLine}
use Rattle.gl_lines.specs.declared.fault.PlanKind.{PlanKind}
use Rattle.spec_lines.specs.Line.{line_of_text}
use Rattle.spec_lines.specs.Spelled.{spelled_line}
use Rattle.spec_lines.specs.Within.{IsWithin}
use Rattle.spec_lines.proofs.Columns.{placed}
use Rattle.spec_lines.proofs.Lines.{one_line}
use Rattle.spec_lines.proofs.Within.{within_spelled}
use Rattle.spec_plans.specs.Along.{first_after}
use Rattle.spec_plans.specs.Numbered as whole
use Rattle.spec_plans.specs.Place.{place_fault, misplacing}
use Rattle.spec_plan_texts.specs.Reading.{all_read, outside, Comes, at_end, plain, SpellsLine, opened_by, numbered}
use Rattle.spec_plan_texts.specs.Short.{IsShortLine}
use Rattle.spec_basics.proofs.Options.{first_none, second_none, unmapped}

spells : (l : Line) → IsWithin l → SpellsLine (spelled_line l) (placed l)
unfolding SpellsLine
spells l h =
    let spelled : line_of_text (placed l) (spelled_line l) = within_spelled l h in
    record { spelled = spelled; alone = λ m s. one_line (spelled_line l) m (placed l) s spelled }

-- the line opens no block
abbrev pub OpensNone : Line → Type 0
OpensNone l = opened_by (placed l) ≡ None

pub comes : (before : List NumberedLine) (n : ℕ) (ls : List Line) → AllByRecursion IsWithin ls
    → AllByRecursion IsShortLine ls → AllByRecursion OpensNone ls
    → first_after misplacing before (whole.numbered n (map placed ls)) ≡ None
    → Comes outside before n (map spelled_line ls) (all_read (before ++ whole.numbered n (map placed ls)))
comes before n [] within short opens none = subst (λ ls. Comes outside before n [] (all_read ls))
    (sym (append-nil before)) at_end
comes before n (l ∷ ls) within short opens none =
    let this : NumberedLine = numbered n (placed l) in
    let others = whole.numbered (suc n) (map placed ls) in
    let later = first_after misplacing (before ++ this ∷ []) others in
    let here : place_fault before (placed l) ≡ None =
    unmapped (λ (k : PlanKind). record { line = n; kind = k }) (place_fault before (placed l))
    (first_none (misplacing before this) later none) in
    subst (λ xs. Comes outside before n (map spelled_line (l ∷ ls)) (all_read xs))
    (append_assoc before (this ∷ []) others)
    (plain (placed l) short.0 (spells l within.0) here opens.0
    (comes (before ++ this ∷ []) (suc n) ls within.1 short.1 opens.1 (second_none (misplacing before this) later none)))
