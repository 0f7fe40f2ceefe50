-- Writing the changes of an event one after another.
use Rattle.std.proofs.Common.{◌≡◌, ◌∙◌, ℕ, ◌++◌, List, ◌∷◌, ap, sym, append_assoc, append-nil}
use Rattle.std.specs.Prelude.{Bool, true, false, codes}
use Rattle.gl_event.specs.ListsChanges.{Change}
use Rattle.spec_reports.specs.Event.{change_text, other_changes, changes_text}
use Rattle.gl_report.specs.Told.{separator, changes_left}

-- one change more is written, of those that are left
pub change_more : (out before : List ℕ) (first : Bool) (cs : List Change) (c : Change) (rest : List Change) → cs ≡ c ∷ rest
    → out ++ changes_left first cs ≡ before → ((out ++ separator first) ++ change_text c) ++ changes_left false rest ≡ before
change_more out before true cs c rest e whole =
    ap (λ o. (o ++ change_text c) ++ other_changes rest) (append-nil out) ∙ append_assoc out (change_text c) (other_changes rest) ∙ ap (λ ds. out ++ changes_text ds) (sym e) ∙ whole
change_more out before false cs c rest e whole =
    ap (λ o. o ++ other_changes rest) (append_assoc out (codes "; ") (change_text c)) ∙ append_assoc out (codes "; " ++ change_text c) (other_changes rest) ∙ ap (λ ds. out ++ other_changes ds) (sym e) ∙ whole
