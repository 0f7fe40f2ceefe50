-- Worked rows of the definitions, each by computing.
use Rattle.std.specs.Prelude.{◌≡◌, pos, [], ◌∷◌, refl, codes}
use Rattle.std.specs.Fmt.{digits}
use Rattle.spec_plans.specs.Tree.{num}
use Rattle.spec_states.specs.Changes.{delete, insertion}
use Rattle.gl_outside.specs.declared.gate.Actor.TheVariants.{Writer, Proxy}
use Rattle.gl_lines.specs.declared.plan.Command.TheVariants.{Match, Set}
use Rattle.gl_lines.specs.declared.plan.ListKind.TheVariants as kinds
use Rattle.spec_plans.specs.Plan.{Plan}
use Rattle.spec_runs.specs.Fits.{no_section}
use Rattle.spec_runs.specs.Rows.{short, watched, pair, number_above}
use Rattle.spec_reports.specs.Order.{spelled_order}
use Rattle.spec_reports.specs.Event.{changes_text}
use Rattle.spec_reports.specs.Report.{report}
use Rattle.spec_reports.specs.Answer.{too_long, misfit, replayed, text_of_outcome}

orders : spelled_order (Writer 0 ∷ Proxy 12 ∷ []) ≡ codes "w0,p12"
unfolding digits
orders = refl

no_entry : spelled_order [] ≡ codes "-"
no_entry = refl

event : changes_text (delete 0 (num (pos 7)) ∷ insertion 0 (num (pos 7)) ∷ [])
    ≡ codes "delete 0 7; insert 0 7"
unfolding digits
event = refl

-- a command that is refused, one that is done, and one that shows the list
short_report :
    report short (Writer 0 ∷ [])
    ≡ codes "order w0\nat 0 w0\nreply 0 too-long s 3\nreply 1 ok\nreply 2 shown [1,2]\nlist s [1,2]\n"
unfolding digits
short_report = refl

-- a filter that hides an element, which is then set so that it is shown
watched_report :
    report
    (watched ((Match 0 (number_above 4) ∷ []) ∷ (Set 1 1 (pair 7 (codes "z")) ∷ []) ∷ []))
    (Writer 0 ∷ Writer 0 ∷ [])
    ≡ codes "order w0,w0\nat 0 w0\nreply 0 ok\ntold a delete 1 [2,\"x\"]\nat 1 w0\nreply 0 ok\ntold a insert 1 [7,\"z\"]\ntold b update 1 [2,\"x\"] [7,\"z\"]\nlist f [[9,\"y\"],[7,\"z\"]]\nlist s [[9,\"y\"],[7,\"z\"]]\n"
unfolding digits
watched_report = refl

-- two rows where the limit is one
abbrev narrow : Plan
narrow = record {
  limit = 1;
  lists = record { name = codes "s"; kind = kinds.Source (num (pos 1) ∷ num (pos 2) ∷ []) } ∷ [];
  listeners = [];
  writers = [];
}

narrow_answer : replayed narrow [] ≡ too_long (codes "s") 2
narrow_answer = refl

narrow_text : text_of_outcome (too_long (codes "s") 2) ≡ codes "too-long s 2\n"
unfolding digits
narrow_text = refl

-- the writer of the short plan has one section
short_again : replayed short (Writer 0 ∷ Writer 0 ∷ [])
    ≡ misfit (record { place = 1; reason = no_section })
short_again = refl

short_again_text : text_of_outcome (misfit (record { place = 1; reason = no_section }))
    ≡ codes "order: place 1: no-section\n"
unfolding digits
short_again_text = refl
