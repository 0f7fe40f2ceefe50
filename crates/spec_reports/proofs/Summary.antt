-- What the first list of a plan opens with, for the first line of a summary.
use Rattle.std.proofs.Common.{◌≡◌, ◌∙◌, ℕ, ◌<◌, List, [], ◌∷◌, length, map, Option, Some, None, refl, sym, ap, arith}
use Rattle.std.specs.Prelude.{slice_get, option_map}
use Rattle.std.proofs.lemmas.Option.{same_Some, none-some}
use Rattle.spec_plans.specs.Tree.{Tree}
use Rattle.gl_lines.specs.declared.plan.ListDecl.{ListDecl}
use Rattle.gl_lines.specs.declared.plan.ListKind.TheVariants.{Source}
use Rattle.spec_plans.specs.Plan.{Plan}
use Rattle.spec_plans.specs.WellFormed.{IsWellFormed}
use Rattle.spec_plans.specs.Cycles.{IsAcyclic}
use Rattle.spec_states.specs.State.{State, source, own_at, opening_of}
use Rattle.spec_states.specs.Shown.{shown, shown_of}
use Rattle.spec_states.specs.Opening.{opening, shown_first}
use Rattle.spec_states.proofs.Views.{shown_is}
use Rattle.spec_runs.proofs.Ordered.{opening_sound}
use Rattle.spec_reports.specs.Summary.{first_kind}

-- where there is no list, nothing is shown
pub no_first_list : (p : Plan) → None ≡ slice_get p.lists 0 → 0 ≡ length (shown (opening p) 0)
no_first_list p none = by p.lists refl none
  where
    by : (lists : List ListDecl) → p.lists ≡ lists → None ≡ slice_get lists 0 → 0 ≡ length (shown (opening p) 0)
    by [] e h =
        let empty : opening p ≡ [] = ap (map (λ (d : ListDecl). opening_of (shown_first p) d.kind)) e in
        sym (ap (λ s. length (shown s 0)) empty)
    by (d ∷ lists) e h = absurd (none-some d h)

-- a source that is the first list shows its opening elements
pub first_source : (p : Plan) (rows : List Tree) → IsWellFormed p → IsAcyclic p → first_kind p ≡ Some (Source rows)
    → length rows ≡ length (shown (opening p) 0)
first_source p rows formed acyclic is = by p.lists refl is
  where
    by : (lists : List ListDecl) → p.lists ≡ lists → option_map (λ d. d.kind) (slice_get lists 0) ≡ Some (Source rows)
        → length rows ≡ length (shown (opening p) 0)
    by [] e h = absurd (none-some (Source rows) h)
    by (d ∷ lists) e h =
        let kinds : List ListDecl → State = map (λ (d : ListDecl). opening_of (shown_first p) d.kind) in
        let own : own_at (opening p) 0 ≡ source rows =
        ap (λ ls. own_at (kinds ls) 0) e ∙ ap (opening_of (shown_first p)) (same_Some d.kind (Source rows) h) in
        let there : 0 < length (opening p) = omega (arith, ap (λ ls. length (kinds ls)) e) in
        let shows = shown_is (opening p) (opening_sound p formed acyclic) 0 there in
        sym (ap length (shows ∙ ap (λ o. shown_of o (shown (opening p))) own))
