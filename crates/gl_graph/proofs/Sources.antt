-- A transaction list of a plan is over a source, so that what a plan opens with is a state as plans have it.
use Rattle.std.proofs.Common.{◌≡◌, ◌∙◌, ℕ, zero, suc, List, [], ◌∷◌, refl, ap, sym, subst}
use Rattle.std.specs.Prelude.{Option, Some, None, option_map, slice_get}
use Rattle.std.specs.List.{AllByRecursion}
use Rattle.std.proofs.lemmas.List.Elements.{recursion_from_All}
use Rattle.spec_states.specs.Tree.{Tree}
use Rattle.spec_states.specs.ListDecl.{ListDecl}
use Rattle.spec_states.specs.ListKind.{ListKind}
use Rattle.spec_states.specs.ListKind.TheVariants as kinds
use Rattle.spec_states.specs.ListClass.{ListClass}
use Rattle.spec_states.specs.ListClass.TheVariants.{Edited}
use Rattle.spec_states.specs.Plan.{Plan}
use Rattle.spec_states.specs.WellFormed.{class_of_kind, class_at, HasInputs, HasList}
use Rattle.spec_states.specs.Opening.{opening}
use Rattle.spec_states.specs.Laws.{IsOrdered, IsSound}
use Rattle.spec_states.proofs.Openings.{opening_sound, over_sources}
use Rattle.gl_plan.specs.Whole.{IsWhole}

-- the inputs of a list of a plan are as its kind needs them
needed_at : (p : Plan) (ds : List ListDecl) (k : ℕ) (d : ListDecl) → AllByRecursion (λ e. HasInputs p e.kind) ds → slice_get ds k ≡ Some d → HasInputs p d.kind
needed_at p [] k d h e = absurd cc
needed_at p (first ∷ ds) zero d h e = let same : first ≡ d = cc in subst (λ (l : ListDecl). HasInputs p l.kind) same h.0
needed_at p (first ∷ ds) (suc k) d h e = needed_at p ds k d h.1 e

-- only a source is edited
edited_kind : (kind : ListKind) → class_of_kind kind ≡ Edited → (rows : List Tree) × (kind ≡ kinds.Source rows)
edited_kind (kinds.Source rows) e = (rows, refl)
edited_kind (kinds.Filter input matcher) e = absurd cc
edited_kind (kinds.Sorted input order) e = absurd cc
edited_kind (kinds.Unique input order) e = absurd cc
edited_kind (kinds.Grouping input order) e = absurd cc
edited_kind (kinds.Range input bounds) e = absurd cc
edited_kind (kinds.Function input func) e = absurd cc
edited_kind (kinds.Collection input kids) e = absurd cc
edited_kind (kinds.Composite members may) e = absurd cc
edited_kind (kinds.Transaction input) e = absurd cc
edited_kind (kinds.Freezable input) e = absurd cc
edited_kind (kinds.Proxy input) e = absurd cc

edited_at : (p : Plan) (k : ℕ) (o : Option ListDecl) → slice_get p.lists k ≡ o → class_at p k ≡ Some Edited
    → (e : ListDecl) × (rows : List Tree) × (slice_get p.lists k ≡ Some e) × (e.kind ≡ kinds.Source rows)
edited_at p k None is e = absurd (none (ap (option_map (λ (d : ListDecl). class_of_kind d.kind)) (sym is) ∙ e))
  where
    none : None ≡ Some Edited → ⊥
    none e = absurd cc
edited_at p k (Some d) is e =
    let class : Some (class_of_kind d.kind) ≡ Some Edited = ap (option_map (λ (d : ListDecl). class_of_kind d.kind)) (sym is) ∙ e in
    let kind = edited_kind d.kind (same (class_of_kind d.kind) class) in
    (d, kind.0, is, kind.1)
  where
    same : (c : ListClass) → Some c ≡ Some Edited → c ≡ Edited
    same c e = cc

pub whole_sound : (p : Plan) → IsWhole p → IsOrdered (opening p) → IsSound (opening p)
whole_sound p h ordered = opening_sound p ordered (over_sources p (λ list d input at kind.
    let needs : HasInputs p (kinds.Transaction input) = subst (HasInputs p) kind (needed_at p p.lists list d (recursion_from_All (λ (e : ListDecl). HasInputs p e.kind) p.lists h.formed.inputs) at) in
    edited_at p input (slice_get p.lists input) refl (recursion_from_All (HasList p (Some Edited)) (input ∷ []) needs).0))
