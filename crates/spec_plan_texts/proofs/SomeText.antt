-- A text has a first fault, or spells a cycle, or spells a plan.
use Rattle.std.proofs.Common.{◌≡◌, ◌∙◌, ◌⊎◌, ℕ, List, [], ◌∷◌, codes, Option, Some, None, refl, sym, ap, inl, inr}
use Rattle.std.specs.Str.{IsUtf8, is_utf8}
use Rattle.std.proofs.lemmas.Bool.{cases_Bool, false≢true}
use Rattle.std.proofs.lemmas.Str.{IsUtf8-from_is_utf8, is_utf8-from_IsUtf8}
use Rattle.spec_syntax.specs.Cuts.{lines_in}
use Rattle.gl_lines.specs.declared.line.NumberedLine.{NumberedLine}
use Rattle.gl_lines.specs.declared.fault.PlanKind.TheVariants.{Header}
use Rattle.spec_plans.specs.declared.fault.FaultAt.{FaultAt}
use Rattle.spec_plans.specs.NameFaults.{first_fault_at}
use Rattle.spec_plans.specs.Making.{plan_of}
use Rattle.spec_plans.specs.Plan.{Plan, list_edges, listener_edges}
use Rattle.spec_plans.specs.Cycles.{IsAcyclic, IsCycleOf}
use Rattle.spec_plan_texts.specs.Reading.{Outcome, all_read, stopped, outside}
use Rattle.spec_plan_texts.specs.Text.{utf8_fault, ReadsTo, SpellsPlan, FirstFault, no_utf8, no_header, in_line, in_names, SpellsCycle}
use Rattle.spec_plan_texts.proofs.LineCases.{same_or_not}
use Rattle.spec_plan_texts.proofs.Some.{comes_some}
use Rattle.spec_plan_texts.proofs.FirstCycle.{cycle_or_none}

-- the dependencies of a plan go round somewhere, or nowhere
abbrev RoundOrNot : Plan → Type 0
RoundOrNot p = ((names : List (List ℕ)) × IsCycleOf p names) ⊎ IsAcyclic p

round_or_not : (p : Plan) → RoundOrNot p
round_or_not p = elim (cycle_or_none (list_edges p)) as (λ _. RoundOrNot p) [
  | inl c ↦ inl (_, inl (c.0, c.1, refl))
  | inr free ↦ elim (cycle_or_none (listener_edges p)) as (λ _. RoundOrNot p) [
    | inl c ↦ inl (_, inr (free, (c.0, c.1, refl)))
    | inr none ↦ inr (record { lists = free; listeners = none })
  ]
]

-- what a text is
abbrev pub IsText : List ℕ → Type 0
IsText bytes =
    ((f : FaultAt) × FirstFault bytes f)
    ⊎ ((names : List (List ℕ)) × SpellsCycle bytes names)
    ⊎ ((p : Plan) × SpellsPlan bytes p)

of_lines : (bytes : List ℕ) (lines : List NumberedLine) → ReadsTo bytes (all_read lines) → (f : Option FaultAt)
    → first_fault_at lines ≡ f → IsText bytes
of_lines bytes lines r None e = elim (round_or_not (plan_of lines)) as (λ _. IsText bytes) [
  | inl c ↦ inr (inl (c.0, record { lines = lines; read = r; sound = e; cycle = c.1 }))
  | inr free ↦ inr (inr (plan_of lines, record { lines = lines; read = r; sound = e; makes = refl; acyclic = free }))
]
of_lines bytes lines r (Some f) e = inl (f, in_names r e)

of_reading : (bytes : List ℕ) (out : Outcome) → ReadsTo bytes out → IsText bytes
of_reading bytes (all_read lines) r = of_lines bytes lines r (first_fault_at lines) refl
of_reading bytes (stopped f) r = inl (f, in_line r)

headless : (bytes : List ℕ) → IsUtf8 bytes → ((raws : List (List ℕ)) → ¬ (lines_in bytes ≡ codes "glaze 1" ∷ raws))
    → IsText bytes
headless bytes t none = inl (record { line = 1; column = 1; kind = Header }, no_header t none)

by_head : (bytes : List ℕ) → IsUtf8 bytes → (lines : List (List ℕ)) → lines_in bytes ≡ lines → IsText bytes
by_head bytes t [] e = headless bytes t (λ raws f. empty raws (sym e ∙ f))
  where
    empty : (raws : List (List ℕ)) → [] ≡ codes "glaze 1" ∷ raws → ⊥
    empty raws f = absurd cc
by_head bytes t (head ∷ raws) e = elim (same_or_not head (codes "glaze 1")) as (λ _. IsText bytes) [
  | inl is ↦
      let c = comes_some outside [] 2 raws in
      of_reading bytes c.0 (t, raws, e ∙ ap (λ x. x ∷ raws) is, c.1)
  | inr ne ↦ headless bytes t (λ others f. ne (first head raws others (sym e ∙ f)))
]
  where
    first : (head : List ℕ) (raws others : List (List ℕ)) → head ∷ raws ≡ codes "glaze 1" ∷ others
        → head ≡ codes "glaze 1"
    first head raws others f = cc

pub some_text : (bytes : List ℕ) → IsText bytes
some_text bytes = elim (cases_Bool (is_utf8 bytes)) as (λ _. IsText bytes) [
  | inl t ↦ by_head bytes (IsUtf8-from_is_utf8 bytes t) (lines_in bytes) refl
  | inr f ↦ inl (utf8_fault bytes, no_utf8 (λ t. false≢true (sym f ∙ is_utf8-from_IsUtf8 bytes t)))
]
