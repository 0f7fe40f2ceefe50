-- The lines of a text come to some outcome.
use Rattle.std.proofs.Common.{◌≡◌, ℕ, suc, ◌+◌, ◌≤◌, List, [], ◌∷◌, ◌++◌, length, codes, Option, Some, None, refl, sym, subst, inl, inr}
use Rattle.std.proofs.lemmas.Bool.{cases_lt}
use Rattle.gl_lines.specs.declared.named.Named.{Named}
use Rattle.gl_lines.specs.declared.line.Line.{Line}
use Rattle.gl_lines.specs.declared.line.NumberedLine.{NumberedLine}
use Rattle.gl_lines.specs.declared.fault.PlanKind.{PlanKind}
use Rattle.gl_lines.specs.declared.fault.PlanKind.TheVariants.{LongLine, Form, Block}
use Rattle.spec_plans.specs.Place.{place_fault}
use Rattle.spec_plan_texts.specs.Reading.{Outcome, all_read, Mode, outside, inside, most_bytes, SpellsLine, IsSkipped, numbered, fault, opened_by, rows_of, Comes, at_end, long, skipped, formless, misplaced, plain, opening, in_block, closing, endless}
use Rattle.spec_plan_texts.proofs.LineCases.{line_or_column, skipped_or_not, same_or_not}
use Rattle.spec_plan_texts.proofs.Blocks.{some_block}

abbrev SomeOf : Mode → List NumberedLine → ℕ → List (List ℕ) → Type 0
SomeOf mode before n raws = (out : Outcome) × Comes mode before n raws out

-- the lines after come to something, wherever the reading stands
abbrev SomeAfter : List (List ℕ) → Type 0
SomeAfter raws = (mode : Mode) (before : List NumberedLine) (n : ℕ) → SomeOf mode before n raws

some_opened : (before : List NumberedLine) (n : ℕ) (raw : List ℕ) (raws : List (List ℕ)) (l : Line) → SomeAfter raws
    → length raw ≤ most_bytes
    → SpellsLine raw l → place_fault before l ≡ None → (named : Option Named) → opened_by l ≡ named
    → SomeOf outside before n (raw ∷ raws)
some_opened before n raw raws l remaining short s p None e =
    let c = remaining outside (before ++ numbered n l ∷ []) (suc n) in (c.0, plain l short s p e c.1)
some_opened before n raw raws l remaining short s p (Some named) e =
    let c = remaining (inside n named []) (before ++ numbered n l ∷ []) (suc n) in (c.0, opening l short s p e c.1)

some_placed : (before : List NumberedLine) (n : ℕ) (raw : List ℕ) (raws : List (List ℕ)) (l : Line) → SomeAfter raws
    → length raw ≤ most_bytes
    → SpellsLine raw l → (bad : Option PlanKind) → place_fault before l ≡ bad → SomeOf outside before n (raw ∷ raws)
some_placed before n raw raws l remaining short s None e =
    some_opened before n raw raws l remaining short s e (opened_by l) refl
some_placed before n raw raws l remaining short s (Some bad) e = (fault n 1 bad, misplaced l short s e)

some_filled : (before : List NumberedLine) (n : ℕ) (raw : List ℕ) (raws : List (List ℕ)) → SomeAfter raws
    → length raw ≤ most_bytes
    → ¬ IsSkipped raw → SomeOf outside before n (raw ∷ raws)
some_filled before n raw raws remaining short filled =
    elim (line_or_column raw) as (λ _. SomeOf outside before n (raw ∷ raws)) [
      | inl l ↦ some_placed before n raw raws l.0 remaining short l.1 (place_fault before l.0) refl
      | inr c ↦ (fault n c.0 Form, formless c.0 short filled c.1)
    ]

some_short : (before : List NumberedLine) (n : ℕ) (raw : List ℕ) (raws : List (List ℕ)) → SomeAfter raws
    → length raw ≤ most_bytes
    → SomeOf outside before n (raw ∷ raws)
some_short before n raw raws remaining short = elim (skipped_or_not raw) as (λ _. SomeOf outside before n (raw ∷ raws)) [
  | inl s ↦ let c = remaining outside before (suc n) in (c.0, skipped short s c.1)
  | inr filled ↦ some_filled before n raw raws remaining short filled
]

some_outside : (before : List NumberedLine) (n : ℕ) (raw : List ℕ) (raws : List (List ℕ)) → SomeAfter raws
    → SomeOf outside before n (raw ∷ raws)
some_outside before n raw raws remaining =
    elim (cases_lt most_bytes (length raw)) as (λ _. SomeOf outside before n (raw ∷ raws)) [
      | inl l ↦ (fault n (most_bytes + 1) LongLine, long l)
      | inr short ↦ some_short before n raw raws remaining short
    ]

some_inside : (before : List NumberedLine) (n m : ℕ) (named : Named) (block raw : List ℕ) (raws : List (List ℕ))
    → SomeAfter raws
    → SomeOf (inside m named block) before n (raw ∷ raws)
some_inside before n m named block raw raws remaining =
    elim (same_or_not raw (codes "end csv")) as (λ _. SomeOf (inside m named block) before n (raw ∷ raws)) [
      | inl e ↦
          let rows = some_block block in
          let c = remaining outside (before ++ rows_of m named rows.0) (suc n) in
          subst (λ bs. SomeOf (inside m named block) before n (bs ∷ raws)) (sym e) (c.0, closing rows.1 c.1)
      | inr ne ↦ let c = remaining (inside m named (block ++ raw ++ 10 ∷ [])) before (suc n) in (c.0, in_block ne c.1)
    ]

some_by_lines : (raws : List (List ℕ)) → SomeAfter raws
some_by_lines [] outside before n = (all_read before, at_end)
some_by_lines [] (inside m named block) before n = (fault m 1 Block, endless)
some_by_lines (raw ∷ raws) outside before n = some_outside before n raw raws (some_by_lines raws)
some_by_lines (raw ∷ raws) (inside m named block) before n =
    some_inside before n m named block raw raws (some_by_lines raws)

-- wherever the reading stands, the lines after come to something
pub comes_some : (mode : Mode) (before : List NumberedLine) (n : ℕ) (raws : List (List ℕ))
    → (out : Outcome) × Comes mode before n raws out
comes_some mode before n raws = some_by_lines raws mode before n
