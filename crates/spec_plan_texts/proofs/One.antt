-- The lines of a text come to one outcome.
use Rattle.std.proofs.Common.{◌≡◌, ◌∙◌, ◌⊎◌, ℕ, suc, ◌+◌, ◌<◌, ◌≤◌, List, [], ◌∷◌, ◌++◌, length, codes, Option, Some, None, refl, sym, ap, subst, inl, inr, arith}
use Rattle.spec_plans.specs.Tree.{Tree}
use Rattle.spec_syntax.specs.Block.{BlockHas}
use Rattle.spec_syntax.proofs.OneBlock.{one_block}
use Rattle.gl_lines.specs.declared.named.Named.{Named}
use Rattle.gl_lines.specs.declared.line.Line.{Line}
use Rattle.gl_lines.specs.declared.line.NumberedLine.{NumberedLine}
use Rattle.gl_lines.specs.declared.fault.PlanKind.{PlanKind}
use Rattle.gl_lines.specs.declared.fault.PlanKind.TheVariants.{LongLine, Form, Block}
use Rattle.spec_plans.specs.Place.{place_fault}
use Rattle.spec_plan_texts.specs.Reading.{Outcome, all_read, Mode, outside, inside, most_bytes, SpellsLine, LeavesLines, IsSkipped, numbered, fault, opened_by, rows_of, Comes, at_end, long, skipped, formless, misplaced, plain, opening, in_block, closing, endless}
use Rattle.spec_plan_texts.proofs.LineCases.{one_line_spelled, one_column_left, spells_or_leaves, skipped_spells_none}

-- After a line that may stand where it stands: the line opens a block, or none.
abbrev Opened : List NumberedLine → ℕ → Line → List (List ℕ) → Outcome → Option Named → Type 0
Opened before n l raws out None = Comes outside (before ++ numbered n l ∷ []) (suc n) raws out
Opened before n l raws out (Some named) = Comes (inside n named []) (before ++ numbered n l ∷ []) (suc n) raws out

-- The line has a fault of its place, or none.
abbrev Placed : List NumberedLine → ℕ → Line → List (List ℕ) → Outcome → Option PlanKind → Type 0
Placed before n l raws out None = Opened before n l raws out (opened_by l)
Placed before n l raws out (Some kind) = out ≡ fault n 1 kind

-- What a line comes to that isn't too long: it says nothing, it has no form, or it spells a line.
abbrev Short : List NumberedLine → ℕ → List ℕ → List (List ℕ) → Outcome → Type 0
Short before n raw raws out =
    (IsSkipped raw × Comes outside before (suc n) raws out)
    ⊎ ((column : ℕ) × ¬ IsSkipped raw × LeavesLines raw column × (out ≡ fault n column Form))
    ⊎ ((l : Line) × SpellsLine raw l × Placed before n l raws out (place_fault before l))

-- What a line in a block comes to: it belongs to the block, or it ends it.
abbrev Blocked : List NumberedLine → ℕ → ℕ → Named → List ℕ → List ℕ → List (List ℕ) → Outcome → Type 0
Blocked before n m named block raw raws out =
    (¬ (raw ≡ codes "end csv") × Comes (inside m named (block ++ raw ++ 10 ∷ [])) before (suc n) raws out)
    ⊎ ((raw ≡ codes "end csv") × (rows : List Tree) × BlockHas block rows
    × Comes outside (before ++ rows_of m named rows) (suc n) raws out)

-- What lines come to, by the first of them.
abbrev Cases : Mode → List NumberedLine → ℕ → List (List ℕ) → Outcome → Type 0
Cases outside before n [] out = out ≡ all_read before
Cases outside before n (raw ∷ raws) out =
    ((most_bytes < length raw) × (out ≡ fault n (most_bytes + 1) LongLine))
    ⊎ ((length raw ≤ most_bytes) × Short before n raw raws out)
Cases (inside m named block) before n [] out = out ≡ fault m 1 Block
Cases (inside m named block) before n (raw ∷ raws) out = Blocked before n m named block raw raws out

cases_of : {mode : Mode} {before : List NumberedLine} {n : ℕ} {raws : List (List ℕ)} {out : Outcome}
    → Comes mode before n raws out → Cases mode before n raws out
cases_of at_end = refl
cases_of (long l) = inl (l, refl)
cases_of (skipped l s c) = inr (l, inl (s, c))
cases_of (formless column l s f) = inr (l, inr (inl (column, s, f, refl)))
cases_of {before = before} {n = n} {raws = raw ∷ raws} (misplaced k {kind = bad} l s p) =
    inr (l, inr (inr (k, s, subst (Placed before n k raws (fault n 1 bad)) (sym p) refl)))
cases_of {before = before} {n = n} {raws = raw ∷ raws} {out = out} (plain k l s p o c) =
    inr (l, inr (inr (k, s, subst (Placed before n k raws out) (sym p) (subst (Opened before n k raws out) (sym o) c))))
cases_of {before = before} {n = n} {raws = raw ∷ raws} {out = out} (opening k {named} l s p o c) =
    inr (l, inr (inr (k, s, subst (Placed before n k raws out) (sym p) (subst (Opened before n k raws out) (sym o) c))))
cases_of (in_block e c) = inl (e, c)
cases_of (closing {rows = rows} b c) = inr (refl, rows, b, c)
cases_of endless = refl

-- the lines after come to one outcome
abbrev OneAfter : List (List ℕ) → Type 0
OneAfter raws =
    (mode : Mode) (before : List NumberedLine) (n : ℕ) (a b : Outcome)
    → Comes mode before n raws a → Comes mode before n raws b → a ≡ b

one_opened : (before : List NumberedLine) (n : ℕ) (l : Line) (raws : List (List ℕ)) (a b : Outcome)
    (named : Option Named)
    → OneAfter raws → Opened before n l raws a named → Opened before n l raws b named → a ≡ b
one_opened before n l raws a b None one h k = one outside (before ++ numbered n l ∷ []) (suc n) a b h k
one_opened before n l raws a b (Some named) one h k =
    one (inside n named []) (before ++ numbered n l ∷ []) (suc n) a b h k

one_placed : (before : List NumberedLine) (n : ℕ) (l : Line) (raws : List (List ℕ)) (a b : Outcome)
    (bad : Option PlanKind)
    → OneAfter raws → Placed before n l raws a bad → Placed before n l raws b bad → a ≡ b
one_placed before n l raws a b None one h k = one_opened before n l raws a b (opened_by l) one h k
one_placed before n l raws a b (Some fault_kind) one h k = h ∙ sym k

one_short : (before : List NumberedLine) (n : ℕ) (raw : List ℕ) (raws : List (List ℕ)) (a b : Outcome)
    → OneAfter raws → Short before n raw raws a → Short before n raw raws b → a ≡ b
one_short before n raw raws a b one (inl h) (inl k) = one outside before (suc n) a b h.1 k.1
one_short before n raw raws a b one (inl h) (inr (inl k)) = absurd (k.1 h.0)
one_short before n raw raws a b one (inl h) (inr (inr k)) = absurd (skipped_spells_none raw k.0 h.0 k.1)
one_short before n raw raws a b one (inr (inl h)) (inl k) = absurd (h.1 k.0)
one_short before n raw raws a b one (inr (inl h)) (inr (inl k)) =
    h.3 ∙ ap (λ c. fault n c Form) (one_column_left raw h.0 k.0 h.2 k.2) ∙ sym k.3
one_short before n raw raws a b one (inr (inl h)) (inr (inr k)) = absurd (spells_or_leaves raw k.0 h.0 k.1 h.2)
one_short before n raw raws a b one (inr (inr h)) (inl k) = absurd (skipped_spells_none raw h.0 k.0 h.1)
one_short before n raw raws a b one (inr (inr h)) (inr (inl k)) = absurd (spells_or_leaves raw h.0 k.0 h.1 k.2)
one_short before n raw raws a b one (inr (inr h)) (inr (inr k)) =
    one_placed before n h.0 raws a b (place_fault before h.0) one h.2
    (subst (λ (l : Line). Placed before n l raws b (place_fault before l)) (one_line_spelled raw k.0 h.0 k.1 h.1) k.2)

one_blocked : (before : List NumberedLine) (n m : ℕ) (named : Named) (block raw : List ℕ) (raws : List (List ℕ))
    (a b : Outcome)
    → OneAfter raws → Blocked before n m named block raw raws a → Blocked before n m named block raw raws b → a ≡ b
one_blocked before n m named block raw raws a b one (inl h) (inl k) =
    one (inside m named (block ++ raw ++ 10 ∷ [])) before (suc n) a b h.1 k.1
one_blocked before n m named block raw raws a b one (inl h) (inr k) = absurd (h.0 k.0)
one_blocked before n m named block raw raws a b one (inr h) (inl k) = absurd (k.0 h.0)
one_blocked before n m named block raw raws a b one (inr h) (inr k) =
    one outside (before ++ rows_of m named h.1) (suc n) a b h.3
    (subst (λ rows. Comes outside (before ++ rows_of m named rows) (suc n) raws b)
    (one_block block k.1 h.1 k.2 h.2) k.3)

one_of_cases : (mode : Mode) (before : List NumberedLine) (n : ℕ) (raw : List ℕ) (raws : List (List ℕ)) (a b : Outcome)
    → OneAfter raws → Cases mode before n (raw ∷ raws) a → Cases mode before n (raw ∷ raws) b → a ≡ b
one_of_cases outside before n raw raws a b one (inl h) (inl k) = h.1 ∙ sym k.1
one_of_cases outside before n raw raws a b one (inl h) (inr k) = absurd (omega (arith, h.0, k.0))
one_of_cases outside before n raw raws a b one (inr h) (inl k) = absurd (omega (arith, h.0, k.0))
one_of_cases outside before n raw raws a b one (inr h) (inr k) = one_short before n raw raws a b one h.1 k.1
one_of_cases (inside m named block) before n raw raws a b one h k =
    one_blocked before n m named block raw raws a b one h k

one_by_lines : (raws : List (List ℕ)) → OneAfter raws
one_by_lines [] outside before n a b h k = cases_of h ∙ sym (cases_of k)
one_by_lines [] (inside m named block) before n a b h k = cases_of h ∙ sym (cases_of k)
one_by_lines (raw ∷ raws) mode before n a b h k =
    one_of_cases mode before n raw raws a b (one_by_lines raws) (cases_of h) (cases_of k)

-- whatever the lines come to, they come to nothing else
pub comes_one : {mode : Mode} {before : List NumberedLine} {n : ℕ} {raws : List (List ℕ)} (a b : Outcome)
    → Comes mode before n raws a → Comes mode before n raws b → a ≡ b
comes_one {mode = mode} {before = before} {n = n} {raws = raws} a b h k = one_by_lines raws mode before n a b h k
