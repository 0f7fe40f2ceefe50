-- Bytes spell one line, or leave the lines of the language in one column; an empty line and a comment spell none.
use Rattle.std.proofs.Common.{◌≡◌, ◌⊎◌, ℕ, ◌+◌, ◌-◌, List, [], ◌∷◌, ◌++◌, length, refl, sym, ap, subst, inl, inr, arith, length-append}
use Rattle.std.specs.Prelude.{bytes_eq}
use Rattle.std.proofs.lemmas.Bool.{cases_Bool, cases_eq}
use Rattle.std.proofs.lemmas.Bool.Decides.{not_from_Decides}
use Rattle.std.proofs.lemmas.Slice.Eq.{bytes_eq-Decides}
use Rattle.spec_syntax.specs.Grammar.{Grammar}
use Rattle.spec_syntax.specs.Language.{Spell, Leaves, SpellNone}
use Rattle.spec_syntax.specs.Reader.{Step, found, stopped, fault}
use Rattle.spec_syntax.proofs.Missed.{missed_most}
use Rattle.spec_syntax.proofs.ReadSteps.{no_more, IsStep}
use Rattle.spec_syntax.proofs.Wholes.{IsVerdict, verdict_of}
use Rattle.gl_lines.specs.declared.line.Line.{Line}
use Rattle.spec_lines.specs.Line.{line_of_text}
use Rattle.spec_lines.specs.Reader.{read_line}
use Rattle.spec_lines.proofs.Lines.{line_reads, line_verdict}
use Rattle.spec_plan_texts.specs.Reading.{SpellsLine, LeavesLines, IsSkipped}

-- bytes leave a language in one column
one_column : {A : Type 0} (L : Grammar A) (bytes : List ℕ) (c d : ℕ) → Leaves L bytes c → Leaves L bytes d → c ≡ d
one_column L bytes c d h k =
    let to = h.at.1.longest k.at.0 k.at.1.rest k.at.1.is k.at.1.begins in
    let back = k.at.1.longest h.at.0 h.at.1.rest h.at.1.is h.at.1.begins in
    omega (arith, to, back, h.at.2, k.at.2)

pub one_line_spelled : (raw : List ℕ) (l m : Line) → SpellsLine raw l → SpellsLine raw m → l ≡ m
unfolding SpellsLine
one_line_spelled raw l m s t = t.alone l s.spelled

pub one_column_left : (raw : List ℕ) (c d : ℕ) → LeavesLines raw c → LeavesLines raw d → c ≡ d
unfolding LeavesLines
one_column_left raw c d h k = one_column line_of_text raw c d h k

pub spells_or_leaves : (raw : List ℕ) (l : Line) (c : ℕ) → SpellsLine raw l → LeavesLines raw c → ⊥
unfolding SpellsLine LeavesLines
spells_or_leaves raw l c s f = f.none l s.spelled

-- an empty line and a comment are no line of the language
empty_none : SpellNone line_of_text []
empty_none = (line_verdict []).0

comment_none : (comment : List ℕ) → SpellNone line_of_text (35 ∷ comment)
comment_none comment = (line_verdict (35 ∷ comment)).0

skipped_none : (raw : List ℕ) → IsSkipped raw → SpellNone line_of_text raw
skipped_none raw h = elim h as (λ _. SpellNone line_of_text raw) [
  | inl e ↦ subst (λ bs. SpellNone line_of_text bs) (sym e) empty_none
  | inr c ↦ subst (λ bs. SpellNone line_of_text bs) (sym c.1) (comment_none c.0)
]

pub skipped_spells_none : (raw : List ℕ) (l : Line) → IsSkipped raw → SpellsLine raw l → ⊥
unfolding SpellsLine
skipped_spells_none raw l h s = skipped_none raw h l s.spelled

-- bytes spell something, or they leave the language in some column
spell_or_leave : {A : Type 0} (L : Grammar A) (bs : List ℕ) (st : Step A) → IsStep L no_more bs st
    → ((a : A) × Spell L bs a) ⊎ ((column : ℕ) × Leaves L bs column)
spell_or_leave L bs (found a []) f = inl (a, verdict_of L bs (found a []) f)
spell_or_leave L bs (found a (c ∷ rest)) f =
    let v : IsVerdict L bs (fault (length rest + 1)) = verdict_of L bs (found a (c ∷ rest)) f in
    let column : length f.prefix + 1 + (length rest + 1) ≡ length bs + 1 =
    omega (arith, ap length f.are, length-append f.prefix (c ∷ rest)) in
    inr (length f.prefix + 1, record { none = v.0; at = v.1 (length f.prefix + 1) column })
spell_or_leave L bs (stopped left) f =
    let v : IsVerdict L bs (fault left) = verdict_of L bs (stopped left) f in
    let column : length bs + 1 - left + left ≡ length bs + 1 =
    omega (arith, f.near, missed_most (f.text ++ f.tail) bs) in
    inr (length bs + 1 - left, record { none = v.0; at = v.1 (length bs + 1 - left) column })

pub line_or_column : (raw : List ℕ) → ((l : Line) × SpellsLine raw l) ⊎ ((column : ℕ) × LeavesLines raw column)
unfolding SpellsLine LeavesLines
line_or_column raw = spell_or_leave line_of_text raw (read_line raw) (line_reads (length raw) raw (omega arith))

-- a line says nothing or something
pub skipped_or_not : (raw : List ℕ) → IsSkipped raw ⊎ ¬ IsSkipped raw
skipped_or_not [] = inl (inl refl)
skipped_or_not (b ∷ bs) = elim (cases_eq b 35) as (λ _. IsSkipped (b ∷ bs) ⊎ ¬ IsSkipped (b ∷ bs)) [
  | inl e ↦ inl (inr (bs, ap (λ c. c ∷ bs) e))
  | inr ne ↦ inr (λ h. elim h as (λ _. ⊥) [ inl e ↦ filled b bs e | inr c ↦ ne (first b bs c.0 c.1) ])
]
  where
    filled : (b : ℕ) (bs : List ℕ) → b ∷ bs ≡ [] → ⊥
    filled b bs e = absurd cc

    first : (b : ℕ) (bs comment : List ℕ) → b ∷ bs ≡ 35 ∷ comment → b ≡ 35
    first b bs comment e = cc

-- two texts are the same or they aren't
pub same_or_not : (u v : List ℕ) → (u ≡ v) ⊎ (¬ (u ≡ v))
same_or_not u v = elim (cases_Bool (bytes_eq u v)) as (λ _. (u ≡ v) ⊎ (¬ (u ≡ v))) [
  | inl t ↦ inl ((bytes_eq-Decides u v).0 t)
  | inr f ↦ inr (not_from_Decides (bytes_eq u v) (bytes_eq-Decides u v) f)
]
