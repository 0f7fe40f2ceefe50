-- Every block of CSV records stands for the elements of some list.
use Rattle.std.proofs.Common.{◌≡◌, ◌⊎◌, ℕ, ℤ, zero, suc, ◌+◌, ◌<◌, Bool, true, false, cond, List, [], ◌∷◌, ◌++◌, length, Option, Some, None, refl, sym, ap, subst, inl, inr, arith}
use Rattle.std.specs.Prelude.{FitsSigned}
use Rattle.std.specs.Int.{w64}
use Rattle.std.proofs.lemmas.Option.{same_Some, none-some}
use Rattle.csv.specs.Machine.{Read, step, ends_at_end, is_end, fields_after, field_after, next_record}
use Rattle.csv.specs.Reading.{AreRecords, Reached, default_config, strip_bom}
use Rattle.csv.specs.declared.parser.Config.{Config}
use Rattle.csv.specs.declared.parser.State.{State}
use Rattle.csv.specs.declared.parser.State.TheVariants.{StartRecord}
use Rattle.spec_plans.specs.Tree.{Tree, num, text, items_of}
use Rattle.spec_syntax.specs.Reader.{Verdict, read, fault, whole}
use Rattle.spec_syntax.proofs.ReadSteps.{no_more}
use Rattle.spec_syntax.proofs.Wholes.{IsVerdict, verdict_of}
use Rattle.spec_syntax.specs.Number.{is_digit, number}
use Rattle.spec_syntax.specs.ValueReader.{read_number}
use Rattle.spec_syntax.specs.Value.{value}
use Rattle.spec_syntax.proofs.Limits.{value_within}
use Rattle.spec_syntax.proofs.Numbers.{number_reads}
use Rattle.spec_syntax.proofs.Spelled.{number_spelled}
use Rattle.spec_syntax.proofs.Spellings.{number_is}
use Rattle.spec_lines.proofs.Composites.{ends, nothing_follows}
use Rattle.spec_syntax.specs.Block.{SpellsNumber, IsField, AreFields, AreRows, BlockHas}

-- what is left after a record: fewer bytes, or none of a text that is at its end
abbrev IsLess : List ℕ → Read → Type 0
IsLess xs p = (length p.2 < length xs) ⊎ ((p.1 ≡ StartRecord) × (p.2 ≡ []))

ended : (cfg : Config) (fields : List (List ℕ)) (field : List ℕ) (ends : Bool) (p : Read)
    → cond ends (Some (fields ++ (field ∷ []), StartRecord, [])) None ≡ Some p → IsLess [] p
ended cfg fields field true p e =
    let same : (fields ++ (field ∷ []), StartRecord, []) ≡ p = same_Some _ _ e in
    inr (sym (ap (λ (q : Read). q.1) same), sym (ap (λ (q : Read). q.2) same))
ended cfg fields field false p e = absurd (none-some p e)

less_more : (c : ℕ) (rest : List ℕ) (p : Read) → IsLess rest p → IsLess (c ∷ rest) p
less_more c rest p (inl l) = inl (omega arith)
less_more c rest p (inr e) = inr e

-- what is read after a byte that doesn't end the record
abbrev read_on : Config → State → List (List ℕ) → List ℕ → ℕ → List ℕ → Option Read
read_on cfg s fields field c rest =
    let now = step cfg s c in
    next_record cfg now.0 (fields_after now.1 fields field) (field_after now.1 c field) rest

record_less : (cfg : Config) (s : State) (fields : List (List ℕ)) (field xs : List ℕ) (p : Read)
    → next_record cfg s fields field xs ≡ Some p → IsLess xs p
unfolding next_record
record_less cfg s fields field [] p e = ended cfg fields field (ends_at_end s) p e
record_less cfg s fields field (c ∷ rest) p e =
    by (is_end (step cfg s c).1) e
    (record_less cfg (step cfg s c).0 (fields_after (step cfg s c).1 fields field)
    (field_after (step cfg s c).1 c field) rest p)
  where
    by : (t : Bool)
        → cond t (Some (fields_after (step cfg s c).1 fields field, (step cfg s c).0, rest))
        (read_on cfg s fields field c rest) ≡ Some p
        → (read_on cfg s fields field c rest ≡ Some p → IsLess rest p) → IsLess (c ∷ rest) p
    by true e more = inl (let same = ap (λ (q : Read). length q.2) (same_Some _ _ e) in omega (arith, same))
    by false e more = less_more c rest p (more e)

-- some records are all those of a text
abbrev HasRecords : State → List ℕ → Type 0
HasRecords s xs = (records : List (List (List ℕ))) × AreRecords default_config s xs records

none_left : (s : State) (xs : List ℕ) → next_record default_config s [] [] xs ≡ None → HasRecords s xs
unfolding Reached
none_left s xs e = ([], (s, xs, (refl, refl), e))

one_more : (s : State) (xs : List ℕ) (p : Read) → next_record default_config s [] [] xs ≡ Some p → HasRecords p.1 p.2
    → HasRecords s xs
unfolding Reached
one_more s xs p e h = (p.0 ∷ h.0, (h.1.0, h.1.1, (p, e, refl, h.1.2), h.1.3))

at_end : HasRecords StartRecord []
unfolding next_record
at_end = none_left StartRecord [] refl

has_records : (n : ℕ) (s : State) (xs : List ℕ) → length xs < n → HasRecords s xs
has_records zero s xs l = absurd (omega arith)
has_records (suc n) s xs l = by (next_record default_config s [] [] xs) refl (λ t ys. has_records n t ys)
  where
    by : (o : Option Read) → next_record default_config s [] [] xs ≡ o
        → ((t : State) (ys : List ℕ) → length ys < n → HasRecords t ys) → HasRecords s xs
    by None e more = none_left s xs e
    by (Some p) e more =
        one_more s xs p e (elim (record_less default_config s [] [] xs p e) as (λ _. HasRecords p.1 p.2) [
          | inl less ↦ more p.1 p.2 (omega arith)
          | inr done ↦ subst (λ (t : State). HasRecords t p.2) (sym done.0)
              (subst (λ ys. HasRecords StartRecord ys) (sym done.1) at_end)
        ])

-- a field spells a number or it doesn't
number_verdict : (bs : List ℕ) → IsVerdict number bs (whole (read_number bs))
number_verdict bs =
    verdict_of number bs (read_number bs)
    (number_reads (length bs) no_more nothing_follows (ends is_digit) bs (omega arith))

number_fits : (n : ℤ) (bs : List ℕ) → number n bs → FitsSigned w64 n
unfolding value
number_fits n bs s = (value_within 0 (num n) bs (inr (n, s, refl))).0

abbrev NumberOrNone : List ℕ → Type 0
NumberOrNone bs = ((n : ℤ) × SpellsNumber bs n) ⊎ ((n : ℤ) → SpellsNumber bs n → ⊥)

number_or_none_by : (bs : List ℕ) (v : Verdict ℤ) → IsVerdict number bs v → NumberOrNone bs
number_or_none_by bs (read n) v = inl (n, (number_fits n bs v.spelled, number_is n bs v.spelled))
number_or_none_by bs (fault left) v = inr (λ n s. v.0 n (subst (number n) (sym s.1) (number_spelled n s.0)))

number_or_none : (bs : List ℕ) → NumberOrNone bs
number_or_none bs = number_or_none_by bs (whole (read_number bs)) (number_verdict bs)

some_field : (field : List ℕ) → (v : Tree) × IsField field v
some_field field = elim (number_or_none field) as (λ _. (v : Tree) × IsField field v) [
  | inl s ↦ (num s.0, s.1)
  | inr none ↦ (text field, (refl, none))
]

some_fields : (fields : List (List ℕ)) → (vs : List Tree) × AreFields fields vs
some_fields [] = ([], tt)
some_fields (f ∷ fs) = let v = some_field f in let vs = some_fields fs in (v.0 ∷ vs.0, (v.1, vs.1))

some_rows : (records : List (List (List ℕ))) → (rows : List Tree) × AreRows records rows
some_rows [] = ([], tt)
some_rows (r ∷ rs) =
    let values = some_fields r in
    let rows = some_rows rs in
    (items_of values.0 ∷ rows.0, ((values.0, values.1, refl), rows.1))

-- every block has rows, whatever its bytes
pub some_block : (block : List ℕ) → (rows : List Tree) × BlockHas block rows
some_block block =
    let records = has_records (length (strip_bom block) + 1) StartRecord (strip_bom block) (omega arith) in
    let rows = some_rows records.0 in
    (rows.0, (records.0, records.1, rows.1))
