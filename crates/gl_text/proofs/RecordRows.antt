-- The elements of a block, field by field and record by record.
use Rattle.std.proofs.Common.{◌≡◌, ◌∙◌, ℕ, ℤ, suc, zero, List, [], ◌∷◌, ◌++◌, take, length, Some, None, refl, sym, ap, subst}
use Rattle.std.specs.Prelude.{IsUtf8}
use Rattle.std.proofs.Math.Seq.{take-length}
use Rattle.csv.specs.Records.{field_at, AllText}
use Rattle.csv.proofs.RecordFacts.{text-of}
use Rattle.gl_value.specs.Tree.{items_of}
use Rattle.gl_value.specs.Tree.{Tree, num, text}
use Rattle.spec_plan_texts.specs.Block.{IsField, AreFields, IsRow, AreRows}
use Rattle.gl_syntax.specs.Numbers.{number_in}
use Rattle.gl_syntax.proofs.Numbers.{number_takes, number_again}

-- a field that spells a number
pub number_field : (field : List ℕ) (n : ℤ) → number_in field ≡ Some n → IsField field (num n)
number_field field n e = number_takes field n e

-- a field that spells none
pub text_field : (field bytes : List ℕ) → number_in field ≡ None → bytes ≡ field → IsField field (text bytes)
text_field field bytes none same = (same, λ n spells. some_is_not_none n (sym (number_again n spells.0) ∙ ap number_in (sym spells.1) ∙ none))
  where
    some_is_not_none : (n : ℤ) → Some n ≡ None → ⊥
    some_is_not_none n e = cc

-- one field more, after the first i
pub fields_more : (fields : List (List ℕ)) (i : ℕ) (values : List Tree) (field : List ℕ) (v : Tree) → AreFields (take i fields) values → field_at fields i ≡ Some field → IsField field v
    → AreFields (take (suc i) fields) (values ++ v ∷ [])
unfolding field_at
fields_more [] i values field v h e is = none e
  where
    none : None ≡ Some field → AreFields [] (values ++ v ∷ [])
    none e = absurd cc
fields_more (f ∷ fs) zero [] field v h e is = (subst (λ g. IsField g v) (sym (some_of e)) is, tt)
  where
    some_of : Some f ≡ Some field → f ≡ field
    some_of e = cc
fields_more (f ∷ fs) zero (w ∷ ws) field v h e is = absurd h
fields_more (f ∷ fs) (suc i) [] field v h e is = absurd h
fields_more (f ∷ fs) (suc i) (w ∷ ws) field v h e is = (h.0, fields_more fs i ws field v h.1 e is)

-- where there is no further field
pub no_field : (fields : List (List ℕ)) (i : ℕ) (values : List Tree) → field_at fields i ≡ None → AreFields (take i fields) values → AreFields (take (suc i) fields) values
unfolding field_at
no_field [] zero values e h = h
no_field [] (suc i) values e h = h
no_field (f ∷ fs) zero values e h = absurd (some_is_none e)
  where
    some_is_none : Some f ≡ None → ⊥
    some_is_none e = cc
no_field (f ∷ fs) (suc i) [] e h = absurd h
no_field (f ∷ fs) (suc i) (w ∷ ws) e h = (h.0, no_field fs i ws e h.1)

-- the fields of a text are texts
pub field_text : (fields : List (List ℕ)) (i : ℕ) (field : List ℕ) → AllText fields → field_at fields i ≡ Some field → IsUtf8 field
field_text = text-of

-- all fields of a record
pub all_fields : (fields : List (List ℕ)) (values : List Tree) → AreFields (take (length fields) fields) values → IsRow fields (items_of values)
all_fields fields values h = (values, subst (λ fs. AreFields fs values) (take-length fields) h, refl)

-- one record more
pub rows_more : (records : List (List (List ℕ))) (rows : List Tree) (entry : List (List ℕ)) (row : Tree) → AreRows records rows → IsRow entry row → AreRows (records ++ entry ∷ []) (rows ++ row ∷ [])
rows_more [] [] entry row h is = (is, tt)
rows_more [] (w ∷ ws) entry row h is = absurd h
rows_more (r ∷ rs) [] entry row h is = absurd h
rows_more (r ∷ rs) (w ∷ ws) entry row h is = (h.0, rows_more rs ws entry row h.1 is)
