-- A block stands for the elements of one list, and of no other.
use Rattle.std.proofs.Common.{◌≡◌, ◌∙◌, ◌<◌, ◌^◌, ℕ, ℤ, List, [], ◌∷◌, None, refl, sym, ap, subst, arith}
use Rattle.std.specs.Prelude.{FitsSigned}
use Rattle.std.specs.Int.Signed.{mag}
use Rattle.std.specs.Int.{w64}
use Rattle.std.proofs.lemmas.Fmt.{signed_decimal_injective}
use Rattle.std.proofs.lemmas.Option.{same_Some, none-some}
use Rattle.csv.specs.Machine.{next_record, Read}
use Rattle.csv.specs.Reading.{default_config, strip_bom, Reached}
use Rattle.csv.specs.declared.parser.State.{State}
use Rattle.csv.specs.declared.parser.State.TheVariants.{StartRecord}
use Rattle.spec_value.specs.Tree.{Tree, num, text, items, items_of}
use Rattle.spec_syntax.specs.Block.{SpellsNumber, IsField, AreFields, AreRows, BlockHas}

-- records that are read to the end are the only ones
one_records : (rs qs : List (List (List ℕ))) (s t u : State) (xs ys zs : List ℕ) → Reached default_config s xs rs t ys → next_record default_config t [] [] ys ≡ None
    → Reached default_config s xs qs u zs → next_record default_config u [] [] zs ≡ None → rs ≡ qs
unfolding Reached
one_records [] [] s t u xs ys zs h e k f = refl
one_records [] (q ∷ qs) s t u xs ys zs h e k f =
    absurd (none-some k.0 (sym (subst (λ (a : State). next_record default_config a [] [] xs ≡ None) (sym h.0) (subst (λ bs. next_record default_config t [] [] bs ≡ None) (sym h.1) e)) ∙ k.1))
one_records (r ∷ rs) [] s t u xs ys zs h e k f =
    absurd (none-some h.0 (sym (subst (λ (a : State). next_record default_config a [] [] xs ≡ None) (sym k.0) (subst (λ bs. next_record default_config u [] [] bs ≡ None) (sym k.1) f)) ∙ h.1))
one_records (r ∷ rs) (q ∷ qs) s t u xs ys zs h e k f =
    let same : k.0 ≡ h.0 = same_Some k.0 h.0 (sym k.1 ∙ h.1) in
    let others = subst (λ (p : Read). Reached default_config p.1 p.2 qs u zs) same k.3 in
    ap (λ x. x ∷ rs) (h.2 ∙ ap (λ (p : Read). p.0) (sym same) ∙ sym k.2) ∙ ap (λ ls. q ∷ ls) (one_records rs qs h.0.1 t u h.0.2 ys zs h.3 e others f)

-- bytes spell one number at most
one_number : (bytes : List ℕ) (n m : ℤ) → SpellsNumber bytes n → SpellsNumber bytes m → n ≡ m
one_number bytes n m h k = signed_decimal_injective n m (small n h.0) (small m k.0) (sym h.1 ∙ k.1)
  where
    small : (z : ℤ) → FitsSigned w64 z → mag z < 2 ^ 63
    small z h = omega (arith, h)

one_field : (field : List ℕ) (v w : Tree) → IsField field v → IsField field w → v ≡ w
one_field field (num n) (num m) h k = ap num (one_number field n m h k)
one_field field (num n) (text bytes) h k = absurd (k.1 n h)
one_field field (text bytes) (num n) h k = absurd (h.1 n k)
one_field field (text bytes) (text others) h k = ap text (h.0 ∙ sym k.0)
one_field field (num n) (items values) h k = absurd k
one_field field (text bytes) (items values) h k = absurd k
one_field field (items values) w h k = absurd h

one_fields : (fields : List (List ℕ)) (vs ws : List Tree) → AreFields fields vs → AreFields fields ws → vs ≡ ws
one_fields [] [] [] h k = refl
one_fields [] [] (w ∷ ws) h k = absurd k
one_fields [] (v ∷ vs) ws h k = absurd h
one_fields (f ∷ fs) [] ws h k = absurd h
one_fields (f ∷ fs) (v ∷ vs) [] h k = absurd k
one_fields (f ∷ fs) (v ∷ vs) (w ∷ ws) h k = ap (λ x. x ∷ vs) (one_field f v w h.0 k.0) ∙ ap (λ xs. w ∷ xs) (one_fields fs vs ws h.1 k.1)

one_rows : (records : List (List (List ℕ))) (rows others : List Tree) → AreRows records rows → AreRows records others → rows ≡ others
one_rows [] [] [] h k = refl
one_rows [] [] (w ∷ ws) h k = absurd k
one_rows [] (v ∷ vs) ws h k = absurd h
one_rows (r ∷ rs) [] ws h k = absurd h
one_rows (r ∷ rs) (v ∷ vs) [] h k = absurd k
one_rows (r ∷ rs) (v ∷ vs) (w ∷ ws) h k =
    let row : v ≡ w = h.0.2 ∙ ap items_of (one_fields r h.0.0 k.0.0 h.0.1 k.0.1) ∙ sym k.0.2 in
    ap (λ x. x ∷ vs) row ∙ ap (λ xs. w ∷ xs) (one_rows rs vs ws h.1 k.1)

pub one_block : (block : List ℕ) (rows others : List Tree) → BlockHas block rows → BlockHas block others → rows ≡ others
one_block block rows others h k =
    let same : h.0 ≡ k.0 = one_records h.0 k.0 StartRecord h.1.0 k.1.0 (strip_bom block) h.1.1 k.1.1 h.1.2 h.1.3 k.1.2 k.1.3 in
    one_rows k.0 rows others (subst (λ (records : List (List (List ℕ))). AreRows records rows) same h.2) k.2
