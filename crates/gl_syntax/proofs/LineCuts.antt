-- What is cut is put together again, and what has no such byte inside is cut there.
use Rattle.std.proofs.Common.{◌≡◌, ℕ, suc, ◌+◌, ◌-◌, ◌<◌, Bool, true, false, not, ◌&&◌, cond, eqb, ltb, List, [], ◌∷◌, ◌++◌, length, take, drop, Option, Some, None, refl, sym, ap, subst, ◌∙◌, inl, inr, arith, length-append}
use Rattle.std.specs.Prelude.{option_map, position}
use Rattle.std.specs.List.{prefix_len}
use Rattle.std.proofs.lemmas.Bool.{eqb-true, eq-eqb, lt-ltb, and_parts, and_from, not-true}
use Rattle.std.proofs.lemmas.Bool.Decides.{nat_tests}
use Rattle.std.proofs.lemmas.Grind.{common_steps}
use Rattle.std.proofs.lemmas.Option.{same_Some, none-some}
use Rattle.spec_syntax.specs.Cuts.{cut, with_prefix, lines_in, IsFirstLine}
use Rattle.spec_basics.proofs.Numbers.{ltb-suc}

-- parts with a byte more at the front
abbrev pub longer : ℕ → Option (List ℕ × List ℕ) → Option (List ℕ × List ℕ)
longer b o = option_map (λ parts. (b ∷ parts.0, parts.1)) o

abbrev parts_at : List ℕ → ℕ → List ℕ × List ℕ
parts_at bs offset = (take offset bs, drop (offset + 1) bs)

later : (t : Bool) (k : ℕ) (b : ℕ) (bs : List ℕ) → longer b (option_map (parts_at bs) (cond t (Some k) None)) ≡ option_map (parts_at (b ∷ bs)) (cond t (Some (suc k)) None)
later true k b bs = let d : suc k + 1 ≡ suc (k + 1) = omega arith in rw d refl
later false k b bs = refl

step : (t : Bool) (k n : ℕ) (b : ℕ) (bs : List ℕ) → cond t (Some ([], bs)) (longer b (option_map (parts_at bs) (cond (ltb k n) (Some k) None))) ≡ option_map (parts_at (b ∷ bs)) (cond (ltb (cond (not t) (1 + k) 0) (suc n)) (Some (cond (not t) (1 + k) 0)) None)
step true k n b bs = let e : ltb 0 (suc n) ≡ true = lt-ltb 0 (suc n) (omega arith) in rw e refl
step false k n b bs =
    let e : 1 + k ≡ suc k = omega arith in
    rw (e, ltb-suc k n) (later (ltb k n) k b bs)

pub cut_at_position : (c : ℕ) (bs : List ℕ) → cut c bs ≡ option_map (λ offset. (take offset bs, drop (offset + 1) bs)) (position (λ b. eqb b c) bs)
cut_at_position c [] = refl
cut_at_position c (b ∷ bs) = ap (λ o. cond (eqb b c) (Some ([], bs)) (longer b o)) (cut_at_position c bs) ∙ step (eqb b c) (prefix_len (λ x. not (eqb x c)) bs) (length bs) b bs

-- what the code computes: the bytes ahead of the first place, and those after it
pub cut_none : (c : ℕ) (bs : List ℕ) → None ≡ position (λ b. eqb b c) bs → None ≡ cut c bs
cut_none c bs e = sym (cut_at_position c bs ∙ ap (option_map (parts_at bs)) (sym e))

pub cut_some : (c : ℕ) (bs : List ℕ) (k : ℕ) → Some k ≡ position (λ b. eqb b c) bs → Some (take k bs, take (length bs - (k + 1)) (drop (k + 1) bs)) ≡ cut c bs
cut_some c bs k e =
    let back : take (length bs - (k + 1)) (drop (k + 1) bs) ≡ drop (k + 1) bs = grind (arith, common_steps) in
    ap (λ xs. Some (take k bs, xs)) back ∙ ap (option_map (parts_at bs)) e ∙ sym (cut_at_position c bs)

takes_at : (c b : ℕ) (bs : List ℕ) (t : Bool) (o : Option (List ℕ × List ℕ)) → eqb b c ≡ t → ((q : List ℕ × List ℕ) → o ≡ Some q → bs ≡ q.0 ++ c ∷ q.1) → (parts : List ℕ × List ℕ) → cond t (Some ([], bs)) (longer b o) ≡ Some parts → b ∷ bs ≡ parts.0 ++ c ∷ parts.1
takes_at c b bs true o h ih parts e = subst (λ (y : List ℕ × List ℕ). b ∷ bs ≡ y.0 ++ c ∷ y.1) (same_Some _ _ e) (ap (λ x. x ∷ bs) (eqb-true b c h))
takes_at c b bs false None h ih parts e = absurd (none-some _ e)
takes_at c b bs false (Some q) h ih parts e = subst (λ (y : List ℕ × List ℕ). b ∷ bs ≡ y.0 ++ c ∷ y.1) (same_Some _ _ e) (ap (λ xs. b ∷ xs) (ih q refl))

-- what was cut is the two parts, with the byte between them
pub cut_takes : (c : ℕ) (bs : List ℕ) (parts : List ℕ × List ℕ) → cut c bs ≡ Some parts → bs ≡ parts.0 ++ c ∷ parts.1
cut_takes c [] parts e = absurd (none-some _ e)
cut_takes c (b ∷ bs) parts e = takes_at c b bs (eqb b c) (cut c bs) refl (cut_takes c bs) parts e

-- none of the bytes is this one
abbrev pub lacks : ℕ → List ℕ → Bool
lacks c [] = true
lacks c (b ∷ bs) = not (eqb b c) && lacks c bs

pub lacks-append : (c : ℕ) (xs ys : List ℕ) → lacks c xs ≡ true → lacks c ys ≡ true → lacks c (xs ++ ys) ≡ true
lacks-append c [] ys p q = q
lacks-append c (x ∷ xs) ys p q =
    let both = and_parts (not (eqb x c)) (lacks c xs) p in
    and_from (not (eqb x c)) (lacks c (xs ++ ys)) both.0 (lacks-append c xs ys both.1 q)

-- what lacks the byte is cut off where the byte stands
pub cut_again : (c : ℕ) (u v : List ℕ) → lacks c u ≡ true → cut c (u ++ c ∷ v) ≡ Some (u, v)
cut_again c [] v h = let e : eqb c c ≡ true = eq-eqb c c refl in rw e refl
cut_again c (b ∷ u) v h =
    let both = and_parts (not (eqb b c)) (lacks c u) h in
    let e : eqb b c ≡ false = not-true (eqb b c) both.0 in
    rw (e, cut_again c u v both.1) refl

pub cut_shorter : (c : ℕ) (bs u v : List ℕ) → Some (u, v) ≡ cut c bs → length v < length bs
cut_shorter c bs u v e = let whole = ap length (cut_takes c bs (u, v) (sym e)) in omega (arith, whole, length-append u (c ∷ v))

lines_at_byte : (b : ℕ) (bs : List ℕ) (t : Bool) (o : Option (List ℕ × List ℕ)) → ((q : List ℕ × List ℕ) → o ≡ Some q → lines_in bs ≡ q.0 ∷ lines_in q.1) → (parts : List ℕ × List ℕ) → cond t (Some ([], bs)) (longer b o) ≡ Some parts → cond t ([] ∷ lines_in bs) (with_prefix b (lines_in bs)) ≡ parts.0 ∷ lines_in parts.1
lines_at_byte b bs true o ih parts e = subst (λ (y : List ℕ × List ℕ). [] ∷ lines_in bs ≡ y.0 ∷ lines_in y.1) (same_Some _ _ e) refl
lines_at_byte b bs false None ih parts e = absurd (none-some _ e)
lines_at_byte b bs false (Some q) ih parts e = subst (λ (y : List ℕ × List ℕ). with_prefix b (lines_in bs) ≡ y.0 ∷ lines_in y.1) (same_Some _ _ e) (ap (with_prefix b) (ih q refl))

lines_of_cut : (bs : List ℕ) (parts : List ℕ × List ℕ) → cut 10 bs ≡ Some parts → lines_in bs ≡ parts.0 ∷ lines_in parts.1
lines_of_cut [] parts e = absurd (none-some _ e)
lines_of_cut (b ∷ bs) parts e = lines_at_byte b bs (eqb b 10) (cut 10 bs) (lines_of_cut bs) parts e

-- the first line ends at the first line feed
pub lines_at : (bs u v : List ℕ) → Some (u, v) ≡ cut 10 bs → lines_in bs ≡ u ∷ lines_in v
lines_at bs u v e = lines_of_cut bs (u, v) (sym e)

one_line_at : (b : ℕ) (bs : List ℕ) (t : Bool) (o : Option (List ℕ × List ℕ)) → (o ≡ None → with_prefix b (lines_in bs) ≡ (b ∷ bs) ∷ []) → cond t (Some ([], bs)) (longer b o) ≡ None → cond t ([] ∷ lines_in bs) (with_prefix b (lines_in bs)) ≡ (b ∷ bs) ∷ []
one_line_at b bs true o ih e = absurd (none-some _ (sym e))
one_line_at b bs false None ih e = ih refl
one_line_at b bs false (Some q) ih e = absurd (none-some _ (sym e))

-- bytes without a line feed are one line, where there are any
pub lines_of_one : (b : ℕ) (bs : List ℕ) → cut 10 (b ∷ bs) ≡ None → lines_in (b ∷ bs) ≡ (b ∷ bs) ∷ []
lines_of_one b [] e = one_line_at b [] (eqb b 10) None (λ _. refl) e
lines_of_one b (d ∷ bs) e = one_line_at b (d ∷ bs) (eqb b 10) (cut 10 (d ∷ bs)) (λ none. ap (with_prefix b) (lines_of_one d bs none)) e

pub lines_without : (bs : List ℕ) → (length bs ≡ 0 → ⊥) → None ≡ cut 10 bs → lines_in bs ≡ bs ∷ []
lines_without [] some e = absurd (some refl)
lines_without (b ∷ bs) some e = lines_of_one b bs (sym e)

pub first_cut : (bs u v : List ℕ) → Some (u, v) ≡ cut 10 bs → IsFirstLine bs u v
first_cut bs u v e = inl (cut_takes 10 bs (u, v) (sym e))

pub first_last : (bs : List ℕ) → IsFirstLine bs bs []
first_last bs = inr (refl, refl)
