-- Steps towards the lists that depend on proxies.
use Rattle.std.proofs.Common.{◌≡◌, ℕ, zero, suc, ◌+◌, ◌==◌, ◌||◌, Bool, true, false, List, [], ◌∷◌, map, length, refl, sym, ap, ◌∙◌, arith, true≢false}
use Rattle.std.specs.Prelude.{option_map, unwrap_or, slice_get}
use Rattle.std.specs.List.{list_any, AllZip}
use Rattle.std.proofs.lemmas.Bool.{eqb-true, eq-eqb}
use Rattle.spec_order.specs.DependencyOrder.{has}
use Rattle.gl_lines.specs.declared.line.NumberedLine.{NumberedLine}
use Rattle.spec_plans.specs.Lines.{Head}
use Rattle.spec_plans.specs.Names.{heads, is_pumped, is_proxy, needed_by, leads_to_proxy, is_over_proxy}
use Rattle.gl_plan_faults.specs.declared.listed.Listed.{Listed}
use Rattle.gl_plan_faults.specs.Marked.{is_marked}
use Rattle.gl_plan_faults.specs.Marks.{is_reached, AreListed, StandsFor}
use Rattle.spec_basics.proofs.Booleans.{or_true}

same_bool : (p q : Bool) → (p ≡ true → q ≡ true) → (q ≡ true → p ≡ true) → p ≡ q
same_bool true q f g = sym (f refl)
same_bool false true f g = g refl
same_bool false false f g = refl

module _ (P : ℕ → Bool) where
  hit : (ys : List ℕ) (b : ℕ) → has ys b ≡ true → P b ≡ true → list_any P ys ≡ true
  hit [] b e p = absurd (true≢false (sym e))
  hit (y ∷ ys) b e p = by (y == b) refl (λ h. hit ys b h p)
    where
      by : (t : Bool) → (y == b) ≡ t → (has ys b ≡ true → list_any P ys ≡ true) → (P y || list_any P ys) ≡ true
      by true s on = ap (λ t. t || list_any P ys) (ap P (eqb-true y b s) ∙ p)
      by false s on = ap (λ t. P y || t) (on (ap (λ t. t || has ys b) (sym s) ∙ e)) ∙ or_true (P y)

  lifts : (xs ys : List ℕ) → ((b : ℕ) → has xs b ≡ true → has ys b ≡ true) → list_any P xs ≡ true → list_any P ys ≡ true
  lifts [] ys f e = absurd (true≢false (sym e))
  lifts (x ∷ xs) ys f e = by (P x) refl (λ h. lifts xs ys (λ b h. f b (ap (λ t. (x == b) || t) h ∙ or_true (x == b))) h)
    where
      by : (t : Bool) → P x ≡ t → (list_any P xs ≡ true → list_any P ys ≡ true) → list_any P ys ≡ true
      by true p on = hit ys x (f x (ap (λ t. t || has xs x) (eq-eqb x x refl))) p
      by false p on = on (ap (λ t. t || list_any P xs) (sym p) ∙ e)

  -- lists of the same numbers
  pub any_same : (xs ys : List ℕ) → ((b : ℕ) → has xs b ≡ has ys b) → list_any P xs ≡ list_any P ys
  any_same xs ys same =
      same_bool (list_any P xs) (list_any P ys) (lifts xs ys (λ b h. sym (same b) ∙ h)) (lifts ys xs (λ b h. same b ∙ h))

any_alike : (P Q : ℕ → Bool) → ((b : ℕ) → P b ≡ Q b) → (xs : List ℕ) → list_any P xs ≡ list_any Q xs
any_alike P Q alike [] = refl
any_alike P Q alike (x ∷ xs) = ap (λ t. t || list_any P xs) (alike x) ∙ ap (λ t. Q x || t) (any_alike P Q alike xs)

any_none : (xs : List ℕ) → list_any (λ _. false) xs ≡ false
any_none [] = refl
any_none (x ∷ xs) = any_none xs

module _ (lines : List NumberedLine) (marks : List Bool) (leads : ℕ → Bool) (marked : (b : ℕ) → is_marked marks b ≡ leads b) where
  -- a list is reached where it is a proxy or needs one that leads to one
  pub reached_at : (hs : List Head) (ls : List Listed) → AllZip (StandsFor lines) hs ls → (a : ℕ)
      → is_marked (map (is_reached marks) ls) a ≡ (is_proxy hs a || list_any leads (unwrap_or (option_map (needed_by lines) (slice_get hs a)) []))
  reached_at [] [] z a = refl
  reached_at [] (s ∷ ss) z a = absurd z
  reached_at (h ∷ hs) [] z a = absurd z
  reached_at (h ∷ hs) (s ∷ ss) z zero =
      ap (λ c. is_pumped c || list_any (is_marked marks) s.needs) z.0.class_is
      ∙ ap (λ t. is_pumped h.class || t)
      (any_alike (is_marked marks) leads marked s.needs ∙ any_same leads s.needs (needed_by lines h) z.0.needs_are)
  reached_at (h ∷ hs) (s ∷ ss) z (suc a) = reached_at hs ss z.1 a

same_length : {X Y : Type 0} (R : X → Y → Type 0) (xs : List X) (ys : List Y) → AllZip R xs ys → length ys ≡ length xs
same_length R [] [] z = refl
same_length R [] (y ∷ ys) z = absurd z
same_length R (x ∷ xs) [] z = absurd z
same_length R (x ∷ xs) (y ∷ ys) z = ap suc (same_length R xs ys z.1)

pub reached_first : (lines : List NumberedLine) (lists : List Listed) → AreListed lines lists → (a : ℕ)
    → is_marked (map (is_reached []) lists) a ≡ leads_to_proxy lines 0 a
reached_first lines lists z a =
    reached_at lines [] (λ _. false) (λ b. refl) (heads lines) lists z a
    ∙ ap (λ t. is_proxy (heads lines) a || t) (any_none (unwrap_or (option_map (needed_by lines) (slice_get (heads lines) a)) []))
    ∙ or_false (is_proxy (heads lines) a)
  where
    or_false : (p : Bool) → (p || false) ≡ p
    or_false true = refl
    or_false false = refl

pub reached_more : (lines : List NumberedLine) (lists : List Listed) (marks : List Bool) (i : ℕ) → AreListed lines lists
    → ((a : ℕ) → is_marked marks a ≡ leads_to_proxy lines i a)
    → (a : ℕ) → is_marked (map (is_reached marks) lists) a ≡ leads_to_proxy lines (i + 1) a
reached_more lines lists marks i z marked a =
    let n : i + 1 ≡ suc i = omega arith in
    reached_at lines marks (leads_to_proxy lines i) marked (heads lines) lists z a
    ∙ ap (λ k. leads_to_proxy lines k a) (sym n)

pub reached_all : (lines : List NumberedLine) (lists : List Listed) (marks : List Bool) → AreListed lines lists
    → ((a : ℕ) → is_marked marks a ≡ leads_to_proxy lines (length lists) a)
    → (a : ℕ) → is_marked marks a ≡ is_over_proxy lines a
reached_all lines lists marks z marked a =
    marked a ∙ ap (λ k. leads_to_proxy lines k a) (same_length (StandsFor lines) (heads lines) lists z)
