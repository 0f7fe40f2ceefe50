-- How classes meet, step by step from the left.
use Rattle.std.proofs.Common.{◌≡◌, ◌∙◌, ℕ, zero, suc, ◌<◌, ◌≤◌, ◌||◌, Bool, true, false, List, [], ◌∷◌, length, drop, refl, ap, sym, subst, arith, inl, inr}
use Rattle.std.specs.Prelude.{◌↔◌, Some, slice_get}
use Rattle.std.specs.List.{list_any}
use Rattle.std.proofs.lemmas.Bool.{cases_lt, cases_order, cases_Bool}
use Rattle.spec_views.specs.Classes.{Class}
use Rattle.spec_classes.specs.Meetings.{goes, comes, meets, meetings_by}
use Rattle.spec_classes.proofs.Kept.{any_here}

pub drop_here : {X : Type 0} (xs : List X) (k : ℕ) (x : X) → slice_get xs k ≡ Some x → drop k xs ≡ x ∷ drop (suc k) xs
drop_here [] k x at = absurd cc
drop_here (y ∷ ys) zero x at = let same : y ≡ x = cc in ap (λ z. z ∷ ys) same
drop_here (y ∷ ys) (suc k) x at = drop_here ys k x at

drop_past : {X : Type 0} (xs : List X) (k : ℕ) → length xs ≤ k → drop k xs ≡ []
drop_past [] zero past = refl
drop_past [] (suc k) past = refl
drop_past (x ∷ xs) zero past = absurd (omega (arith, past))
drop_past (x ∷ xs) (suc k) past = drop_past xs k (omega (arith, past))

-- an item of which a test holds, from an index on
record HasOne {X : Type 0} (test : X → Bool) (xs : List X) (from : ℕ) : Type 0 where
  index : ℕ
  item : X
  at : slice_get xs index ≡ Some item
  low : from ≤ index
  holds : test item ≡ true

find_one : {X : Type 0} (test : X → Bool) (xs : List X) → list_any test xs ≡ true → HasOne test xs 0
find_one test [] any = absurd cc
find_one test (x ∷ xs) any = by (test x) refl (find_one test xs)
  where
    by : (t : Bool) → test x ≡ t → (list_any test xs ≡ true → HasOne test xs 0) → HasOne test (x ∷ xs) 0
    by true is later = record { index = 0; item = x; at = refl; low = omega arith; holds = is }
    by false is later =
        let more = later (sym (ap (λ u. u || list_any test xs) is) ∙ any) in
        record { index = suc more.index; item = more.item; at = more.at; low = omega arith; holds = more.holds }

-- an item from an index on is one of what is left there
any_left : {X : Type 0} (test : X → Bool) (xs : List X) (k from : ℕ) (x : X) → slice_get xs k ≡ Some x → from ≤ k → test x ≡ true → list_any test (drop from xs) ≡ true
any_left test xs k zero x at low holds = any_here test xs k x at holds
any_left test [] k (suc from) x at low holds = absurd cc
any_left test (y ∷ ys) zero (suc from) x at low holds = absurd (omega (arith, low))
any_left test (y ∷ ys) (suc k) (suc from) x at low holds = any_left test ys k from x at (omega (arith, low)) holds

none_left : {X : Type 0} (test : X → Bool) (xs : List X) (from : ℕ) → list_any test xs ≡ false → list_any test (drop from xs) ≡ false
none_left test xs zero none = none
none_left test [] (suc from) none = none
none_left test (x ∷ xs) (suc from) none = none_left test xs from (second (test x) (list_any test xs) none)
  where
    second : (t u : Bool) → (t || u) ≡ false → u ≡ false
    second true u e = absurd cc
    second false u e = e

module _ (key : Class → Class → Bool) (cs es : List Class) where
  -- classes of one key were passed together, and their order is one on both sides
  pub record ArePassed (x y : ℕ) : Type 0 where
    pub together : (p q : ℕ) (c e : Class) → slice_get cs p ≡ Some c → slice_get es q ≡ Some e → key c e ≡ true → (p < x) ↔ (q < y)
    pub one_order : (p q r s : ℕ) (c e b f : Class) → slice_get cs p ≡ Some c → slice_get es q ≡ Some e → slice_get cs r ≡ Some b → slice_get es s ≡ Some f
        → key c e ≡ true → key b f ≡ true → (p < r) ↔ (q < s)

  pub goes_next : (x y : ℕ) (c : Class) → slice_get cs x ≡ Some c → list_any (key c) es ≡ false
      → meetings_by key (drop x cs) (drop y es) ≡ goes c ∷ meetings_by key (drop (suc x) cs) (drop y es)
  goes_next x y c at none =
      ap (λ us. meetings_by key us (drop y es)) (drop_here cs x c at) ∙ alone (none_left (key c) es y none)
    where
      alone : list_any (key c) (drop y es) ≡ false → meetings_by key (c ∷ drop (suc x) cs) (drop y es) ≡ goes c ∷ meetings_by key (drop (suc x) cs) (drop y es)
      alone e = rw e refl

  -- a new class comes where no old one is left
  pub comes_last : (x y : ℕ) (e : Class) → length cs ≤ x → slice_get es y ≡ Some e
      → meetings_by key (drop x cs) (drop y es) ≡ comes e ∷ meetings_by key (drop x cs) (drop (suc y) es)
  comes_last x y e past at =
      let none = drop_past cs x past in
      ap (λ us. meetings_by key us (drop y es)) none ∙ (ap (meetings_by key []) (drop_here es y e at) ∙ sym (ap (λ us. comes e ∷ meetings_by key us (drop (suc y) es)) none))

  -- or before the one that the next old class meets
  pub comes_next : (x y : ℕ) (c e : Class) → slice_get cs x ≡ Some c → slice_get es y ≡ Some e → ArePassed x y → list_any (key c) es ≡ true
      → list_any (λ b. key b e) cs ≡ false
      → meetings_by key (drop x cs) (drop y es) ≡ comes e ∷ meetings_by key (drop x cs) (drop (suc y) es)
  comes_next x y c e at at_too passed any none =
      let f = find_one (key c) es any in
      let here = drop_here cs x c at in
      let other : key c e ≡ false = elim (cases_Bool (key c e)) [
        | inl same ↦ absurd (true_false (sym (any_here (λ b. key b e) cs x c at same) ∙ none))
        | inr fails ↦ fails
      ] in
      let beyond : suc y ≤ f.index = elim (cases_order f.index y) [
        | inl same ↦
            let one : f.item ≡ e = some_same f.item e (sym f.at ∙ (ap (slice_get es) same ∙ at_too)) in
            absurd (true_false (sym f.holds ∙ (ap (key c) one ∙ other)))
        | inr (inl less) ↦ absurd (let back = (passed.together x f.index c f.item at f.at f.holds).1 less in omega (arith, back))
        | inr (inr more) ↦ more
      ] in
      let any_later = any_left (key c) es f.index (suc y) f.item f.at beyond f.holds in
      ap (λ us. meetings_by key us (drop y es)) here
      ∙ (ap (meetings_by key (c ∷ drop (suc x) cs)) (drop_here es y e at_too) ∙ (turn other any_later ∙ sym (ap (λ us. comes e ∷ meetings_by key us (drop (suc y) es)) here)))
    where
      true_false : true ≡ false → ⊥
      true_false e = absurd cc

      some_same : (a b : Class) → Some a ≡ Some b → a ≡ b
      some_same a b e = cc

      turn : key c e ≡ false → list_any (key c) (drop (suc y) es) ≡ true
          → meetings_by key (c ∷ drop (suc x) cs) (e ∷ drop (suc y) es) ≡ comes e ∷ meetings_by key (c ∷ drop (suc x) cs) (drop (suc y) es)
      turn other any_later = rw (other, any_later) refl

  -- two that are next and each have one of their key meet
  pub key_next : (x y : ℕ) (c e : Class) → slice_get cs x ≡ Some c → slice_get es y ≡ Some e → ArePassed x y → list_any (key c) es ≡ true
      → list_any (λ b. key b e) cs ≡ true → key c e ≡ true
  key_next x y c e at at_too passed any any_too =
      let f = find_one (key c) es any in
      let g = find_one (λ b. key b e) cs any_too in
      elim (cases_order f.index y) [
        | inl same ↦ subst (λ u. key c u ≡ true) (some_same f.item e (sym f.at ∙ (ap (slice_get es) same ∙ at_too))) f.holds
        | inr (inl less) ↦ absurd (let back = (passed.together x f.index c f.item at f.at f.holds).1 less in omega (arith, back))
        | inr (inr more) ↦
            let before = (passed.one_order g.index y x f.index g.item e c f.item g.at at_too at f.at g.holds f.holds).1 more in
            absurd (let there = (passed.together g.index y g.item e g.at at_too g.holds).0 before in omega (arith, there))
      ]
    where
      some_same : (a b : Class) → Some a ≡ Some b → a ≡ b
      some_same a b e = cc

  pub meets_next : (x y : ℕ) (c e : Class) → slice_get cs x ≡ Some c → slice_get es y ≡ Some e → key c e ≡ true
      → meetings_by key (drop x cs) (drop y es) ≡ meets c e ∷ meetings_by key (drop (suc x) cs) (drop (suc y) es)
  meets_next x y c e at at_too same =
      ap (λ us. meetings_by key us (drop y es)) (drop_here cs x c at) ∙ (ap (meetings_by key (c ∷ drop (suc x) cs)) (drop_here es y e at_too) ∙ turn same)
    where
      turn : key c e ≡ true → meetings_by key (c ∷ drop (suc x) cs) (e ∷ drop (suc y) es) ≡ meets c e ∷ meetings_by key (drop (suc x) cs) (drop (suc y) es)
      turn s = rw s refl

  -- what is passed after a step
  pub passed_goes : (x y : ℕ) (c : Class) → slice_get cs x ≡ Some c → ArePassed x y → list_any (key c) es ≡ false → ArePassed (suc x) y
  passed_goes x y c at passed none = record {
    together = λ p q b e at_p at_q same.
        let old = passed.together p q b e at_p at_q same in (
          (λ less. elim (cases_lt p x) [
            | inl lower ↦ old.0 lower
            | inr more ↦
                let p_is : p ≡ x = omega (arith, more, less) in
                let one : b ≡ c = some_same b c (sym at_p ∙ (ap (slice_get cs) p_is ∙ at)) in
                absurd (true_false (sym (any_here (key c) es q e at_q (ap (λ u. key u e) (sym one) ∙ same)) ∙ none))
          ]),
          (λ less. let low = old.1 less in omega (arith, low)),
        );
    one_order = passed.one_order;
  }
    where
      true_false : true ≡ false → ⊥
      true_false e = absurd cc

      some_same : (a b : Class) → Some a ≡ Some b → a ≡ b
      some_same a b e = cc

  pub passed_comes : (x y : ℕ) (e : Class) → slice_get es y ≡ Some e → ArePassed x y → list_any (λ b. key b e) cs ≡ false → ArePassed x (suc y)
  passed_comes x y e at passed none = record {
    together = λ p q b f at_p at_q same.
        let old = passed.together p q b f at_p at_q same in (
          (λ less. let low = old.0 less in omega (arith, low)),
          (λ less. elim (cases_lt q y) [
            | inl lower ↦ old.1 lower
            | inr more ↦
                let q_is : q ≡ y = omega (arith, more, less) in
                let one : f ≡ e = some_same f e (sym at_q ∙ (ap (slice_get es) q_is ∙ at)) in
                absurd (true_false (sym (any_here (λ u. key u e) cs p b at_p (ap (key b) (sym one) ∙ same)) ∙ none))
          ]),
        );
    one_order = passed.one_order;
  }
    where
      true_false : true ≡ false → ⊥
      true_false e = absurd cc

      some_same : (a b : Class) → Some a ≡ Some b → a ≡ b
      some_same a b e = cc

  pub passed_meets : (x y : ℕ) (c e : Class) → slice_get cs x ≡ Some c → slice_get es y ≡ Some e → key c e ≡ true → ArePassed x y → ArePassed (suc x) (suc y)
  passed_meets x y c e at at_too key_is passed = record {
    together = λ p q b f at_p at_q same. (
      (λ less. elim (cases_order q y) [
        | inl equal ↦ omega (arith, equal)
        | inr (inl lower) ↦ omega (arith, lower)
        | inr (inr more) ↦ absurd (let back = (passed.one_order x y p q c e b f at at_too at_p at_q key_is same).1 more in omega (arith, back, less))
      ]),
      (λ less. elim (cases_order p x) [
        | inl equal ↦ omega (arith, equal)
        | inr (inl lower) ↦ omega (arith, lower)
        | inr (inr more) ↦ absurd (let back = (passed.one_order x y p q c e b f at at_too at_p at_q key_is same).0 more in omega (arith, back, less))
      ]),
    );
    one_order = passed.one_order;
  }
