-- The pairs that stay have one order on both sides.
use Rattle.std.proofs.Common.{◌≡◌, ◌≢◌, ◌∙◌, ◌&&◌, ◌<◌, ◌≤◌, ℕ, suc, Bool, true, false, List, [], ◌∷◌, map, filter, max, Option, Some, None, refl, sym, ap, subst, inl, inr, arith, eq-eqb}
use Rattle.std.specs.Prelude.{◌||◌, nat_lt}
use Rattle.std.specs.List.{AllByRecursion as Each}
use Rattle.std.proofs.lemmas.Bool.{cases_Bool, cases_eq, ne_eqb, ltb-true, false≢true}
use Rattle.spec_sorting.proofs.SortedPositions.{In}
use Rattle.spec_sorting.specs.Moves.{IsRising}
use Rattle.spec_sorting.specs.Ranked.{is_some_position}
use Rattle.gl_sorted.specs.declared.leaving.Leaving.{Leaving}
use Rattle.gl_sorted.specs.Leaves.{prefix_scanned, back_scanned, least_new}
use Rattle.gl_sorted.specs.Merging.{kept_positions, is_kept_at}

-- an element with no partner doesn't stay
abbrev pub NoneGoes : Leaving → Type 0
NoneGoes l = l.new ≡ None → l.stays ≡ false

-- the new places of those that stay rise
pub record KeptRise (low : ℕ) (ls : List Leaving) : Type 0 where
  pub news : List ℕ
  pub are : kept_positions ls ≡ map Some news
  pub rise : IsRising low news

lower : (low high : ℕ) (ns : List ℕ) → low ≤ high → IsRising high ns → IsRising low ns
lower low high [] le r = tt
lower low high (n ∷ ns) le r = let first = r.0 in (omega (arith, le, first), r.1)

goes_away : (l : Leaving) (ls : List Leaving) → l.stays ≡ false → kept_positions (l ∷ ls) ≡ kept_positions ls
goes_away l ls e = rw e refl

stays_there : (l : Leaving) (ls : List Leaving) → l.stays ≡ true → kept_positions (l ∷ ls) ≡ l.new ∷ kept_positions ls
stays_there l ls e = rw e refl

right : (a b : Bool) → (a && b) ≡ true → b ≡ true
right true b e = e
right false b e = absurd (false≢true e)

cons_same : {X : Type 0} (a b : X) (us vs : List X) → a ≡ b → us ≡ vs → a ∷ us ≡ b ∷ vs
cons_same a b us vs e f = cc

pub kept_rise : (top low : ℕ) (ls : List Leaving) → Each NoneGoes ls → low ≤ least_new top ls → KeptRise low (back_scanned top ls)
kept_rise top low [] e le = record { news = []; are = refl; rise = tt }
kept_rise top low (l ∷ ls) e le = by l.place l.source l.stays l.new e.0 le (λ m more. kept_rise top m ls e.1 more)
  where
    by : (p s : ℕ) (k : Bool) (n : Option ℕ) → (n ≡ None → k ≡ false) → low ≤ least_new top (record { place = p; source = s; new = n; stays = k } ∷ ls)
        → ((m : ℕ) → m ≤ least_new top ls → KeptRise m (back_scanned top ls)) → KeptRise low (back_scanned top (record { place = p; source = s; new = n; stays = k } ∷ ls))
    by p s k None none le more =
        let rest = more low le in
        record { news = rest.news; are = goes_away (record { place = p; source = s; new = None; stays = k }) (back_scanned top ls) (none refl) ∙ rest.are; rise = rest.rise }
    by p s k (Some n) none le more =
        elim (cases_Bool (k && nat_lt n (least_new top ls))) [
          | inl stays ↦
              let less = ltb-true n (least_new top ls) (right k (nat_lt n (least_new top ls)) stays) in
              let rest = more (suc n) less in
              record {
                news = n ∷ rest.news;
                are = stays_there (record { place = p; source = s; new = Some n; stays = k && nat_lt n (least_new top ls) }) (back_scanned top ls) stays ∙ cons_same _ _ _ _ refl rest.are;
                rise = (omega (arith, le), rest.rise);
              }
          | inr goes ↦
              let rest = more low (omega (arith, le)) in
              record { news = rest.news; are = goes_away (record { place = p; source = s; new = Some n; stays = k && nat_lt n (least_new top ls) }) (back_scanned top ls) goes ∙ rest.are; rise = rest.rise }
        ]

pub none_goes : (greatest : ℕ) (ls : List Leaving) → Each NoneGoes ls → Each NoneGoes (prefix_scanned greatest ls)
none_goes greatest [] e = tt
none_goes greatest (l ∷ ls) e = by l.place l.source l.stays l.new e.0 (λ g. none_goes g ls e.1)
  where
    some_none : (n : ℕ) → Some n ≡ None → ⊥
    some_none n e = absurd cc

    by : (p s : ℕ) (k : Bool) (n : Option ℕ) → (n ≡ None → k ≡ false) → ((g : ℕ) → Each NoneGoes (prefix_scanned g ls)) → Each NoneGoes (prefix_scanned greatest (record { place = p; source = s; new = n; stays = k } ∷ ls))
    by p s k None none more = (none, more greatest)
    by p s k (Some n) none more = ((λ e. absurd (some_none n e)), more (max greatest n))

-- the first of two equal lists of new places
pub record IsFirst (new : Option ℕ) (rest : List (Option ℕ)) (news : List ℕ) : Type 0 where
  pub n : ℕ
  pub ns : List ℕ
  pub news_are : news ≡ n ∷ ns
  pub first : new ≡ Some n
  pub others : rest ≡ map Some ns

first_is : (new : Option ℕ) (rest : List (Option ℕ)) (news : List ℕ) → new ∷ rest ≡ map Some news → IsFirst new rest news
first_is new rest [] e = absurd cc
first_is new rest (n ∷ ns) e = record { n = n; ns = ns; news_are = refl; first = cc; others = cc }

-- an element stays whose partner stands at a place exactly where this is one of their new places
pub any_kept : (p : ℕ) (ls : List Leaving) (news : List ℕ) → kept_positions ls ≡ map Some news → is_kept_at ls p ≡ true → In p news
any_kept p [] news e h = absurd (false≢true h)
any_kept p (l ∷ ls) news e h =
    elim (cases_Bool l.stays) [
      | inr goes ↦ any_kept p ls news (sym (goes_away l ls goes) ∙ e) (later goes ∙ h)
      | inl stays ↦
          let f = first_is l.new (kept_positions ls) news (sym (stays_there l ls stays) ∙ e) in
          subst (In p) (sym f.news_are)
          (elim (cases_eq f.n p) [
            | inl same ↦ inl (sym same)
            | inr other ↦ inr (any_kept p ls f.ns f.others (sym (not_here stays f.n f.first other) ∙ h))
          ])
    ]
  where
    later : l.stays ≡ false → is_kept_at ls p ≡ is_kept_at (l ∷ ls) p
    later goes = rw goes refl

    not_here : l.stays ≡ true → (n : ℕ) → l.new ≡ Some n → n ≢ p → is_kept_at (l ∷ ls) p ≡ is_kept_at ls p
    not_here stays n is other = ap (λ b. b || is_kept_at ls p) (ap (λ b. b && is_some_position p l.new) stays ∙ (ap (is_some_position p) is ∙ ne_eqb n p other))

pub kept_any : (p : ℕ) (ls : List Leaving) (news : List ℕ) → kept_positions ls ≡ map Some news → In p news → is_kept_at ls p ≡ true
kept_any p [] [] e found = absurd found
kept_any p [] (n ∷ ns) e found = absurd cc
kept_any p (l ∷ ls) news e found =
    elim (cases_Bool l.stays) [
      | inr goes ↦ later goes ∙ kept_any p ls news (sym (goes_away l ls goes) ∙ e) found
      | inl stays ↦
          let f = first_is l.new (kept_positions ls) news (sym (stays_there l ls stays) ∙ e) in
          by stays f (λ found. kept_any p ls f.ns f.others found) (subst (In p) f.news_are found)
    ]
  where
    later : l.stays ≡ false → is_kept_at (l ∷ ls) p ≡ is_kept_at ls p
    later goes = rw goes refl

    or_right : (a b : Bool) → b ≡ true → (a || b) ≡ true
    or_right true b e = refl
    or_right false b e = e

    by : l.stays ≡ true → (f : IsFirst l.new (kept_positions ls) news) → (In p f.ns → is_kept_at ls p ≡ true) → In p (f.n ∷ f.ns) → is_kept_at (l ∷ ls) p ≡ true
    by stays f more (inl same) = ap (λ b. b || is_kept_at ls p) (ap (λ b. b && is_some_position p l.new) stays ∙ (ap (is_some_position p) f.first ∙ eq-eqb f.n p (sym same)))
    by stays f more (inr found) = or_right (l.stays && is_some_position p l.new) (is_kept_at ls p) (more found)

-- what is true of the new places of all elements is true of those of elements that stay
pub each_kept : (P : ℕ → Type 0) (ls : List Leaving) (news : List ℕ) → kept_positions ls ≡ map Some news → Each (λ l. (n : ℕ) → l.new ≡ Some n → P n) ls → (p : ℕ) → In p news → P p
each_kept P [] [] e h p found = absurd found
each_kept P [] (n ∷ ns) e h p found = absurd cc
each_kept P (l ∷ ls) news e h p found =
    elim (cases_Bool l.stays) [
      | inr goes ↦ each_kept P ls news (sym (goes_away l ls goes) ∙ e) h.1 p found
      | inl stays ↦
          let f = first_is l.new (kept_positions ls) news (sym (stays_there l ls stays) ∙ e) in
          by f (λ found. each_kept P ls f.ns f.others h.1 p found) (subst (In p) f.news_are found)
    ]
  where
    by : (f : IsFirst l.new (kept_positions ls) news) → (In p f.ns → P p) → In p (f.n ∷ f.ns) → P p
    by f more (inl same) = subst P (sym same) (h.0 f.n f.first)
    by f more (inr found) = more found

rising_in : (low : ℕ) (ns : List ℕ) (p : ℕ) → IsRising low ns → In p ns → low ≤ p
rising_in low [] p r found = absurd found
rising_in low (n ∷ ns) p r (inl same) = let first = r.0 in omega (arith, first, same)
rising_in low (n ∷ ns) p r (inr found) = let first = r.0 in omega (arith, first, rising_in (suc n) ns p r.1 found)

-- of places that rise those that pass a test are the ones that do, in their order
pub filter_is : (test : ℕ → Bool) (low : ℕ) (ps news : List ℕ) → IsRising low ps → IsRising low news → ((p : ℕ) → low ≤ p → test p ≡ true → In p news) → ((p : ℕ) → In p news → test p ≡ true)
    → ((p : ℕ) → In p news → In p ps) → filter test ps ≡ news
filter_is test low [] [] r s to from sub = refl
filter_is test low [] (n ∷ ns) r s to from sub = absurd (sub n (inl refl))
filter_is test low (p ∷ ps) [] r s to from sub =
    let low_p = r.0 in
    elim (cases_Bool (test p)) [
      | inl passes ↦ absurd (to p low_p passes)
      | inr fails ↦ rw fails (filter_is test (suc p) ps [] r.1 tt (λ q more h. to q (omega (arith, low_p, more)) h) from (λ q h. absurd h))
    ]
filter_is test low (p ∷ ps) (n ∷ ns) r s to from sub =
    let low_p = r.0 in
    let low_n = s.0 in
    elim (cases_eq p n) [
      | inl same ↦
          let passes : test p ≡ true = from p (inl same) in
          let rise : IsRising (suc p) ns = subst (λ k. IsRising (suc k) ns) (sym same) s.1 in
          rw passes (cons_same p n _ ns same
          (filter_is test (suc p) ps ns r.1 rise
          (λ q more h. other_in q (to q (omega (arith, low_p, more)) h) (omega (arith, more, same)))
          (λ q h. from q (inr h)) (λ q h. other_in_ps q (sub q (inr h)) (rising_in (suc p) ns q rise h))))
      | inr other ↦
          let remaining : In n ps = not_first n (sub n (inl refl)) (λ e. other (sym e)) in
          let more_n = rising_in (suc p) ps n r.1 remaining in
          let fails : test p ≡ false = not_passed p (λ h. none_in p (to p low_p h) more_n other) in
          rw fails (filter_is test (suc p) ps (n ∷ ns) r.1 (more_n, s.1) (λ q more h. to q (omega (arith, low_p, more)) h) from
          (λ q h. not_first q (sub q h) (λ e. let least = rising_in n (n ∷ ns) q (omega arith, s.1) h in omega (arith, e, least, more_n))))
    ]
  where
    other_in : (q : ℕ) → In q (n ∷ ns) → n < q → In q ns
    other_in q (inl same) less = absurd (omega (arith, same, less))
    other_in q (inr found) less = found

    other_in_ps : (q : ℕ) → In q (p ∷ ps) → suc p ≤ q → In q ps
    other_in_ps q (inl same) less = absurd (omega (arith, same, less))
    other_in_ps q (inr found) less = found

    not_first : (q : ℕ) → In q (p ∷ ps) → q ≢ p → In q ps
    not_first q (inl same) other = absurd (other same)
    not_first q (inr found) other = found

    not_passed : (q : ℕ) → (test q ≡ true → ⊥) → test q ≡ false
    not_passed q none = elim (cases_Bool (test q)) [
      | inl passes ↦ absurd (none passes)
      | inr fails ↦ fails
    ]

    none_in : (q : ℕ) → In q (n ∷ ns) → suc q ≤ n → q ≢ n → ⊥
    none_in q (inl same) less other = other same
    none_in q (inr found) less other = omega (arith, less, rising_in (suc n) ns q s.1 found)
