-- How a search finds numbers, one after another.
use Rattle.std.proofs.Common.{◌≡◌, ℕ, ◌+◌, ◌<◌, ◌⊎◌, inl, inr, true, false, cond, List, [], ◌∷◌, ◌++◌, Option, Some, None, length, get_or, set, take, map, refl, sym, ap, ◌∙◌, subst, arith}
use Rattle.std.specs.Prelude.{Contains, is_none, is_some}
use Rattle.std.proofs.lemmas.Bool.{cases_eq}
use Rattle.std.proofs.lemmas.List.{get_or_default, length-set, length_push, get_or-set_same, get_or-set_other, map_more}
use Rattle.std.proofs.lemmas.List.Elements.{Contains-append_left, Contains-push, Contains-push_cases}
use Rattle.std.proofs.lemmas.List.Sums.{sum_by-set}
use Rattle.gl_publisher.specs.Distances.{distance_of, EndsWith, Finds}

-- first these are found, then those
pub finds_join : {T U : ℕ → Type 0} {distance : ℕ} {old mid new : List (Option ℕ)} {before between after : List ℕ} → Finds T distance old mid before between → Finds U distance mid new between after → Finds (λ a. T a ⊎ U a) distance old new before after
finds_join {T} {U} {distance} {old} {mid} {new} {before} {between} {after} f g = record {
  size = g.size ∙ f.size;
  kept = λ a d h. g.kept a d (f.kept a d h);
  known = λ a t. elim t as (λ _. (d : ℕ) × (distance_of new a ≡ Some d)) [
    | inl h ↦ let k = f.known a h in (k.0, g.kept a (k.0) k.1)
    | inr h ↦ g.known a h
  ];
  source = λ a d h. elim (g.source a d h) as (λ _. (distance_of old a ≡ Some d) ⊎ ((d ≡ distance) × (T a ⊎ U a) × Contains after a)) [
    | inl m ↦ elim (f.source a d m) as (λ _. (distance_of old a ≡ Some d) ⊎ ((d ≡ distance) × (T a ⊎ U a) × Contains after a)) [
      | inl o ↦ inl o
      | inr s ↦ inr (s.0, inl s.1, g.carried a s.2)
    ]
    | inr s ↦ inr (s.0, inr s.1, s.2)
  ];
  carried = λ a h. g.carried a (f.carried a h);
  found = λ a h. elim (g.found a h) as (λ _. Contains before a ⊎ (distance_of new a ≡ Some distance)) [
    | inl m ↦ elim (f.found a m) as (λ _. Contains before a ⊎ (distance_of new a ≡ Some distance)) [ inl b ↦ inl b | inr k ↦ inr (g.kept a distance k) ]
    | inr k ↦ inr k
  ];
  balance = omega (arith, f.balance, g.balance);
}

-- the same targets said otherwise
pub finds_same : {T U : ℕ → Type 0} {distance : ℕ} {old new : List (Option ℕ)} {before after : List ℕ} → ((a : ℕ) → T a → U a) → ((a : ℕ) → U a → T a) → Finds T distance old new before after → Finds U distance old new before after
finds_same {T} {U} {distance} {old} {new} {before} {after} to from f = record {
  size = f.size;
  kept = f.kept;
  known = λ a u. f.known a (from a u);
  source = λ a d h. elim (f.source a d h) as (λ _. (distance_of old a ≡ Some d) ⊎ ((d ≡ distance) × U a × Contains after a)) [ inl o ↦ inl o | inr s ↦ inr (s.0, to a s.1, s.2) ];
  carried = f.carried;
  found = f.found;
  balance = f.balance;
}

-- a number that has no distance gets one
pub finds_new : (distance a : ℕ) (old : List (Option ℕ)) (found : List ℕ) → a < length old → distance_of old a ≡ None → Finds (λ b. a ≡ b) distance old (set old a (Some distance)) found (found ++ a ∷ [])
finds_new distance a old found l none = record {
  size = length-set old a (Some distance);
  kept = λ b d h. elim (cases_eq b a) as (λ _. distance_of (set old a (Some distance)) b ≡ Some d) [
    | inl e ↦ let n : distance_of old b ≡ None = ap (distance_of old) e ∙ none in cc
    | inr ne ↦ get_or-set_other old a b (Some distance) None ne ∙ h
  ];
  known = λ b e. (distance, at_b b e);
  source = λ b d h. elim (cases_eq b a) as (λ _. (distance_of old b ≡ Some d) ⊎ ((d ≡ distance) × (a ≡ b) × Contains (found ++ a ∷ []) b)) [
    | inl e ↦ let v = at_b b (sym e) in inr (cc, sym e, subst (λ (x : ℕ). Contains (found ++ a ∷ []) x) (sym e) (Contains-push found a))
    | inr ne ↦ inl (sym (get_or-set_other old a b (Some distance) None ne) ∙ h)
  ];
  carried = λ b h. Contains-append_left found (a ∷ []) b h;
  found = λ b h. elim (Contains-push_cases found a b h) as (λ _. Contains found b ⊎ (distance_of (set old a (Some distance)) b ≡ Some distance)) [ inl k ↦ inl k | inr e ↦ inr (at_b b e) ];
  balance = omega (arith, sum_by-set (λ (x : Option ℕ). cond (is_none x) 1 0) old a (Some distance) None l, ap (λ (x : Option ℕ). cond {A = ℕ} (is_none x) 1 0) none, length_push found a);
}
  where
    at_b : (b : ℕ) → a ≡ b → distance_of (set old a (Some distance)) b ≡ Some distance
    at_b b e = ap (distance_of (set old a (Some distance))) (sym e) ∙ get_or-set_same old a (Some distance) None l

-- a number that has a distance keeps it
pub finds_known : (distance a d : ℕ) (old : List (Option ℕ)) (found : List ℕ) → distance_of old a ≡ Some d → Finds (λ b. a ≡ b) distance old old found found
finds_known distance a d old found h = record {
  size = refl;
  kept = λ b d k. k;
  known = λ b e. (d, ap (distance_of old) (sym e) ∙ h);
  source = λ b d k. inl k;
  carried = λ b k. k;
  found = λ b k. inl k;
  balance = refl;
}

-- the targets of one pair more
pub ends_with_more : (pairs : List (ℕ × ℕ)) (i : ℕ) (d : ℕ × ℕ) → i < length pairs → (a : ℕ) → EndsWith (take i pairs) a ⊎ ((get_or pairs i d).1 ≡ a) → EndsWith (take (i + 1) pairs) a
ends_with_more pairs i d l a h =
    let e = map_more (λ (p : ℕ × ℕ). p.1) pairs i d l in
    subst (λ (xs : List ℕ). Contains xs a) (sym e) (elim h as (λ _. Contains (map (λ (p : ℕ × ℕ). p.1) (take i pairs) ++ (get_or pairs i d).1 ∷ []) a) [
      | inl k ↦ Contains-append_left (map (λ (p : ℕ × ℕ). p.1) (take i pairs)) ((get_or pairs i d).1 ∷ []) a k
      | inr q ↦ subst (λ (x : ℕ). Contains (map (λ (p : ℕ × ℕ). p.1) (take i pairs) ++ (get_or pairs i d).1 ∷ []) x) q (Contains-push (map (λ (p : ℕ × ℕ). p.1) (take i pairs)) (get_or pairs i d).1)
    ])

pub ends_with_cases : (pairs : List (ℕ × ℕ)) (i : ℕ) (d : ℕ × ℕ) → i < length pairs → (a : ℕ) → EndsWith (take (i + 1) pairs) a → EndsWith (take i pairs) a ⊎ ((get_or pairs i d).1 ≡ a)
ends_with_cases pairs i d l a h =
    let e = map_more (λ (p : ℕ × ℕ). p.1) pairs i d l in
    Contains-push_cases (map (λ (p : ℕ × ℕ). p.1) (take i pairs)) (get_or pairs i d).1 a (subst (λ (xs : List ℕ). Contains xs a) e h)

-- one pair more
pub finds_pair : {distance : ℕ} {old mid new : List (Option ℕ)} {before between after : List ℕ} (pairs : List (ℕ × ℕ)) (i : ℕ) (d : ℕ × ℕ) → i < length pairs → Finds (EndsWith (take i pairs)) distance old mid before between → Finds (λ b. (get_or pairs i d).1 ≡ b) distance mid new between after → Finds (EndsWith (take (i + 1) pairs)) distance old new before after
finds_pair pairs i d l f g = finds_same (ends_with_more pairs i d l) (ends_with_cases pairs i d l) (finds_join f g)

none_is : (o : Option ℕ) → is_some o ≡ false → o ≡ None
none_is None h = refl
none_is (Some d) h = cc

some_is : (o : Option ℕ) → is_some o ≡ true → (d : ℕ) × (o ≡ Some d)
some_is None h = cc
some_is (Some d) h = (d, refl)

-- what a read of the table says
pub none_read : (xs : List (Option ℕ)) (a : ℕ) (r : Option ℕ) → a < length xs → r ≡ get_or xs a r → is_some r ≡ false → distance_of xs a ≡ None
none_read xs a r l read h = get_or_default xs a None r l ∙ (sym read ∙ none_is r h)

pub some_read : (xs : List (Option ℕ)) (a : ℕ) (r : Option ℕ) → a < length xs → r ≡ get_or xs a r → is_some r ≡ true → (d : ℕ) × (distance_of xs a ≡ Some d)
some_read xs a r l read h = let s = some_is r h in (s.0, get_or_default xs a None r l ∙ (sym read ∙ s.1))
