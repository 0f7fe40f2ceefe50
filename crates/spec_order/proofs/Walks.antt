-- Laws on walks and cycles.
use Rattle.std.proofs.Common.{◌≡◌, ℕ, suc, ◌+◌, ◌<◌, ◌≤◌, inl, inr, List, [], ◌∷◌, ◌++◌, length, get_or, refl, sym, subst, arith, length-append}
use Rattle.std.specs.Prelude.{Contains, slice_index}
use Rattle.std.proofs.lemmas.Bool.{cases_lt}
use Rattle.std.proofs.lemmas.List.Elements.{Contains-get_or, All-contains}
use Rattle.spec_order.specs.Edges.{DependsOn}
use Rattle.spec_order.specs.Cycle.{IsWalk, IsCycle, HasCycle, IsNoLater, IsFirstCycle}
use Rattle.spec_order.proofs.Members.{Contains-cons_cases, Contains-nil, Contains-here}

-- one walk after another
pub walk_join : (edges : List (ℕ × ℕ)) (a b c : ℕ) (xs ys : List ℕ) → IsWalk edges a xs b → IsWalk edges b ys c → IsWalk edges a (xs ++ b ∷ ys) c
walk_join edges a b c [] ys v w = (v, w)
walk_join edges a b c (x ∷ xs) ys v w = (v.0, walk_join edges x b c xs ys v.1 w)

-- a walk that passes x, as a walk to x and a walk from x
pub record Parts (edges : List (ℕ × ℕ)) (a : ℕ) (xs : List ℕ) (b x : ℕ) : Type 0 where
  pub before : List ℕ
  pub after : List ℕ
  pub to : IsWalk edges a before x
  pub from : IsWalk edges x after b
  pub size : length xs ≡ length before + length after + 1

pub walk_parts : (edges : List (ℕ × ℕ)) (a b x : ℕ) (xs : List ℕ) → IsWalk edges a xs b → Contains xs x → Parts edges a xs b x
walk_parts edges a b x [] w h = absurd (Contains-nil x h)
walk_parts edges a b x (y ∷ ys) w h =
    elim (Contains-cons_cases y ys x h) as (λ _. Parts edges a (y ∷ ys) b x) [
      | inl e ↦ record {
        before = [];
        after = ys;
        to = subst (λ (z : ℕ). DependsOn edges a z) e w.0;
        from = subst (λ (z : ℕ). IsWalk edges z ys b) e w.1;
        size = omega arith;
      }
      | inr k ↦
          let p = walk_parts edges y b x ys w.1 k in
          record { before = y ∷ p.before; after = p.after; to = (w.0, p.to); from = p.from; size = omega (arith, p.size) }
    ]

-- a cycle that passes x begins anywhere, so also at x
pub record Through (edges : List (ℕ × ℕ)) (x n : ℕ) : Type 0 where
  pub rest : List ℕ
  pub walk : IsWalk edges x rest x
  pub size : n ≡ suc (length rest)

pub reversed : (edges : List (ℕ × ℕ)) (cycle : List ℕ) (x : ℕ) → IsCycle edges cycle → Contains cycle x → Through edges x (length cycle)
reversed edges [] x w h = absurd w
reversed edges (y ∷ ys) x w h =
    elim (Contains-cons_cases y ys x h) as (λ _. Through edges x (length (y ∷ ys))) [
      | inl e ↦ record { rest = ys; walk = subst (λ (z : ℕ). IsWalk edges z ys z) e w; size = refl }
      | inr k ↦
          let p = walk_parts edges y y x ys w k in
          record {
            rest = p.after ++ y ∷ p.before;
            walk = walk_join edges x y x p.after p.before p.from p.to;
            size = omega (arith, p.size, length-append p.after (y ∷ p.before));
          }
    ]

-- The first cycle, by what a search finds: no cycle begins below x, and of those that begin with x none is
-- shorter, nor earlier and as short.
pub record IsFirstFrom (edges : List (ℕ × ℕ)) (x : ℕ) (xs : List ℕ) : Type 0 where
  pub walk : IsWalk edges x xs x
  pub none_below : (y : ℕ) → y < x → (ys : List ℕ) → ¬ IsWalk edges y ys y
  pub shortest : (ys : List ℕ) → IsWalk edges x ys x → length xs ≤ length ys
  pub earliest : (ys : List ℕ) → IsWalk edges x ys x → length ys ≡ length xs → IsNoLater xs ys

least_by_search : (edges : List (ℕ × ℕ)) (x : ℕ) (xs other : List ℕ) → IsFirstFrom edges x xs → IsCycle edges other → (y : ℕ) → Contains other y → x ≤ y
least_by_search edges x xs other f c y h =
    let t = reversed edges other y c h in
    elim (cases_lt y x) as (λ _. x ≤ y) [ inl l ↦ absurd (f.none_below y l t.rest t.walk) | inr g ↦ g ]

earliest_by_search : (edges : List (ℕ × ℕ)) (x : ℕ) (xs other : List ℕ) → IsFirstFrom edges x xs → IsCycle edges other → length other ≡ length (x ∷ xs) → IsNoLater (x ∷ xs) other
earliest_by_search edges x xs [] f c e = absurd c
earliest_by_search edges x xs (y ∷ ys) f c e =
    elim (cases_lt x y) as (λ _. IsNoLater (x ∷ xs) (y ∷ ys)) [
      | inl l ↦ inl l
      | inr g ↦
          let same : y ≡ x = omega (arith, least_by_search edges x xs (y ∷ ys) f c y (Contains-here y ys y refl)) in
          inr (sym same, f.earliest ys (subst (λ (z : ℕ). IsWalk edges z ys z) same c) (omega arith))
    ]

pub IsFirstCycle-from : (edges : List (ℕ × ℕ)) (x : ℕ) (xs : List ℕ) → IsFirstFrom edges x xs → IsFirstCycle edges (x ∷ xs)
IsFirstCycle-from edges x xs f = record {
  closed = f.walk;
  least = λ other c k d l. least_by_search edges x xs other f c (get_or other k d) (Contains-get_or other k d l);
  fewest = λ other c h. let t = reversed edges other x c h in omega (arith, f.shortest t.rest t.walk, t.size);
  earliest = λ other c h e. earliest_by_search edges x xs other f c e;
}

IsNoLater-antisym : (xs ys : List ℕ) → length xs ≡ length ys → IsNoLater xs ys → IsNoLater ys xs → xs ≡ ys
IsNoLater-antisym [] [] e h k = refl
IsNoLater-antisym [] (y ∷ ys) e h k = absurd k
IsNoLater-antisym (x ∷ xs) [] e h k = absurd h
IsNoLater-antisym (x ∷ xs) (y ∷ ys) e h k =
    elim h as (λ _. x ∷ xs ≡ y ∷ ys) [
      | inl l ↦ elim k as (λ _. x ∷ xs ≡ y ∷ ys) [ inl m ↦ absurd (omega arith) | inr m ↦ absurd (omega (arith, m.0)) ]
      | inr l ↦ elim k as (λ _. x ∷ xs ≡ y ∷ ys) [
        | inl m ↦ absurd (omega (arith, l.0))
        | inr m ↦ let tails = IsNoLater-antisym xs ys (omega arith) l.1 m.1 in let heads = l.0 in cc
      ]
    ]

-- a cycle has a first item
Contains-first : (edges : List (ℕ × ℕ)) (cycle : List ℕ) → IsCycle edges cycle → Contains cycle (slice_index cycle 0)
Contains-first edges [] c = absurd c
Contains-first edges (x ∷ xs) c = Contains-here x xs x refl

first_le : (edges : List (ℕ × ℕ)) (c d : List ℕ) → IsFirstCycle edges c → IsFirstCycle edges d → slice_index c 0 ≤ slice_index d 0
first_le edges c d f g = All-contains (λ x. slice_index c 0 ≤ x) d (slice_index d 0) (f.least d g.closed) (Contains-first edges d g.closed)

-- there is one first cycle at most
pub IsFirstCycle-unique : (edges : List (ℕ × ℕ)) (c d : List ℕ) → IsFirstCycle edges c → IsFirstCycle edges d → c ≡ d
IsFirstCycle-unique edges c d f g =
    let heads : slice_index c 0 ≡ slice_index d 0 = omega (arith, first_le edges c d f g, first_le edges d c g f) in
    let in_d : Contains d (slice_index c 0) = subst (λ (x : ℕ). Contains d x) (sym heads) (Contains-first edges d g.closed) in
    let in_c : Contains c (slice_index d 0) = subst (λ (x : ℕ). Contains c x) heads (Contains-first edges c f.closed) in
    let sizes : length c ≡ length d = omega (arith, f.fewest d g.closed in_d, g.fewest c f.closed in_c) in
    IsNoLater-antisym c d sizes (f.earliest d g.closed in_d (sym sizes)) (g.earliest c f.closed in_c sizes)

-- a cycle where it is first is one where there is any
pub HasCycle-first : (edges : List (ℕ × ℕ)) (cycle : List ℕ) → IsFirstCycle edges cycle → HasCycle edges
HasCycle-first edges cycle f = (cycle, f.closed)
