-- Dependencies have a first cycle, or none at all.
use Rattle.std.proofs.Common.{◌≡◌, ◌∙◌, ◌⊎◌, ℕ, zero, suc, ◌+◌, ◌<◌, ◌≤◌, List, [], ◌∷◌, ◌++◌, length, refl, sym, ap, subst, inl, inr, arith}
use Rattle.std.specs.List.{AllByRecursion}
use Rattle.std.proofs.lemmas.Bool.{cases_eq, cases_lt}
use Rattle.std.proofs.lemmas.List.Elements.{All-nil, All-cons, All-contains}
use Rattle.spec_order.specs.Edges.{DependsOn, AreWithin}
use Rattle.spec_order.specs.Cycle.{IsWalk, IsCycle, HasCycle, IsNoLater, IsFirstCycle}
use Rattle.spec_order.proofs.Members.{Contains-cons_cases, Contains-here, Contains-later, Contains-nil}
use Rattle.spec_order.proofs.Acyclic.{walk_below}
use Rattle.spec_order.proofs.Walks.{walk_join, IsFirstFrom, IsFirstCycle-from}

-- it is so, or it isn't
abbrev OrNot : Type 0 → Type 0
OrNot A = A ⊎ ¬ A

-- the least number of which something holds
record Least (P : ℕ → Type 0) : Type 0 where
  number : ℕ
  holds : P number
  least : (j : ℕ) → j < number → ¬ P j

least_below : (P : ℕ → Type 0) → ((k : ℕ) → OrNot (P k)) → (n : ℕ) → Least P ⊎ ((j : ℕ) → j < n → ¬ P j)
least_below P known zero = inr (λ j l p. absurd (omega arith))
least_below P known (suc n) = elim (least_below P known n) as (λ _. Least P ⊎ ((j : ℕ) → j < suc n → ¬ P j)) [
  | inl found ↦ inl found
  | inr none ↦ elim (known n) as (λ _. Least P ⊎ ((j : ℕ) → j < suc n → ¬ P j)) [
    | inl p ↦ inl (record { number = n; holds = p; least = none })
    | inr np ↦ inr (λ j l p. elim (cases_eq j n) as (λ _. ⊥) [
      | inl e ↦ np (subst P e p)
      | inr ne ↦ none j (omega arith) p
    ])
  ]
]

least_of : (P : ℕ → Type 0) → ((k : ℕ) → OrNot (P k)) → (m : ℕ) → P m → Least P
least_of P known m p = elim (least_below P known (suc m)) as (λ _. Least P) [
  | inl found ↦ found
  | inr none ↦ absurd (none m (omega arith) p)
]

same_pair : (a b c d : ℕ) → OrNot (let p : ℕ × ℕ = (a, b) in let q : ℕ × ℕ = (c, d) in p ≡ q)
same_pair a b c d = elim (cases_eq a c) as (λ _. OrNot (let p : ℕ × ℕ = (a, b) in let q : ℕ × ℕ = (c, d) in p ≡ q)) [
  | inl e ↦ elim (cases_eq b d) as (λ _. OrNot (let p : ℕ × ℕ = (a, b) in let q : ℕ × ℕ = (c, d) in p ≡ q)) [
    | inl f ↦ inl cc
    | inr ne ↦ inr (λ h. ne (ap (λ (p : ℕ × ℕ). p.1) h))
  ]
  | inr ne ↦ inr (λ h. ne (ap (λ (p : ℕ × ℕ). p.0) h))
]

depends_or_not : (edges : List (ℕ × ℕ)) (a b : ℕ) → OrNot (DependsOn edges a b)
depends_or_not [] a b = inr (Contains-nil (a, b))
depends_or_not ((c, d) ∷ edges) a b = elim (same_pair c d a b) as (λ _. OrNot (DependsOn ((c, d) ∷ edges) a b)) [
  | inl e ↦ inl (Contains-here (c, d) edges (a, b) e)
  | inr ne ↦ elim (depends_or_not edges a b) as (λ _. OrNot (DependsOn ((c, d) ∷ edges) a b)) [
    | inl h ↦ inl (Contains-later (c, d) edges (a, b) h)
    | inr none ↦ inr (λ h. elim (Contains-cons_cases (c, d) edges (a, b) h) as (λ _. ⊥) [
      | inl e ↦ ne e
      | inr k ↦ none k
    ])
  ]
]

-- a walk whose inner items are all below k
record Via (edges : List (ℕ × ℕ)) (k a b : ℕ) : Type 0 where
  inner : List ℕ
  low : AllByRecursion (λ x. x < k) inner
  walk : IsWalk edges a inner b

low_more : (k : ℕ) (xs : List ℕ) → AllByRecursion (λ x. x < k) xs → AllByRecursion (λ x. x < suc k) xs
low_more k [] h = tt
low_more k (x ∷ xs) h = (omega (arith, h.0), low_more k xs h.1)

low_joined : (k x : ℕ) (xs ys : List ℕ) → x < k → AllByRecursion (λ x. x < k) xs → AllByRecursion (λ x. x < k) ys
    → AllByRecursion (λ x. x < k) (xs ++ x ∷ ys)
low_joined k x [] ys l h g = (l, g)
low_joined k x (z ∷ xs) ys l h g = (h.0, low_joined k x xs ys l h.1 g)

-- by way of k, or without it
abbrev Split : List (ℕ × ℕ) → ℕ → ℕ → ℕ → Type 0
Split edges k a b = Via edges k a b ⊎ (Via edges k a k × Via edges k k b)

via_first : (edges : List (ℕ × ℕ)) (k a x b : ℕ) → x < k → DependsOn edges a x → Via edges k x b → Via edges k a b
via_first edges k a x b l d v = record { inner = x ∷ v.inner; low = (l, v.low); walk = (d, v.walk) }

split_first : (edges : List (ℕ × ℕ)) (k a x b : ℕ) → x < suc k → DependsOn edges a x → Split edges k x b
    → Split edges k a b
split_first edges k a x b l d s = elim (cases_eq x k) as (λ _. Split edges k a b) [
  | inl e ↦
      let to : Via edges k a k = record { inner = []; low = tt; walk = subst (λ (y : ℕ). DependsOn edges a y) e d } in
      elim s as (λ _. Split edges k a b) [
        | inl v ↦ inr (to, subst (λ (y : ℕ). Via edges k y b) e v)
        | inr v ↦ inr (to, v.1)
      ]
  | inr ne ↦
      let less : x < k = omega arith in
      elim s as (λ _. Split edges k a b) [
        | inl v ↦ inl (via_first edges k a x b less d v)
        | inr v ↦ inr (via_first edges k a x k less d v.0, v.1)
      ]
]

split : (edges : List (ℕ × ℕ)) (k a b : ℕ) (xs : List ℕ) → AllByRecursion (λ x. x < suc k) xs → IsWalk edges a xs b
    → Split edges k a b
split edges k a b [] h w = inl (record { inner = []; low = tt; walk = w })
split edges k a b (x ∷ xs) h w = split_first edges k a x b h.0 w.0 (split edges k x b xs h.1 w.1)

via_none : (edges : List (ℕ × ℕ)) (a b : ℕ) → ¬ DependsOn edges a b → ¬ Via edges 0 a b
via_none edges a b none v = by v.inner v.low v.walk
  where
    by : (xs : List ℕ) → AllByRecursion (λ x. x < 0) xs → IsWalk edges a xs b → ⊥
    by [] h w = none w
    by (x ∷ xs) h w = absurd (omega (arith, h.0))

via_more : (edges : List (ℕ × ℕ)) (k a b : ℕ) → OrNot (Via edges k a b) → OrNot (Via edges k a k)
    → OrNot (Via edges k k b) → OrNot (Via edges (suc k) a b)
via_more edges k a b (inl v) to from = inl (record { inner = v.inner; low = low_more k v.inner v.low; walk = v.walk })
via_more edges k a b (inr none) (inl v) (inl w) = inl (record {
  inner = v.inner ++ k ∷ w.inner;
  low = low_joined (suc k) k v.inner w.inner (omega arith) (low_more k v.inner v.low) (low_more k w.inner w.low);
  walk = walk_join edges a k b v.inner w.inner v.walk w.walk;
})
via_more edges k a b (inr none) (inr to) from =
    inr (λ v. elim (split edges k a b v.inner v.low v.walk) as (λ _. ⊥) [ inl w ↦ none w | inr w ↦ to w.0 ])
via_more edges k a b (inr none) (inl v) (inr from) =
    inr (λ u. elim (split edges k a b u.inner u.low u.walk) as (λ _. ⊥) [ inl w ↦ none w | inr w ↦ from w.1 ])

via_or_not : (edges : List (ℕ × ℕ)) (k a b : ℕ) → OrNot (Via edges k a b)
via_or_not edges zero a b = elim (depends_or_not edges a b) as (λ _. OrNot (Via edges 0 a b)) [
  | inl d ↦ inl (record { inner = []; low = tt; walk = d })
  | inr none ↦ inr (via_none edges a b none)
]
via_or_not edges (suc k) a b =
    via_more edges k a b (via_or_not edges k a b) (via_or_not edges k a k) (via_or_not edges k k b)

-- each inner item of a walk depends on something
inner_low : (n : ℕ) (edges : List (ℕ × ℕ)) → AreWithin n edges → (a b : ℕ) (xs : List ℕ) → IsWalk edges a xs b
    → AllByRecursion (λ x. x < n) xs
inner_low n edges ends a b [] w = tt
inner_low n edges ends a b (x ∷ xs) w = (walk_below n edges x b xs ends w.1, inner_low n edges ends x b xs w.1)

-- an item depends on itself, through others or not
abbrev Goes : List (ℕ × ℕ) → ℕ → Type 0
Goes edges x = (xs : List ℕ) × IsWalk edges x xs x

goes_or_not : (n : ℕ) (edges : List (ℕ × ℕ)) → AreWithin n edges → (x : ℕ) → OrNot (Goes edges x)
goes_or_not n edges ends x = elim (via_or_not edges n x x) as (λ _. OrNot (Goes edges x)) [
  | inl v ↦ inl (v.inner, v.walk)
  | inr none ↦ inr (λ g. none (record { inner = g.0; low = inner_low n edges ends x x g.0 g.1; walk = g.1 }))
]

-- the walk of so many inner items that is first as lists are sorted
record FirstWalk (edges : List (ℕ × ℕ)) (m a b : ℕ) : Type 0 where
  inner : List ℕ
  size : length inner ≡ m
  walk : IsWalk edges a inner b
  first : (ys : List ℕ) → length ys ≡ m → IsWalk edges a ys b → IsNoLater inner ys

-- there is one, or there is no walk of that size
abbrev NoWalk : List (ℕ × ℕ) → ℕ → ℕ → ℕ → Type 0
NoWalk edges m a b = (ys : List ℕ) → length ys ≡ m → ¬ IsWalk edges a ys b

abbrev Known : List (ℕ × ℕ) → ℕ → ℕ → ℕ → Type 0
Known edges m a b = FirstWalk edges m a b ⊎ NoWalk edges m a b

-- a dependency from which a walk of so many inner items goes on
abbrev GoesOn : List (ℕ × ℕ) → ℕ → ℕ → ℕ → ℕ → Type 0
GoesOn edges m a b x = DependsOn edges a x × FirstWalk edges m x b

goes_on_or_not : (edges : List (ℕ × ℕ)) (m a b : ℕ) → ((x : ℕ) → Known edges m x b) → (x : ℕ)
    → OrNot (GoesOn edges m a b x)
goes_on_or_not edges m a b known x = elim (known x) as (λ _. OrNot (GoesOn edges m a b x)) [
  | inl f ↦ elim (depends_or_not edges a x) as (λ _. OrNot (GoesOn edges m a b x)) [
    | inl d ↦ inl (d, f)
    | inr none ↦ inr (λ g. none g.0)
  ]
  | inr none ↦ inr (λ g. none g.1.inner g.1.size g.1.walk)
]

first_from : (edges : List (ℕ × ℕ)) (m x b : ℕ) (ys : List ℕ) → length ys ≡ m → IsWalk edges x ys b → Known edges m x b
    → FirstWalk edges m x b
first_from edges m x b ys e w (inl f) = f
first_from edges m x b ys e w (inr none) = absurd (none ys e w)

first_longer : (edges : List (ℕ × ℕ)) (m a b : ℕ) → ((x : ℕ) → Known edges m x b) → Least (GoesOn edges m a b)
    → FirstWalk edges (suc m) a b
first_longer edges m a b known l = record {
  inner = l.number ∷ l.holds.1.inner;
  size = ap suc l.holds.1.size;
  walk = (l.holds.0, l.holds.1.walk);
  first = λ ys e w. before ys e w;
}
  where
    before : (ys : List ℕ) → length ys ≡ suc m → IsWalk edges a ys b → IsNoLater (l.number ∷ l.holds.1.inner) ys
    before [] e w = absurd (omega arith)
    before (y ∷ ys) e w = elim (cases_lt l.number y) as (λ _. IsNoLater (l.number ∷ l.holds.1.inner) (y ∷ ys)) [
      | inl less ↦ inl less
      | inr more ↦ elim (cases_eq l.number y) as (λ _. IsNoLater (l.number ∷ l.holds.1.inner) (y ∷ ys)) [
        | inl same ↦
            let on : IsWalk edges l.number ys b = subst (λ (x : ℕ). IsWalk edges x ys b) (sym same) w.1 in
            inr (same, l.holds.1.first ys (omega arith) on)
        | inr ne ↦ absurd (l.least y (omega arith) (w.0, first_from edges m y b ys (omega arith) w.1 (known y)))
      ]
    ]

no_longer : (n : ℕ) (edges : List (ℕ × ℕ)) → AreWithin n edges → (m a b : ℕ) → ((x : ℕ) → Known edges m x b)
    → ((j : ℕ) → j < n → ¬ GoesOn edges m a b j) → NoWalk edges (suc m) a b
no_longer n edges ends m a b known none [] e w = absurd (omega arith)
no_longer n edges ends m a b known none (y ∷ ys) e w =
    none y (All-contains (λ (p : ℕ × ℕ). (p.0 < n) × (p.1 < n)) edges (a, y) ends w.0).1
    (w.0, first_from edges m y b ys (omega arith) w.1 (known y))

no_walk : (edges : List (ℕ × ℕ)) (a b : ℕ) → ¬ DependsOn edges a b → NoWalk edges 0 a b
no_walk edges a b none [] e w = none w
no_walk edges a b none (y ∷ ys) e w = absurd (omega arith)

first_walk : (n : ℕ) (edges : List (ℕ × ℕ)) → AreWithin n edges → (m a b : ℕ) → Known edges m a b
first_walk n edges ends zero a b = elim (depends_or_not edges a b) as (λ _. Known edges 0 a b) [
  | inl d ↦ inl (record { inner = []; size = refl; walk = d; first = λ ys e w. tt })
  | inr none ↦ inr (no_walk edges a b none)
]
first_walk n edges ends (suc m) a b = longer (λ x. first_walk n edges ends m x b)
  where
    longer : ((x : ℕ) → Known edges m x b) → Known edges (suc m) a b
    longer known =
        elim (least_below (GoesOn edges m a b) (goes_on_or_not edges m a b known) n) as (λ _. Known edges (suc m) a b) [
          | inl l ↦ inl (first_longer edges m a b known l)
          | inr none ↦ inr (no_longer n edges ends m a b known none)
        ]

some_or_not : (edges : List (ℕ × ℕ)) (m a b : ℕ) → Known edges m a b → OrNot (FirstWalk edges m a b)
some_or_not edges m a b (inl f) = inl f
some_or_not edges m a b (inr none) = inr (λ f. none f.inner f.size f.walk)

-- of the walks from an item to itself the shortest, and of those the first
shortest : (n : ℕ) (edges : List (ℕ × ℕ)) → AreWithin n edges → (x : ℕ) → Goes edges x
    → Least (λ m. FirstWalk edges m x x)
shortest n edges ends x g =
    least_of (λ m. FirstWalk edges m x x) (λ m. some_or_not edges m x x (first_walk n edges ends m x x)) (length g.0)
    (first_from edges (length g.0) x x g.0 refl g.1 (first_walk n edges ends (length g.0) x x))

first_by_search : (n : ℕ) (edges : List (ℕ × ℕ)) → AreWithin n edges → (l : Least (Goes edges))
    → (s : Least (λ m. FirstWalk edges m l.number l.number))
    → IsFirstFrom edges l.number s.holds.inner
first_by_search n edges ends l s = record {
  walk = s.holds.walk;
  none_below = λ y less ys w. l.least y less (ys, w);
  shortest = λ ys w. no_shorter ys w (cases_lt (length ys) (length s.holds.inner));
  earliest = λ ys w e. s.holds.first ys (e ∙ s.holds.size) w;
}
  where
    no_shorter : (ys : List ℕ) → IsWalk edges l.number ys l.number
        → (length ys < length s.holds.inner) ⊎ (length s.holds.inner ≤ length ys) → length s.holds.inner ≤ length ys
    no_shorter ys w (inl less) =
        absurd (s.least (length ys) (omega (arith, s.holds.size))
        (first_from edges (length ys) l.number l.number ys refl w
        (first_walk n edges ends (length ys) l.number l.number)))
    no_shorter ys w (inr more) = more

-- there is a first cycle, or none at all
abbrev FirstOrNone : List (ℕ × ℕ) → Type 0
FirstOrNone edges = ((cycle : List ℕ) × IsFirstCycle edges cycle) ⊎ ¬ HasCycle edges

first_or_none : (n : ℕ) (edges : List (ℕ × ℕ)) → AreWithin n edges → FirstOrNone edges
first_or_none n edges ends = elim (least_below (Goes edges) (goes_or_not n edges ends) n) as (λ _. FirstOrNone edges) [
  | inl l ↦
      let s = shortest n edges ends l.number l.holds in
      let first = first_by_search n edges ends l s in
      inl (l.number ∷ s.holds.inner, IsFirstCycle-from edges l.number s.holds.inner first)
  | inr none ↦ inr (λ h. no_cycle none h.0 h.1)
]
  where
    no_cycle : ((j : ℕ) → j < n → ¬ Goes edges j) → (cycle : List ℕ) → IsCycle edges cycle → ⊥
    no_cycle none [] c = c
    no_cycle none (x ∷ xs) c = none x (walk_below n edges x x xs ends c) (xs, c)

-- a number above all items
abbrev bound : List (ℕ × ℕ) → ℕ
bound [] = 0
bound (e ∷ edges) = e.0 + e.1 + 1 + bound edges

within : (n : ℕ) (edges : List (ℕ × ℕ)) → bound edges ≤ n → AreWithin n edges
within n [] l = All-nil (λ (e : ℕ × ℕ). (e.0 < n) × (e.1 < n))
within n (e ∷ edges) l =
    All-cons (λ (e : ℕ × ℕ). (e.0 < n) × (e.1 < n)) e edges (omega arith, omega arith) (within n edges (omega arith))

pub cycle_or_none : (edges : List (ℕ × ℕ)) → ((cycle : List ℕ) × IsFirstCycle edges cycle) ⊎ ¬ HasCycle edges
cycle_or_none edges = first_or_none (bound edges) edges (within (bound edges) edges (omega arith))
