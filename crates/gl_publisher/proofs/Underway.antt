-- The order while it is being made.
use Rattle.std.proofs.Common.{◌≡◌, ℕ, suc, ◌<◌, ◌≤◌, inl, inr, ◌==◌, ◌||◌, ◌&&◌, not, Bool, true, false, List, [], ◌∷◌, ◌++◌, length, get_or, map, refl, sym, ap, ◌∙◌, subst, arith}
use Rattle.std.specs.Prelude.{Contains, filter, count_by, IsPermutation, slice_index}
use Rattle.std.specs.Ordering.{nat_cmp, is_gt}
use Rattle.std.specs.BTreeMap.{is_at}
use Rattle.std.specs.BTreeSet.{BTreeSet, contains, IsLowerBound, Updates}
use Rattle.std.proofs.lemmas.Bool.{cases_lt, cases_eq, cases_Bool, and_parts, and_from, eqb-true, eq-eqb, not-true, not_from_false}
use Rattle.std.proofs.lemmas.Bool.Decides.{nat_tests}
use Rattle.std.proofs.lemmas.List.{get_or_default, get_or_past, get_or-take, length-take-le}
use Rattle.spec_order.specs.Edges.{DependsOn, AreWithin}
use Rattle.spec_order.specs.Order.{IsReady, IsNext, IsPrefix}
use Rattle.spec_order.specs.Cycle.{HasCycle}
use Rattle.spec_order.specs.DependencyOrder.{has}
use Rattle.spec_order.proofs.Members.{member, has-true, has-false}
use Rattle.spec_order.proofs.Acyclic.{no_descent, walk_below}
use Rattle.spec_order.proofs.Prefixes.{prefix_push, prefix_nil}
use Rattle.spec_order.proofs.Stuck.{cycle_from_stuck}
use Rattle.gl_publisher.specs.Waiting.{AreSettled, ends_with, is_free, Lowers, GainsFree}
use Rattle.gl_publisher.proofs.OpenCounts.{open_count, open_count_start, open_count_push, frees_from_count, count_from_frees, has_push_same, has_push_other, turn, ends_with_part}

-- These are placed, each number's open dependencies are counted, and the set holds those that are
-- not placed and have none.
pub record Underway (n : ℕ) (edges : List (ℕ × ℕ)) (placed counts : List ℕ) (free : BTreeSet ℕ) : Type 0 where
  pub prefix : IsPrefix n edges placed
  pub size : length counts ≡ n
  pub counted : (a : ℕ) → slice_index counts a ≡ open_count edges placed a
  pub ready : (a : ℕ) → contains nat_cmp free a ≡ (not (has placed a) && is_free counts a)

pub underway_start : (n : ℕ) (edges : List (ℕ × ℕ)) (counts : List ℕ) (free : BTreeSet ℕ) → length counts ≡ n → ((a : ℕ) → slice_index counts a ≡ count_by (λ e. e.0 == a) edges) → ((a : ℕ) → contains nat_cmp free a ≡ is_free counts a) → Underway n edges [] counts free
underway_start n edges counts free size counted ready = record {
  prefix = prefix_nil n edges;
  size = size;
  counted = λ a. counted a ∙ open_count_start edges a;
  ready = ready;
}

-- ---- what `is_free` says

free_within : (counts : List ℕ) (a : ℕ) → is_free counts a ≡ true → a < length counts
free_within counts a t =
    elim (cases_lt a (length counts)) as (λ _. a < length counts) [
      | inl l ↦ l
      | inr g ↦ absurd (omega (arith, get_or_past counts a 1 g, eqb-true (get_or counts a 1) 0 t))
    ]

free_zero : (counts : List ℕ) (a : ℕ) → is_free counts a ≡ true → slice_index counts a ≡ 0
free_zero counts a t =
    get_or_default counts a 0 1 (free_within counts a t) ∙ eqb-true (get_or counts a 1) 0 t

zero_free : (counts : List ℕ) (a : ℕ) → a < length counts → slice_index counts a ≡ 0 → is_free counts a ≡ true
zero_free counts a l z = eq-eqb (get_or counts a 1) 0 (get_or_default counts a 1 0 l ∙ z)

-- ---- tests

apart_at : (k a : ℕ) → (k ≡ a → ⊥) → is_at (nat_cmp k) a ≡ false
apart_at k a ne = grind (arith, nat_tests)

-- h: placed; f: free before; g: free after
by_cases : (h f g : Bool) → (f ≡ true → g ≡ true) → (h ≡ true → f ≡ true) → ((not h && f) || (not f && g)) ≡ (not h && g)
by_cases true true g stays placed = refl
by_cases true false g stays placed = let e = placed refl in cc
by_cases false true g stays placed = sym (stays refl)
by_cases false false g stays placed = refl

-- ---- what the set has is what may come next

module _ {n : ℕ} {edges : List (ℕ × ℕ)} {placed counts : List ℕ} {free : BTreeSet ℕ} (u : Underway n edges placed counts free) where
  ready_from_set : (a : ℕ) → contains nat_cmp free a ≡ true → (a < n) × IsReady edges placed a
  ready_from_set a t =
      let parts = and_parts (not (has placed a)) (is_free counts a) (sym (u.ready a) ∙ t) in
      let zero : open_count edges placed a ≡ 0 = sym (u.counted a) ∙ free_zero counts a parts.1 in (
        omega (arith, free_within counts a parts.1, u.size),
        record { waits = has-false placed a (not-true (has placed a) parts.0); free = frees_from_count edges placed a zero },
      )

  set_from_ready : (a : ℕ) → a < n → IsReady edges placed a → contains nat_cmp free a ≡ true
  set_from_ready a l r =
      let waits : has placed a ≡ false = elim (cases_Bool (has placed a)) as (λ _. has placed a ≡ false) [
        | inl t ↦ absurd (r.waits (has-true placed a t))
        | inr t ↦ t
      ] in
      let zero : slice_index counts a ≡ 0 = u.counted a ∙ count_from_frees edges placed a r.free in
      u.ready a ∙ and_from (not (has placed a)) (is_free counts a) (not_from_false (has placed a) waits) (zero_free counts a (omega (arith, u.size)) zero)

  -- the least of the set comes next
  pub next_from_least : (k : ℕ) → contains nat_cmp free k ≡ true → IsLowerBound nat_cmp free k → IsNext n edges placed k
  next_from_least k t low =
      let r = ready_from_set k t in
      record {
        below = r.0;
        ready = r.1;
        least = λ j l ready_j.
            let in_set = set_from_ready j (omega (arith, r.0)) ready_j in
            let above : is_gt (nat_cmp k j) ≡ false = low j in_set in
            gt_at k j l above;
      }
    where
      gt_at : (k j : ℕ) → j < k → is_gt (nat_cmp k j) ≡ false → ⊥
      gt_at k j l e = grind (arith, nat_tests)

  -- where the set is empty, all is placed or there is a cycle
  pub cycle_from_empty : AreWithin n edges → length placed < n → ((a : ℕ) → contains nat_cmp free a ≡ false) → HasCycle edges
  cycle_from_empty ends short none =
      cycle_from_stuck n edges placed ends short (λ j l r. let t = set_from_ready j l r in let f = none j in cc)

  -- a number that is placed has no open dependency
  placed_frees : (a : ℕ) → Contains placed a → (a < n) × (open_count edges placed a ≡ 0)
  placed_frees a c =
      let i = c.0 in
      let at_i : slice_index placed i ≡ a = get_or_default placed i 0 a c.1 ∙ c.2 in
      let next = u.prefix i c.1 in (
        subst (λ (x : ℕ). x < n) at_i next.below,
        count_from_frees edges placed a (λ b d.
            let m = next.ready.free b (subst (λ (x : ℕ). DependsOn edges x b) (sym at_i) d) in
            let size = length-take-le i placed (omega (arith, c.1)) in
            let lt : m.0 < i = omega (arith, m.1) in
            (m.0, omega (arith, c.1), sym (get_or-take i placed (m.0) b lt) ∙ m.2)),
      )

  -- the counts that are lowered where k is placed are high enough
  pub counts_enough : (pairs : List (ℕ × ℕ)) (k : ℕ) → IsPermutation (map turn edges) pairs → contains nat_cmp free k ≡ true → (a : ℕ) → ends_with (filter (λ p. p.0 == k) pairs) a ≤ slice_index counts a
  counts_enough pairs k perm t a =
      let parts = and_parts (not (has placed k)) (is_free counts k) (sym (u.ready k) ∙ t) in
      omega (arith, ends_with_part edges pairs k a perm, open_count_push edges placed k a (not-true (has placed k) parts.0), u.counted a)

  -- k is placed, and what waited for it alone is free
  pub underway_step : (pairs : List (ℕ × ℕ)) (k : ℕ) (later : List ℕ) (mid after : BTreeSet ℕ) → IsPermutation (map turn edges) pairs → contains nat_cmp free k ≡ true → IsLowerBound nat_cmp free k → Updates nat_cmp free mid k false → Lowers (filter (λ p. p.0 == k) pairs) counts later → GainsFree counts later mid after → Underway n edges (placed ++ k ∷ []) later after
  underway_step pairs k later mid after perm t low updates lowers gains = record {
    prefix = prefix_push n edges placed k u.prefix (next_from_least k t low);
    size = lowers.size ∙ u.size;
    counted = counted_later;
    ready = λ a. elim (cases_eq k a) as (λ _. contains nat_cmp after a ≡ (not (has (placed ++ k ∷ []) a) && is_free later a)) [
      | inl e ↦ subst (λ (x : ℕ). contains nat_cmp after x ≡ (not (has (placed ++ k ∷ []) x) && is_free later x)) e ready_k
      | inr ne ↦ ready_other a ne
    ];
  }
    where
      parts : (not (has placed k) ≡ true) × (is_free counts k ≡ true)
      parts = and_parts (not (has placed k)) (is_free counts k) (sym (u.ready k) ∙ t)

      counted_later : (a : ℕ) → slice_index later a ≡ open_count edges (placed ++ k ∷ []) a
      counted_later a =
          omega (arith, ends_with_part edges pairs k a perm, open_count_push edges placed k a (not-true (has placed k) parts.0), u.counted a, lowers.counts a)

      ready_k : contains nat_cmp after k ≡ (not (has (placed ++ k ∷ []) k) && is_free later k)
      ready_k =
          gains k ∙ (ap (λ b. b || (not (is_free counts k) && is_free later k)) updates.1
          ∙ (ap (λ b. not b && is_free later k) parts.1
          ∙ sym (ap (λ b. not b && is_free later k) (has_push_same placed k))))

      ready_other : (a : ℕ) → (k ≡ a → ⊥) → contains nat_cmp after a ≡ (not (has (placed ++ k ∷ []) a) && is_free later a)
      ready_other a ne =
          let kept : contains nat_cmp mid a ≡ (not (has placed a) && is_free counts a) = updates.2 a (apart_at k a ne) ∙ u.ready a in
          let same : has (placed ++ k ∷ []) a ≡ has placed a = has_push_other placed k a ne in
          gains a ∙ (ap (λ b. b || (not (is_free counts a) && is_free later a)) kept
          ∙ (by_cases (has placed a) (is_free counts a) (is_free later a) stays placed_free
          ∙ sym (ap (λ b. not b && is_free later a) same)))
        where
          stays : is_free counts a ≡ true → is_free later a ≡ true
          stays f = zero_free later a (omega (arith, free_within counts a f, lowers.size)) (omega (arith, free_zero counts a f, lowers.counts a))

          placed_free : has placed a ≡ true → is_free counts a ≡ true
          placed_free h =
              let p = placed_frees a (has-true placed a h) in
              zero_free counts a (omega (arith, p.0, u.size)) (u.counted a ∙ p.1)

  -- where the set is empty, a number with no open dependency is placed, so it is on no cycle
  pub settled_from_empty : AreWithin n edges → ((a : ℕ) → contains nat_cmp free a ≡ false) → AreSettled edges counts
  settled_from_empty ends none a zero xs w =
      let low : a < n = walk_below n edges a a xs ends w in
      let all_placed = frees_from_count edges placed a (sym (u.counted a) ∙ zero) in
      elim (member placed a) as (λ _. ⊥) [
        | inl c ↦
            let at_position : slice_index placed (c.0) ≡ a = get_or_default placed (c.0) 0 a c.1 ∙ c.2 in
            no_descent n edges placed u.prefix (suc (c.0)) (c.0) a xs (omega arith) (record { within = c.1; there = at_position }) w
        | inr lacks ↦
            let t = set_from_ready a low (record { waits = lacks; free = all_placed }) in
            let f = none a in
            cc
      ]
