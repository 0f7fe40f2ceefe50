use Rattle.std.proofs.Common.{◌≡◌, ◌==◌, ℕ, ◌<◌, ◌≤◌, length, List, [], ◌∷◌, ◌++◌, true, false, map, filter, inl, inr, sym, ap, ◌∙◌, subst, arith, rules, length-append}
use Rattle.std.specs.Prelude.{IsPermutation, slice_index, All, vec_len}
use Rattle.std.specs.List.{list_any}
use Rattle.std.specs.BTreeMap.{is_at}
use Rattle.std.specs.Ordering.{nat_cmp}
use Rattle.std.specs.BTreeSet.{BTreeSet, contains, IsLowerBound, Updates}
use Rattle.std.proofs.lemmas.Bool.{cases_lt, false≢true}
use Rattle.std.proofs.lemmas.List.{nil_from_length}
use Rattle.spec_order.proofs.Acyclic.{acyclic_from_IsOrder}
use Rattle.spec_order.proofs.Exists.{order_exists, dependency_order-from_IsOrder}
use Rattle.gl_publisher.specs.Waiting.{AreSettled, ends_with, is_free, Lowers, GainsFree}
use Rattle.gl_publisher.proofs.OpenCounts.{turn, part_within}
use Rattle.gl_publisher.proofs.Underway.{Underway, underway_start, underway_step, counts_enough, cycle_from_empty, settled_from_empty}
use Rattle.gl_publisher.proofs.dependency_order.order.Goals as goal

pub loop-position-init : goal.loop-position-init
loop-position-init c =
    let n = c.args.n in
    let edges = c.args.edges.now in
    let counts = c.in_ok-counts.counts in
    let size : length counts.items ≡ n = search rules in
    let counted = c.in_ok-counts.ensures.counted in
    let ready' : (a : ℕ) → contains nat_cmp c.in_ok-free.free a ≡ is_free counts.items a = λ a. c.in_ok-free.ensures a ∙ ap (λ xs. is_free xs a) c.as_slice.ensures.value in
    record { here = search rules; underway = subst (λ (placed : List ℕ). Underway n edges placed counts.items c.in_ok-free.free) (sym c.new-placed.ensures) (underway_start n edges counts.items c.in_ok-free.free size counted ready') }

-- a set from which nothing pops has nothing
none_in : (free : BTreeSet ℕ) → (0 < length free.keys → false ≡ true) → (a : ℕ) → contains nat_cmp free a ≡ false
none_in free h a =
    elim (cases_lt 0 (length free.keys)) as (λ _. contains nat_cmp free a ≡ false) [
      | inl some ↦ absurd (false≢true (h some))
      | inr none ↦ ap (list_any (is_at (nat_cmp a))) (nil_from_length free.keys (omega arith))
    ]

pub first_cycle-requires-clause-cyclic : goal.first_cycle-requires-clause-cyclic
first_cycle-requires-clause-cyclic c =
    cycle_from_empty c.loop-position.invariant.underway c.requires (omega (arith, c.loop-position.invariant.here, c.loop-position-test.true))
    (none_in c.loop-position.free c.in_default.ensures.variant.1)

pub release-requires-clause-within : goal.release-requires-clause-within
release-requires-clause-within c =
    let perm : IsPermutation (map turn c.args.edges.now) c.new-dependents.result = search rules in
    let part : c.of.result.now ≡ filter (λ p. p.0 == c.in-Some.next) c.new-dependents.result = search rules in
    let size : vec_len c.loop-position.counts ≡ c.args.n = omega (arith, c.loop-position.invariant.underway.size, c.loop-position.counts.ok.0) in
    subst (λ (m : ℕ). All (λ p. p.1 < m) c.of.result.now) (sym size)
    (subst (λ (ps : List (ℕ × ℕ)). All (λ p. p.1 < c.args.n) ps) (sym part)
    (part_within c.args.n c.args.edges.now c.new-dependents.result c.in-Some.next c.requires perm))

pub release-requires-clause-counted : goal.release-requires-clause-counted
release-requires-clause-counted c = λ a.
    let perm : IsPermutation (map turn c.args.edges.now) c.new-dependents.result = search rules in
    let part : c.of.result.now ≡ filter (λ p. p.0 == c.in-Some.next) c.new-dependents.result = search rules in
    let member : contains nat_cmp c.loop-position.free c.in-Some.next ≡ true = search rules in
    subst (λ (ps : List (ℕ × ℕ)). ends_with ps a ≤ slice_index c.loop-position.counts.items a) (sym part)
    (counts_enough c.loop-position.invariant.underway c.new-dependents.result c.in-Some.next perm member a)

pub loop-position-preserved : goal.loop-position-preserved
loop-position-preserved c =
    let u = c.loop-position.invariant.underway in
    let pushed : c.push.new.self ≡ c.loop-position.placed ++ c.in-Some.next ∷ [] = search rules in
    let member : contains nat_cmp c.loop-position.free c.in-Some.next ≡ true = search rules in
    let least : IsLowerBound nat_cmp c.loop-position.free c.in-Some.next = search rules in
    let updates : Updates nat_cmp c.loop-position.free c.pop_first.new.self c.in-Some.next false = search rules in
    let perm : IsPermutation (map turn c.args.edges.now) c.new-dependents.result = search rules in
    let part : c.of.result.now ≡ filter (λ p. p.0 == c.in-Some.next) c.new-dependents.result = search rules in
    let lowers : Lowers c.of.result.now c.loop-position.counts.items c.release.new.counts.items = search rules in
    let gains : GainsFree c.loop-position.counts.items c.release.new.counts.items c.pop_first.new.self c.release.new.free = search rules in
    record {
      here = omega (arith, ap length pushed, length-append c.loop-position.placed (c.in-Some.next ∷ []), c.loop-position.invariant.here);
      underway =
          subst (λ (placed : List ℕ). Underway c.args.n c.args.edges.now placed c.release.new.counts.items c.release.new.free) (sym pushed)
          (underway_step u c.new-dependents.result c.in-Some.next c.release.new.counts.items c.pop_first.new.self c.release.new.free perm member least updates
          (subst (λ (ps : List (ℕ × ℕ)). Lowers ps c.loop-position.counts.items c.release.new.counts.items) part lowers) gains);
    }

pub returns-clause-acyclic : goal.returns-clause-acyclic
returns-clause-acyclic c =
    let u = c.loop-position.invariant.underway in
    let whole : length c.loop-position.placed ≡ c.args.n = omega (arith, c.loop-position.invariant.here) in
    acyclic_from_IsOrder c.args.n c.args.edges.now c.loop-position.placed c.requires (record { whole = whole; prefix = u.prefix })

pub first_cycle-requires-clause-settled : goal.first_cycle-requires-clause-settled
first_cycle-requires-clause-settled c =
    subst (λ (counts : List ℕ). AreSettled c.args.edges.now counts) (sym c.deref.ensures.value)
    (settled_from_empty c.loop-position.invariant.underway c.requires (none_in c.loop-position.free c.in_default.ensures.variant.1))

pub returns-clause-computed : goal.returns-clause-computed
returns-clause-computed c =
    let whole : length c.loop-position.placed ≡ c.args.n = omega (arith, c.loop-position.invariant.here) in
    dependency_order-from_IsOrder c.args.n c.args.edges.now c.loop-position.placed c.requires (record { whole = whole; prefix = c.loop-position.invariant.underway.prefix })

-- ---- the law on orders and cycles, which holds whatever is answered

pub returns-in_err-reversed-clause-exists : goal.returns-in_err-reversed-clause-exists
returns-in_err-reversed-clause-exists c = order_exists c.args.n c.args.edges.now c.requires

pub returns-in_err-counts-clause-exists : goal.returns-in_err-counts-clause-exists
returns-in_err-counts-clause-exists c = order_exists c.args.n c.args.edges.now c.requires

pub returns-in_err-free-clause-exists : goal.returns-in_err-free-clause-exists
returns-in_err-free-clause-exists c = order_exists c.args.n c.args.edges.now c.requires

pub returns-in_err-first_cycle-clause-exists : goal.returns-in_err-first_cycle-clause-exists
returns-in_err-first_cycle-clause-exists c = order_exists c.args.n c.args.edges.now c.requires

pub returns-in_default-clause-exists : goal.returns-in_default-clause-exists
returns-in_default-clause-exists c = order_exists c.args.n c.args.edges.now c.requires

pub returns-in_err-release-clause-exists : goal.returns-in_err-release-clause-exists
returns-in_err-release-clause-exists c = order_exists c.args.n c.args.edges.now c.requires

pub returns-in_err-map_err-clause-exists : goal.returns-in_err-map_err-clause-exists
returns-in_err-map_err-clause-exists c = order_exists c.args.n c.args.edges.now c.requires

pub returns-clause-exists : goal.returns-clause-exists
returns-clause-exists c = order_exists c.args.n c.args.edges.now c.requires
