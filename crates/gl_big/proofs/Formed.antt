-- The large plan is well formed, none of its lists depends on itself, and it is within the limits of the language.
use Rattle.std.proofs.Common.{◌≡◌, ◌*◌, ◌%◌, ◌+◌, ◌<◌, ◌≤◌, ℕ, zero, suc, List, [], ◌∷◌, ◌++◌, map, refl, arith}
use Rattle.std.specs.Prelude.{◌==◌, length, pos, codes, bytes_eq, flat_map, None, Some, All, FitsSigned}
use Rattle.std.specs.Int.{w64}
use Rattle.std.specs.List.{range_with_len, AllByRecursion, IsDistinct}
use Rattle.std.proofs.lemmas.Nat.{mod_below}
use Rattle.std.proofs.lemmas.List.Elements.{All-contains, All-from_recursion, All-nil}
use Rattle.spec_basics.proofs.Lists.{all_append}
use Rattle.spec_order.specs.Edges.{DependsOn}
use Rattle.spec_order.specs.Cycle.{IsWalk, IsCycle, HasCycle}
use Rattle.gl_lines.specs.declared.plan.Command.{Command}
use Rattle.gl_lines.specs.declared.plan.ListDecl.{ListDecl}
use Rattle.gl_lines.specs.declared.plan.ListenerDecl.{ListenerDecl}
use Rattle.spec_plans.specs.declared.class.ListClass.{ListClass}
use Rattle.spec_plans.specs.declared.class.ListClass.TheVariants.{Edited, Pumped}
use Rattle.spec_plans.specs.Cycles.{IsAcyclic}
use Rattle.spec_plans.specs.Plan.{list_edges, listener_edges, origin}
use Rattle.spec_plans.specs.WellFormed.{IsWellFormed, HasList, HasInputs, HasHeard, IsAttachable, class_at, needed_class, all_commands}
use Rattle.spec_plan_texts.proofs.Good.{IsGoodCommand, IsGood}
use Rattle.spec_syntax.specs.Proper.{IsPath, IsOrder}
use Rattle.spec_lines.specs.Within.{IsLiteral}
use Rattle.spec_reports.specs.Big.{element, upwards, big_section, big_plan}
use Rattle.gl_big.proofs.Counting.{all_counted}

-- ---- no cycle: each item depends on lower ones alone

abbrev Falls : ℕ × ℕ → Type 0
Falls e = e.1 < e.0

module _ (edges : List (ℕ × ℕ)) (all : AllByRecursion Falls edges) where
  edge_falls : (a b : ℕ) → DependsOn edges a b → b < a
  edge_falls a b d = All-contains Falls edges (a, b) (All-from_recursion Falls edges all) d

  walk_falls : (a : ℕ) (through : List ℕ) (b : ℕ) → IsWalk edges a through b → b < a
  walk_falls a [] b w = edge_falls a b w
  walk_falls a (x ∷ xs) b w = omega (arith, edge_falls a x w.0, walk_falls x xs b w.1)

  no_round : (cycle : List ℕ) → IsCycle edges cycle → ⊥
  no_round [] h = h
  no_round (x ∷ xs) h = omega (arith, walk_falls x xs x h)

lists_fall : (n : ℕ) → AllByRecursion Falls (list_edges (big_plan n))
lists_fall n =
    (omega arith, (omega arith, (omega arith, (omega arith, (omega arith, (omega arith, (omega arith, tt)))))))

pub big_acyclic : (n : ℕ) → IsAcyclic (big_plan n)
big_acyclic n = record {
  lists = λ h. no_round (list_edges (big_plan n)) (lists_fall n) h.0 h.1;
  listeners = λ h. no_round (listener_edges (big_plan n)) tt h.0 h.1;
}

-- ---- well formed

lists_apart :
    IsDistinct bytes_eq
    (codes "s" ∷ codes "f" ∷ codes "o" ∷ codes "u" ∷ codes "g" ∷ codes "n" ∷ codes "c" ∷ [])
unfolding IsDistinct
lists_apart = (
  (refl, (refl, (refl, (refl, (refl, (refl, tt)))))),
  (
    (refl, (refl, (refl, (refl, (refl, tt))))),
    (
      (refl, (refl, (refl, (refl, tt)))),
      (
        (refl, (refl, (refl, tt))),
        (
          (refl, (refl, tt)),
          (
            (refl, tt),
            (
              tt,
              tt,
            ),
          ),
        ),
      ),
    ),
  ),
)

listeners_apart : IsDistinct bytes_eq (codes "a" ∷ codes "b" ∷ [])
unfolding IsDistinct
listeners_apart = ((refl, tt), (tt, tt))

none_apart : IsDistinct (λ a b. a == b) []
unfolding IsDistinct
none_apart = tt

no_pump : (n k : ℕ) → class_at (big_plan n) k ≡ Some Pumped → ⊥
no_pump n zero e = cc
no_pump n (suc zero) e = cc
no_pump n (suc (suc zero)) e = cc
no_pump n (suc (suc (suc zero))) e = cc
no_pump n (suc (suc (suc (suc zero)))) e = cc
no_pump n (suc (suc (suc (suc (suc zero))))) e = cc
no_pump n (suc (suc (suc (suc (suc (suc zero)))))) e = cc
no_pump n (suc (suc (suc (suc (suc (suc (suc k))))))) e = cc

flat_all : (P : Command → Type 0) (sections : List (List Command)) → AllByRecursion (AllByRecursion P) sections
    → AllByRecursion P (flat_map (λ section. section) sections)
flat_all P [] h = tt
flat_all P (section ∷ sections) h =
    all_append P section (flat_map (λ s. s) sections) h.0 (flat_all P sections h.1)

-- what each command of each section has, all commands have
all_big : (n : ℕ) (P : Command → Type 0) → ((j : ℕ) → j < n → AllByRecursion P (big_section n j))
    → AllByRecursion P (all_commands (big_plan n))
all_big n P h =
    let sections : List (List Command) = map (big_section n) (range_with_len 0 n) in
    all_append P (flat_map (λ s. s) sections) []
    (flat_all P sections (all_counted (AllByRecursion P) (big_section n) 0 n n (omega arith) h)) tt

inputs_there : (n : ℕ) → AllByRecursion (λ (d : ListDecl). HasInputs (big_plan n) d.kind) (big_plan n).lists
inputs_there n =
    let at : (k : ℕ) → k < 7 → HasList (big_plan n) None k = λ k l. l in
    let one : (k : ℕ) → k < 7 → All (HasList (big_plan n) None) (k ∷ []) =
    λ k l. All-from_recursion (HasList (big_plan n) None) (k ∷ []) (at k l, tt) in
    let two : All (HasList (big_plan n) None) (2 ∷ 3 ∷ []) =
    All-from_recursion (HasList (big_plan n) None) (2 ∷ 3 ∷ []) (at 2 (omega arith), (at 3 (omega arith), tt)) in (
      All-nil (HasList (big_plan n) None),
      (
        one 0 (omega arith),
        (
          one 1 (omega arith),
          (
            one 0 (omega arith),
            (
              one 0 (omega arith),
              (
                one 4 (omega arith),
                (
                  two,
                  tt,
                ),
              ),
            ),
          ),
        ),
      ),
    )

pub big_formed : (n : ℕ) → IsWellFormed (big_plan n)
big_formed n = record {
  list_names = lists_apart;
  listener_names = listeners_apart;
  inputs = All-from_recursion (λ (d : ListDecl). HasInputs (big_plan n) d.kind) (big_plan n).lists (inputs_there n);
  heard = All-from_recursion (HasHeard (big_plan n)) (big_plan n).listeners (
    record { list = omega arith; after = All-nil (λ k. k < length (big_plan n).listeners) },
    (record { list = omega arith; after = All-nil (λ k. k < length (big_plan n).listeners) }, tt),
  );
  commanded = All-from_recursion (λ (c : Command). HasList (big_plan n) (needed_class c) (origin c))
      (all_commands (big_plan n))
      (all_big n (λ (c : Command). HasList (big_plan n) (needed_class c) (origin c)) (λ j l. (refl, (refl, (refl, tt)))));
  attached = All-from_recursion (IsAttachable (big_plan n)) (all_commands (big_plan n))
      (all_big n (IsAttachable (big_plan n)) (λ j l. (tt, (tt, (tt, tt)))));
  one_transaction = none_apart;
  no_proxies = λ a b shuns pumped way. no_pump n b pumped;
  few_lists = omega arith;
  few_listeners = omega arith;
  few_writers = omega arith;
}

-- ---- within the limits

fits : (a : ℕ) → a < 101 → FitsSigned w64 (pos a)
fits a l = omega (arith, l)

literal : (a b : ℕ) → a < 101 → b < 101 → IsLiteral (element a b)
literal a b l m = ((fits a l, (fits b m, tt)), omega arith)

pair_of : (x j : ℕ) → IsLiteral (element (x % 101) (j % 7))
pair_of x j =
    literal (x % 101) (j % 7) (mod_below x 101 (omega arith)) (omega (arith, mod_below j 7 (omega arith)))

section_good : (n j : ℕ) → n ≤ 4294967295 → j < n → AllByRecursion IsGoodCommand (big_section n j)
section_good n j few l = (
  (omega (arith, mod_below (13 * j) n (omega (arith, l)), few), pair_of (41 * j) j),
  (pair_of (53 * j) j, (omega (arith, mod_below (29 * j) n (omega (arith, l)), few), tt)),
)

one_step : (k : ℕ) → k ≤ 1 → IsPath (k ∷ [])
one_step k l = (omega arith, (omega (arith, l), tt))

by_first : IsOrder (upwards 0 ∷ [])
by_first = (omega arith, omega arith, (one_step 0 (omega arith), tt))

pub big_good : (n : ℕ) → n ≤ 4294967295 → IsGood (big_plan n)
big_good n few = record {
  limit = (omega arith, omega arith);
  lists = (
    (refl, all_counted IsLiteral (λ k. element ((37 * k) % 101) (k % 7)) 0 n n (omega arith) (λ k l. pair_of (37 * k) k)),
    (
      (refl, ((one_step 0 (omega arith), fits 50 (omega arith), omega arith), omega arith)),
      (
        (refl, (omega arith, omega arith, (one_step 0 (omega arith), (one_step 1 (omega arith), tt)))),
        ((refl, by_first), ((refl, by_first), ((refl, (omega arith, tt)), ((refl, tt), tt)))),
      ),
    ),
  );
  listeners = (refl, (refl, tt));
  commands = (
    all_counted (AllByRecursion IsGoodCommand) (big_section n) 0 n n (omega arith) (λ j l. section_good n j few l),
    tt,
  );
}
