-- What a run keeps from entry to entry.
use Rattle.std.proofs.Common.{◌≡◌, ◌∙◌, ℕ, suc, ◌+◌, ◌++◌, List, [], ◌∷◌, fold, refl, arith, append_assoc, length, true, false, cond, rules}
use Rattle.std.proofs.lemmas.List.{length_push}
use Rattle.std.proofs.lemmas.List.Sums.{fold_push}
use Rattle.gl_outside.specs.declared.gate.Actor.{Actor}
use Rattle.spec_plans.specs.Plan.{Plan}
use Rattle.spec_runs.specs.Telling.{tellings}
use Rattle.spec_runs.specs.Entry.{taken_by, is_writer, Outcome, outcome, next_deed, queued}
use Rattle.spec_runs.specs.Run.{Run, run, start, entry}

-- the run of an order with one actor more is that of the order and one entry more
pub run_more : (p : Plan) (order : List Actor) (a : Actor)
    → run p (order ++ a ∷ []) ≡ entry p (run p order) a
run_more p order a = fold_push (entry p) (start p) order a

-- a fold over entries writes down the order that it takes
pub order_from : (p : Plan) (r : Run) (order : List Actor)
    → (fold (entry p) r order).order ≡ r.order ++ order
order_from p r [] = search rules
order_from p r (a ∷ order) = order_from p (entry p r a) order ∙ append_assoc r.order (a ∷ []) order

pub order_of_run : (p : Plan) (order : List Actor) → (run p order).order ≡ order
order_of_run p order = order_from p (start p) order

-- one actor more counts for itself alone
pub taken_more : (writer : ℕ) (order : List Actor) (a : Actor)
    → taken_by writer (order ++ a ∷ []) ≡ taken_by writer order + taken_by writer (a ∷ [])
taken_more writer [] a = omega arith
taken_more writer (b ∷ order) a = elim (is_writer writer b) as (λ v.
    cond v (suc (taken_by writer (order ++ a ∷ []))) (taken_by writer (order ++ a ∷ []))
    ≡ cond v (suc (taken_by writer order)) (taken_by writer order) + taken_by writer (a ∷ [])) [
      | true ↦ omega (arith, taken_more writer order a)
      | false ↦ taken_more writer order a
    ]

-- each entry has its replies
replies_from : (p : Plan) (r : Run) (order : List Actor)
    → length (fold (entry p) r order).replies ≡ length r.replies + length order
replies_from p r [] = omega arith
replies_from p r (a ∷ order) =
    replies_from p (entry p r a) order
    ∙ omega (arith, length_push r.replies (outcome p.limit r.state (next_deed p r.order a)).replies)

pub length-replies : (p : Plan) (order : List Actor) → length (run p order).replies ≡ length order
length-replies p order = replies_from p (start p) order ∙ omega arith

-- what comes of an actor's next entry after an order
abbrev pub outcome_after : Plan → List Actor → Actor → Outcome
outcome_after p order a = outcome p.limit (run p order).state (next_deed p order a)

-- one entry more: its state, and its replies after the others
pub state_more : (p : Plan) (order : List Actor) (a : Actor)
    → (run p (order ++ a ∷ [])).state
    ≡ queued (outcome_after p order a).deltas (outcome_after p order a).state
state_more p order a = rw (run_more p order a, order_of_run p order) refl

pub replies_more : (p : Plan) (order : List Actor) (a : Actor)
    → (run p (order ++ a ∷ [])).replies
    ≡ (run p order).replies ++ (outcome_after p order a).replies ∷ []
replies_more p order a = rw (run_more p order a, order_of_run p order) refl

-- and its tellings after all others
pub told_more : (p : Plan) (order : List Actor) (a : Actor)
    → (run p (order ++ a ∷ [])).told
    ≡ (run p order).told ++ tellings p (length order) (outcome_after p order a).deltas
told_more p order a = rw (run_more p order a, order_of_run p order) refl
