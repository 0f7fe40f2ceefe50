-- Changed elements that stand next to one another in sorted order.
use Rattle.std.proofs.Common.{◌≡◌, ◌≢◌, ◌∙◌, ℕ, ◌+◌, ◌-◌, ◌<◌, ◌≤◌, List, length, get_or, ap, sym, arith, inl, inr}
use Rattle.std.specs.Prelude.{Some, slice_get}
use Rattle.std.proofs.lemmas.Bool.{cases_lt}
use Rattle.std.proofs.lemmas.Option.{slice_get_within, slice_get-get_or}
use Rattle.gl_arranged.specs.declared.changed.Ranked.{Ranked}
use Rattle.gl_classes.specs.Touching.{RunsOn, Stops}

-- what is read at an index
pub read_is : (ranked : List Ranked) (at : ℕ) (r d : Ranked) → slice_get ranked at ≡ Some r → get_or ranked at d ≡ r
read_is ranked at r d here =
    same _ _ (sym (slice_get-get_or ranked at d (slice_get_within ranked at r here)) ∙ here)
  where
    same : (a b : Ranked) → Some a ≡ Some b → a ≡ b
    same a b e = cc

-- one more
pub run_more : (ranked : List Ranked) (from start at place : ℕ) → start ≤ place → at + start ≡ from + place → RunsOn ranked from start (place - start)
    → (r : Ranked) → slice_get ranked at ≡ Some r → r.place ≡ place → RunsOn ranked from start (place + 1 - start)
run_more ranked from start at place low at_is runs r here is =
    λ k less.
    elim (cases_lt k (place - start)) [
      | inl before ↦ runs k before
      | inr level ↦
          let k_is : from + k ≡ at = omega (arith, level, less, low, at_is) in
          (r, ap (slice_get ranked) k_is ∙ here, omega (arith, is, level, less, low))
    ]

-- the run ends where another element is next
pub stops_at : (ranked : List Ranked) (from start end at place : ℕ) → start ≤ place → at + start ≡ from + place → RunsOn ranked from start (place - start)
    → place < end → ((r : Ranked) → slice_get ranked at ≡ Some r → r.place ≢ place) → Stops ranked from start end place
stops_at ranked from start end at place low at_is runs less other = record {
  run = place - start;
  place_is = omega (arith, low);
  within = less;
  runs = runs;
  other = λ r here. let is : from + (place - start) ≡ at = omega (arith, low, at_is) in other r (ap (slice_get ranked) (sym is) ∙ here);
}

-- and where none is left
pub stops_end : (ranked : List Ranked) (from start end at place : ℕ) → start ≤ place → at + start ≡ from + place → RunsOn ranked from start (place - start)
    → place < end → length ranked ≤ at → Stops ranked from start end place
stops_end ranked from start end at place low at_is runs less past =
    stops_at ranked from start end at place low at_is runs less (λ r here. absurd (let within = slice_get_within ranked at r here in omega (arith, within, past)))
