-- Which classes changed elements touch, by their places in sorted order and the marks of the first members.
use Rattle.std.specs.Prelude.{◌≡◌, ◌≢◌, ◌==◌, ◌+◌, ◌-◌, ◌<◌, ◌≤◌, ℕ, suc, Bool, false, List, length, map, take, Option, Some, None, slice_get}
use Rattle.std.specs.List.{AllByRecursion}
use Rattle.std.specs.Option.{is_some}
use Rattle.spec_sorting.specs.Moves.{IsRising}
use Rattle.spec_sorting.proofs.SortedPositions.{In}
use Rattle.gl_barcode.specs.Bars.{count_shown}
use Rattle.gl_arranged.specs.declared.changed.Ranked.{Ranked}
use Rattle.gl_classes.specs.declared.touched.Touched.{Touched}

-- the number of the class of a sorted place, counted from 1
abbrev pub class_of : List Bool → ℕ → ℕ
class_of firsts place = count_shown (take (suc place) firsts)

abbrev pub places : List Ranked → List ℕ
places rs = map (λ r. r.place) rs

-- changed elements by rising sorted places, of a list whose first place begins a class
pub record AreChangedIn (firsts : List Bool) (ranked : List Ranked) : Type 0 where
  pub rise : IsRising 0 (places ranked)
  pub low : AllByRecursion (λ r. r.place < length firsts) ranked
  pub begins : (place : ℕ) → place < length firsts → 0 < class_of firsts place
  pub few : length firsts ≤ 2147483647
  pub few_ranked : length ranked ≤ 2147483647

-- so many of these elements, from the one at an index on, stand next to one another from a sorted place on
abbrev pub RunsOn : List Ranked → ℕ → ℕ → ℕ → Type 0
RunsOn ranked at start n =
    (k : ℕ) → k < n
    → (r : Ranked) × (slice_get ranked (at + k) ≡ Some r) × (r.place ≡ start + k)

-- the run ends before this place
pub record Stops (ranked : List Ranked) (at start end place : ℕ) : Type 0 where
  pub run : ℕ
  pub place_is : place ≡ start + run
  pub within : place < end
  pub runs : RunsOn ranked at start run
  pub other : (r : Ranked) → slice_get ranked (at + run) ≡ Some r → r.place ≢ place

-- the first place that isn't one of a changed element
abbrev pub IsRun : List Ranked → ℕ → ℕ → ℕ → Option ℕ → Type 0
IsRun ranked at start end None = RunsOn ranked at start (end - start)
IsRun ranked at start end (Some place) = Stops ranked at start end place

-- the elements from one index on and before another stand before a sorted place, and those after that don't
pub record IsEnd (ranked : List Ranked) (from place end : ℕ) : Type 0 where
  pub onward : from ≤ end
  pub within : end ≤ length ranked
  pub before : (k : ℕ) (r : Ranked) → from ≤ k → k < end → slice_get ranked k ≡ Some r → r.place < place
  pub after : (r : Ranked) → slice_get ranked end ≡ Some r → place ≤ r.place

-- the sorted places of a class
pub record IsSpan (firsts : List Bool) (class start end : ℕ) : Type 0 where
  pub starts : start < end
  pub ends : end ≤ length firsts
  pub inside : (place : ℕ) → start ≤ place → place < end → class_of firsts place ≡ suc class
  pub before : (place : ℕ) → place < start → class_of firsts place ≤ class
  pub after : (place : ℕ) → end ≤ place → place < length firsts → suc class < class_of firsts place

-- the class of the next changed element, and which element is the next of another class
pub record IsNext (firsts : List Bool) (ranked : List Ranked) (at : ℕ) (t : Touched)
    (next : ℕ) : Type 0 where
  pub one : Ranked
  pub here : slice_get ranked at ≡ Some one
  pub start : ℕ
  pub end : ℕ
  pub span : IsSpan firsts t.class start end
  pub from : start ≤ one.place
  pub below : one.place < end
  pub source_is : t.source ≡ one.source
  pub first_is : t.first ≡ (start == one.place)
  pub plain_is : IsRun ranked at start end t.plain
  pub stays_is : t.stays ≡ is_some t.plain
  pub next_is : IsEnd ranked at end next

-- the first member of a class that isn't changed; all are, where there is none
abbrev pub IsPlain : List Bool → List ℕ → ℕ → Option ℕ → Type 0
IsPlain firsts changed class None =
    (place : ℕ) → place < length firsts → class_of firsts place ≡ suc class → In place changed
IsPlain firsts changed class (Some plain) =
    (plain < length firsts) × (class_of firsts plain ≡ suc class) × (In plain changed → ⊥)
    × ((place : ℕ) → class_of firsts place ≡ suc class → place < plain → In place changed)

-- a class with a changed member
pub record IsTouched (firsts : List Bool) (ranked : List Ranked) (t : Touched) : Type 0 where
  pub one : Ranked
  pub index : ℕ
  pub here : slice_get ranked index ≡ Some one
  pub source_is : t.source ≡ one.source
  pub class_is : class_of firsts one.place ≡ suc t.class
  pub start : ℕ
  pub start_low : start ≤ one.place
  pub start_class : class_of firsts start ≡ suc t.class
  pub start_first : (place : ℕ) → place < start → class_of firsts place ≤ t.class
  pub first_is : t.first ≡ (start == one.place)
  pub start_plain : t.first ≡ false → In start (places ranked) → ⊥
  pub plain_is : IsPlain firsts (places ranked) t.class t.plain
  pub stays_is : t.stays ≡ is_some t.plain

-- the classes with changed members, in key order
pub record AreTouched (firsts : List Bool) (ranked : List Ranked)
    (touched : List Touched) : Type 0 where
  pub rise : IsRising 0 (map (λ t. t.class) touched)
  pub few : length touched ≤ length ranked
  pub each : AllByRecursion (IsTouched firsts ranked) touched
  pub all : (place k : ℕ) → In place (places ranked) → class_of firsts place ≡ suc k
      → In k (map (λ t. t.class) touched)
