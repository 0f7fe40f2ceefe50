-- Which touched classes of the old list those of the new list meet.
use Rattle.std.specs.Prelude.{◌≡◌, ◌≢◌, ◌≤◌, ◌<◌, ◌&&◌, ◌||◌, ℕ, Bool, not, List, length, map, Option, Some, None, slice_get}
use Rattle.std.specs.List.{list_any, AllByRecursion}
use Rattle.std.specs.declared.cmp.Ordering.TheVariants.{Less, Equal}
use Rattle.spec_sorting.specs.Tree.{Tree}
use Rattle.spec_sorting.specs.Source.{element_at}
use Rattle.spec_sorting.specs.Arrangement.{Comparison}
use Rattle.spec_classes.specs.Classes.{has_key_of}
use Rattle.gl_classes.specs.OldValues.{IsOldValue}
use Rattle.spec_sorting.specs.Delta.{Delta}
use Rattle.gl_classes.specs.declared.touched.Touched.{Touched}

-- touched classes of the old list, whose keys rise, and of whose changed members the delta has the old values
pub record AreOlds (compare : Comparison) (xs : List Tree) (d : Delta)
    (olds : List Touched) : Type 0 where
  pub values : AllByRecursion (λ t. IsOldValue d t.source) olds
  pub rise : (p q : ℕ) (t u : Touched) → p < q → slice_get olds p ≡ Some t
      → slice_get olds q ≡ Some u
      → compare (element_at xs t.source) (element_at xs u.source) ≡ Less

-- of those from one index on and before another, the one of the key of a new element
abbrev pub IsMet : Comparison → List Tree → List Tree → List Touched → ℕ → ℕ → ℕ → Option ℕ → Type 0
IsMet compare xs ys olds low high new None =
    (k : ℕ) (t : Touched) → low ≤ k → k < high → slice_get olds k ≡ Some t
    → compare (element_at xs t.source) (element_at ys new) ≢ Equal
IsMet compare xs ys olds low high new (Some k) =
    (low ≤ k) × (k < high) × (t : Touched) × (slice_get olds k ≡ Some t)
    × (compare (element_at xs t.source) (element_at ys new) ≡ Equal)

-- whether two touched classes have one key
abbrev pub meets : Comparison → List Tree → List Tree → Touched → Touched → Bool
meets compare xs ys t u = has_key_of compare xs ys t.source u.source

-- a touched class, which stays if this holds too
abbrev pub stays_if : Touched → Bool → Touched
stays_if t more = record {
  class = t.class;
  source = t.source;
  first = t.first;
  plain = t.plain;
  stays = t.stays || more;
}

-- those of the old list, once those of the new one without a member that isn't changed have met them
abbrev pub met_olds : Comparison → List Tree → List Tree → List Touched → List Touched → List Touched
met_olds compare xs ys olds news =
    map (λ t. stays_if t (list_any (λ u. not u.stays && meets compare xs ys t u) news)) olds

-- one of these met them
abbrev pub met_one : Comparison → List Tree → List Tree → List Touched → Touched → List Touched
met_one compare xs ys olds u =
    map (λ t. stays_if t (not u.stays && meets compare xs ys t u)) olds

abbrev pub met_new : Comparison → List Tree → List Tree → List Touched → Touched → Touched
met_new compare xs ys olds u = stays_if u (list_any (λ t. meets compare xs ys t u) olds)

abbrev pub met_news : Comparison → List Tree → List Tree → List Touched → List Touched → List Touched
met_news compare xs ys olds news =
    map (λ u. stays_if u (list_any (λ t. meets compare xs ys t u) olds)) news

-- touched classes of the new list
abbrev pub AreNews : List Tree → List Touched → Type 0
AreNews ys news = AllByRecursion (λ u. u.source < length ys) news
