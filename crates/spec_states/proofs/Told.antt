-- What is told of each list in a wave, by what is told of its inputs and by where the wave begins.
use Rattle.std.proofs.Common.{◌≡◌, ◌∙◌, ℕ, ◌<◌, true, false, List, [], ◌∷◌, length, refl, ap, sym}
use Rattle.std.specs.Prelude.{Option, Some, None}
use Rattle.std.specs.List.{Contains}
use Rattle.std.proofs.lemmas.Bool.{eqb-true, eqb-false}
use Rattle.std.proofs.lemmas.List.{length-map}
use Rattle.std.proofs.lemmas.List.Elements.{All-contains}
use Rattle.spec_order.proofs.Members.{Contains-here}
use Rattle.spec_value.specs.Tree.{Tree}
use Rattle.spec_lists.specs.Delta.{Delta, no_change, inverse}
use Rattle.spec_views.specs.View.{follow_of}
use Rattle.spec_views.proofs.Composites.{composite_follow_local}
use Rattle.gl_lines.specs.declared.plan.Command.{Command}
use Rattle.gl_lines.specs.declared.plan.Command.TheVariants as c
use Rattle.spec_plans.specs.Plan.{origin as about}
use Rattle.spec_states.specs.State.{Own, State, source, over, composite, transaction, freezable, proxy, inputs, own_at, dependency_order}
use Rattle.spec_states.specs.Shown.{is_held, table_of, shown}
use Rattle.spec_states.specs.Wave.{Cause, subject, kept_after, beginning, begins, first_delta, begun_with, follow, delta_in, is_at, delta_by, wave_delta, unchanged, wave_deltas}
use Rattle.spec_states.specs.Laws.{IsSound}
use Rattle.spec_states.proofs.DependencyOrder.{order_follow, listed}
use Rattle.spec_states.proofs.Settled.{settled_is, length-settled}
use Rattle.spec_states.proofs.Views.{Inward, sound_inward, length-table_of}
use Rattle.spec_states.proofs.Begun.{MayTakeNow}

-- what is told of a list depends on the deltas of its inputs alone
pub follow_local : (own : Own) → Inward own → (shows : ℕ → List Tree) (f g : ℕ → Delta)
    → ((i : ℕ) → Contains (inputs own) i → f i ≡ g i) → follow own shows f ≡ follow own shows g
follow_local (source contents) h shows f g same = refl
follow_local (over input view) h shows f g same = ap (follow_of view (shows input)) (same input (Contains-here input [] input refl))
follow_local (composite needed members) h shows f g same =
    composite_follow_local members f g (λ i d. same i (All-contains (λ member. Contains needed member) members i h d))
follow_local (transaction input levels) h shows f g same = same input (Contains-here input [] input refl)
follow_local (freezable input since) h shows f g same = same input (Contains-here input [] input refl)
follow_local (proxy input kept queue) h shows f g same = refl

pub wave_delta_local : (cause : Cause) (s : State) (shows : ℕ → List Tree) (k : ℕ)
    → Inward (own_at s k) → (f g : ℕ → Delta)
    → ((i : ℕ) → Contains (inputs (own_at s k)) i → f i ≡ g i)
    → wave_delta cause s shows k f ≡ wave_delta cause s shows k g
wave_delta_local cause s shows k h f g same =
    ap (delta_by (is_at (begins cause (own_at s (subject cause))) k) (is_held (own_at s k)) (begun_with cause (own_at s (subject cause)) shows) (no_change (length (shows k)))) (follow_local (own_at s k) h shows f g same)

length-unchanged : (s : State) → length (unchanged (table_of s)) ≡ length s
length-unchanged s = length-map (table_of s) (λ xs. no_change (length xs)) ∙ length-table_of s

pub length-wave_deltas : (s : State) (cause : Cause) → length (wave_deltas s cause) ≡ length s
length-wave_deltas s cause = length-settled [] (λ list delta. wave_delta cause s (shown s) list delta) (unchanged (table_of s)) (dependency_order s) ∙ length-unchanged s

-- in a wave each list has its delta by those of its inputs
pub each_follows : (s : State) (cause : Cause) (k : ℕ) → IsSound s → k < length s
    → delta_in (wave_deltas s cause) k
    ≡ wave_delta cause s (shown s) k (delta_in (wave_deltas s cause))
each_follows s cause k h within =
    settled_is [] (λ list. inputs (own_at s list)) (λ list delta. wave_delta cause s (shown s) list delta) (λ list f g same. wave_delta_local cause s (shown s) list (sound_inward s h list) f g same)
    (unchanged (table_of s)) [] (dependency_order s) k (order_follow s h.ordered) (listed s h.ordered k within) (rw (length-unchanged s) within)

-- ---- whether a list is the one where a wave begins

pub at_true : (position : Option ℕ) (k : ℕ) → is_at position k ≡ true → position ≡ Some k
at_true None k e = absurd cc
at_true (Some n) k e = let same : k ≡ n = eqb-true k n e in ap Some (sym same)

at_false : (position : Option ℕ) (k : ℕ) → is_at position k ≡ false → position ≡ Some k → ⊥
at_false None k e f = absurd cc
at_false (Some n) k e f = eqb-false k n e (of_some n k f)
  where
    of_some : (i j : ℕ) → Some i ≡ Some j → j ≡ i
    of_some i j g = cc

-- A command that begins its wave at another list than its own is a rollback: it takes the source back to where the innermost level
-- began.
pub record RollsBack (given : Command) (own : Own) (input : ℕ) (shows : ℕ → List Tree) : Type 0 where
  pub level : Delta
  pub levels : List Delta
  pub is : own ≡ transaction input (level ∷ levels)
  pub kept : kept_after given shows own ≡ transaction input levels
  pub first : first_delta given own shows ≡ inverse level

pub of_some : (i j : ℕ) → Some i ≡ Some j → j ≡ i
of_some i j e = cc

pub elsewhere : (given : Command) (own : Own) (i : ℕ) (shows : ℕ → List Tree) → MayTakeNow given own
    → beginning given (about given) own ≡ Some i → (i ≡ about given → ⊥)
    → RollsBack given own i shows
elsewhere (c.Add list value) own i shows may e apart = absurd (apart (of_some list i e))
elsewhere (c.AddAll list values) own i shows may e apart = absurd (apart (of_some list i e))
elsewhere (c.Insert list index value) own i shows may e apart = absurd (apart (of_some list i e))
elsewhere (c.Set list index value) own i shows may e apart = absurd (apart (of_some list i e))
elsewhere (c.Remove list index) own i shows may e apart = absurd (apart (of_some list i e))
elsewhere (c.Clear list) own i shows may e apart = absurd (apart (of_some list i e))
elsewhere (c.Match list matcher) own i shows may e apart = absurd (apart (of_some list i e))
elsewhere (c.Order list order) own i shows may e apart = absurd (apart (of_some list i e))
elsewhere (c.Bounds list bounds) own i shows may e apart = absurd (apart (of_some list i e))
elsewhere (c.Apply list func) own i shows may e apart = absurd (apart (of_some list i e))
elsewhere (c.Attach list member) own i shows may e apart = absurd (apart (of_some list i e))
elsewhere (c.Detach list index) own i shows may e apart = absurd (apart (of_some list i e))
elsewhere (c.Begin list) own i shows may e apart = absurd cc
elsewhere (c.Commit list) (source contents) i shows may e apart = absurd cc
elsewhere (c.Commit list) (over input view) i shows may e apart = absurd cc
elsewhere (c.Commit list) (composite needed members) i shows may e apart = absurd cc
elsewhere (c.Commit list) (transaction input []) i shows may e apart = absurd cc
elsewhere (c.Commit list) (transaction input (level ∷ [])) i shows may e apart = absurd (apart (of_some list i e))
elsewhere (c.Commit list) (transaction input (level ∷ outer ∷ levels)) i shows may e apart = absurd cc
elsewhere (c.Commit list) (freezable input since) i shows may e apart = absurd cc
elsewhere (c.Commit list) (proxy input kept queue) i shows may e apart = absurd cc
elsewhere (c.Rollback list) (source contents) i shows may e apart = absurd cc
elsewhere (c.Rollback list) (over input view) i shows may e apart = absurd cc
elsewhere (c.Rollback list) (composite needed members) i shows may e apart = absurd cc
elsewhere (c.Rollback list) (transaction input []) i shows may e apart = absurd (let f = may.granted in cc)
elsewhere (c.Rollback list) (transaction input (level ∷ levels)) i shows may e apart =
    let same : i ≡ input = of_some input i e in
    record { level = level; levels = levels; is = ap (λ j. transaction j (level ∷ levels)) (sym same); kept = ap (λ j. transaction j levels) (sym same); first = refl }
elsewhere (c.Rollback list) (freezable input since) i shows may e apart = absurd cc
elsewhere (c.Rollback list) (proxy input kept queue) i shows may e apart = absurd cc
elsewhere (c.Freeze list) own i shows may e apart = absurd cc
elsewhere (c.Thaw list) own i shows may e apart = absurd (apart (of_some list i e))
elsewhere (c.Show list) own i shows may e apart = absurd cc
