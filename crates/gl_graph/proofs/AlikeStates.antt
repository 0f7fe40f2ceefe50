-- States that differ in what no list shows.
use Rattle.std.proofs.Common.{◌≡◌, ◌∙◌, ℕ, suc, List, [], ◌∷◌, length, map, refl, ap, arith}
use Rattle.std.specs.Prelude.{slice_set}
use Rattle.spec_states.specs.Tree.{Tree}
use Rattle.spec_states.specs.Plan.{edges_from}
use Rattle.spec_states.specs.DependencyOrder.{dependency_order as order_by}
use Rattle.spec_states.specs.State.{State, inputs, own_at, edges_of, dependency_order}
use Rattle.spec_states.specs.Shown.{Table, shown_of, shows_in, settle_one, settled, nothing_shown, table_of}

-- states of which each list depends on the same lists and shows the same of what they show
pub record AreAlike (s t : State) : Type 0 where
  pub long : length t ≡ length s
  pub inputs_are : (k : ℕ) → inputs (own_at t k) ≡ inputs (own_at s k)
  pub shows : (k : ℕ) (f : ℕ → List Tree) → shown_of (own_at t k) f ≡ shown_of (own_at s k) f

same_inputs : (s t : State) → length t ≡ length s → ((k : ℕ) → inputs (own_at t k) ≡ inputs (own_at s k)) → map inputs t ≡ map inputs s
same_inputs [] [] long same = refl
same_inputs [] (p ∷ t) long same = absurd (omega (arith, long))
same_inputs (o ∷ s) [] long same = absurd (omega (arith, long))
same_inputs (o ∷ s) (p ∷ t) long same =
    ap (λ is. is ∷ map inputs t) (same 0) ∙ ap (λ rest. inputs o ∷ rest) (same_inputs s t (omega (arith, long)) (λ k. same (suc k)))

pub same_nothing : (s t : State) → length t ≡ length s → nothing_shown t ≡ nothing_shown s
same_nothing [] [] long = refl
same_nothing [] (p ∷ t) long = absurd (omega (arith, long))
same_nothing (o ∷ s) [] long = absurd (omega (arith, long))
same_nothing (o ∷ s) (p ∷ t) long = ap (λ rows. [] ∷ rows) (same_nothing s t (omega (arith, long)))

pub same_edges : (s t : State) → AreAlike s t → edges_of t ≡ edges_of s
same_edges s t h = ap (edges_from 0) (same_inputs s t h.long h.inputs_are)

pub same_order : (s t : State) → AreAlike s t → dependency_order t ≡ dependency_order s
same_order s t h = ap (λ n. order_by n (edges_of t)) h.long ∙ ap (order_by (length s)) (same_edges s t h)

pub same_settled : (s t : State) (u : Table) (lists : List ℕ) → AreAlike s t → settled t u lists ≡ settled s u lists
same_settled s t u [] h = refl
same_settled s t u (list ∷ lists) h =
    same_settled s t (settle_one t u list) lists h ∙ ap (λ v. settled s v lists) (ap (slice_set u list) (h.shows list (shows_in u)))

pub same_table : (s t : State) → AreAlike s t → table_of t ≡ table_of s
same_table s t h =
    ap (λ u. settled t u (dependency_order t)) (same_nothing s t h.long)
    ∙ (ap (settled t (nothing_shown s)) (same_order s t h) ∙ same_settled s t (nothing_shown s) (dependency_order s) h)
