-- What lists that are held show, and what they show once they are let go.
use Rattle.std.proofs.Common.{◌≡◌, ◌∙◌, ◌==◌, ◌≢◌, ℕ, ◌<◌, Bool, true, false, List, [], ◌∷◌, length, refl, ap, sym, subst, eq-eqb}
use Rattle.std.specs.Prelude.{Some, None}
use Rattle.std.specs.List.{Contains}
use Rattle.std.proofs.lemmas.Bool.{eqb-true}
use Rattle.spec_order.proofs.Members.{Contains-here}
use Rattle.spec_value.specs.Tree.{Tree}
use Rattle.spec_lists.specs.Delta.{Delta, no_change, inverse}
use Rattle.spec_lists.specs.Leads.{applied, undone}
use Rattle.gl_lines.specs.declared.plan.Command.{Command}
use Rattle.gl_lines.specs.declared.plan.Command.TheVariants as c
use Rattle.spec_plans.specs.Plan.{origin as about}
use Rattle.spec_states.specs.State.{Own, State, source, over, composite, transaction, freezable, proxy, inputs, own_at}
use Rattle.spec_states.specs.Shown.{is_held, shown_of, shown}
use Rattle.spec_states.specs.Wave.{Cause, command, pump, subject, kept_after, kept_later, beginning, first_delta, delta_in, is_at, wave_deltas, wave}
use Rattle.spec_states.specs.Laws.{IsSource, IsSound}
use Rattle.spec_states.proofs.DependencyOrder.{input_within}
use Rattle.spec_states.proofs.Views.{shown_is}
use Rattle.spec_states.proofs.Kept.{after_held}
use Rattle.spec_states.proofs.Begun.{MayTakeNow}
use Rattle.spec_states.proofs.Waves.{at_true, begin_of, IsTaken, elsewhere, taken_back, fits_of, stands, shown_now, told_as, own_now, delta_now, RollsBack}
use Rattle.spec_states.proofs.Plain.{own_kept, first_told}
use Rattle.spec_states.proofs.Told.{of_some}
use Rattle.spec_basics.proofs.Numbers.{not_equal}

-- A list that is held, and that the wave isn't about, shows what it did: a frozen list, a transaction list that is open, and a
-- proxy but in its pump.
pub held_stays : (s : State) (cause : Cause) → IsSound s → IsTaken s cause → (k : ℕ) → k < length s
    → is_held (own_at s k) ≡ true → k ≢ subject cause → shown (wave s cause) k ≡ shown s k
held_stays s cause h taken k within held other =
    shown_now s cause h taken k within false (not_equal k (subject cause) other)
    ∙ after_held k (own_at s k) (shown s) (shown (wave s cause)) (delta_in (wave_deltas s cause)) held (fits_of s h k) (λ i d. (stands s cause h taken i (input_within s h.ordered k i d)).goes)
    ∙ sym (shown_is s h k within)

source_free : (own : Own) → IsSource own → is_held own ≡ true → ⊥
source_free (source contents) h e = absurd cc
source_free (over input view) h e = absurd h
source_free (composite needed members) h e = absurd h
source_free (transaction input levels) h e = absurd h
source_free (freezable input since) h e = absurd h
source_free (proxy input kept queue) h e = absurd h

-- and nothing is told of it
pub held_told : (s : State) (cause : Cause) → IsSound s → IsTaken s cause → (k : ℕ) → k < length s
    → is_held (own_at s k) ≡ true → k ≢ subject cause
    → delta_in (wave_deltas s cause) k ≡ no_change (length (shown s k))
held_told s cause h taken k within held other =
    delta_now s cause h k within false (by_test (is_at (begin_of s cause) k) refl)
    ∙ ap (told_as s cause k false) held
    ∙ ap (λ xs. no_change (length xs)) (sym (shown_is s h k within))
  where
    not_begun : (cause : Cause) → IsTaken s cause → k ≢ subject cause → begin_of s cause ≡ Some k
        → ⊥
    not_begun (pump list) t apart e = apart (of_some list k e)
    not_begun (command given) t apart e =
        let r = elsewhere given (own_at s (about given)) k (shown s) t e apart in source_free (own_at s k) (taken_back s given k h within r e).is_source held

    by_test : (t : Bool) → is_at (begin_of s cause) k ≡ t → t ≡ false
    by_test true e = absurd (not_begun cause taken other (at_true (begin_of s cause) k e))
    by_test false e = refl

-- a wave that begins nowhere leaves what every list shows
pub nowhere_shown : (s : State) (cause : Cause) → IsSound s → IsTaken s cause
    → begin_of s cause ≡ None → (k : ℕ) → k < length s → shown (wave s cause) k ≡ shown s k
nowhere_shown s cause h taken none k within = (stands s cause h taken k within).stay (λ b e. absurd (none_some b (sym none ∙ e)))
  where
    none_some : (b : ℕ) → None ≡ Some b → ⊥
    none_some b e = absurd cc

-- so do a freeze,
pub freeze_leaves : (s : State) (list : ℕ) → IsSound s → MayTakeNow (c.Freeze list) (own_at s list)
    → (k : ℕ) → k < length s → shown (wave s (command (c.Freeze list))) k ≡ shown s k
freeze_leaves s list h taken k within = nowhere_shown s (command (c.Freeze list)) h taken refl k within

-- the begin of a level,
pub begin_leaves : (s : State) (list : ℕ) → IsSound s → MayTakeNow (c.Begin list) (own_at s list)
    → (k : ℕ) → k < length s → shown (wave s (command (c.Begin list))) k ≡ shown s k
begin_leaves s list h taken k within = nowhere_shown s (command (c.Begin list)) h taken refl k within

-- and the commit of an inner one
pub inner_commit_leaves : (s : State) (list input : ℕ) (level outer : Delta) (levels : List Delta)
    → IsSound s → MayTakeNow (c.Commit list) (own_at s list)
    → own_at s list ≡ transaction input (level ∷ outer ∷ levels)
    → (k : ℕ) → k < length s → shown (wave s (command (c.Commit list))) k ≡ shown s k
inner_commit_leaves s list input level outer levels h taken is k within = nowhere_shown s (command (c.Commit list)) h taken (ap (beginning (c.Commit list) list) is) k within

-- ---- what is let go

-- a list over one input at which a wave begins shows what it then does of what the input showed
pub let_go : (s : State) (given : Command) (input : ℕ) (own : Own) → IsSound s
    → MayTakeNow given (own_at s (about given)) → about given < length s
    → beginning given (about given) (own_at s (about given)) ≡ Some (about given)
    → Contains (inputs (own_at s (about given))) input
    → kept_after given (shown s) (own_at s (about given)) ≡ own
    → ((shows : ℕ → List Tree) → shown_of own shows ≡ shows input)
    → shown (wave s (command given)) (about given) ≡ shown s input
let_go s given input own h taken within begun needs kept shows =
    shown_now s (command given) h taken (about given) within true (eq-eqb (about given) (about given) refl) ∙ ap (λ o. shown_of o (shown (wave s (command given)))) kept
    ∙ shows (shown (wave s (command given)))
    ∙ (stands s (command given) h taken (about given) within).quiet (λ b e. of_some (about given) b (sym begun ∙ e)) input needs

-- a thawed list shows what its input does, and tells what became of that since it was frozen
pub thaw_shows : (s : State) (list input : ℕ) (since : Delta) → IsSound s
    → MayTakeNow (c.Thaw list) (own_at s list) → list < length s
    → own_at s list ≡ freezable input (Some since)
    → shown (wave s (command (c.Thaw list))) list ≡ shown s input
thaw_shows s list input since h taken within is =
    let_go s (c.Thaw list) input (freezable input None) h taken within refl (subst (λ o. Contains (inputs o) input) (sym is) (Contains-here input [] input refl)) (ap (kept_after (c.Thaw list) (shown s)) is) (λ shows. refl)

pub thaw_tells : (s : State) (list input : ℕ) (since : Delta) → IsSound s → list < length s
    → own_at s list ≡ freezable input (Some since)
    → delta_in (wave_deltas s (command (c.Thaw list))) list ≡ since
thaw_tells s list input since h within is = first_told s (c.Thaw list) h within refl ∙ ap (λ o. first_delta (c.Thaw list) o (shown s)) is

-- the commit of the outermost level: the list shows what its source does, and tells what became of that since the level began
pub commit_shows : (s : State) (list input : ℕ) (level : Delta) → IsSound s
    → MayTakeNow (c.Commit list) (own_at s list) → list < length s
    → own_at s list ≡ transaction input (level ∷ [])
    → shown (wave s (command (c.Commit list))) list ≡ shown s input
commit_shows s list input level h taken within is =
    let_go s (c.Commit list) input (transaction input []) h taken within (ap (beginning (c.Commit list) list) is) (subst (λ o. Contains (inputs o) input) (sym is) (Contains-here input [] input refl)) (ap (kept_after (c.Commit list) (shown s)) is) (λ shows. refl)

pub commit_tells : (s : State) (list input : ℕ) (level : Delta) → IsSound s → list < length s
    → own_at s list ≡ transaction input (level ∷ [])
    → delta_in (wave_deltas s (command (c.Commit list))) list ≡ level
commit_tells s list input level h within is = first_told s (c.Commit list) h within (ap (beginning (c.Commit list) list) is) ∙ ap (λ o. first_delta (c.Commit list) o (shown s)) is

-- a rollback gives the source the elements that it had when the innermost level began
pub rollback_restores : (s : State) (list input : ℕ) (level : Delta) (levels : List Delta) (contents : List Tree)
    → IsSound s → MayTakeNow (c.Rollback list) (own_at s list) → input < length s → input ≢ list
    → own_at s list ≡ transaction input (level ∷ levels) → own_at s input ≡ source contents
    → own_at (wave s (command (c.Rollback list))) input ≡ source (undone level contents)
rollback_restores s list input level levels contents h taken there apart is below =
    let begun : beginning (c.Rollback list) list (own_at s list) ≡ Some input = ap (beginning (c.Rollback list) list) is in
    let r : RollsBack (c.Rollback list) (own_at s list) input (shown s) = record { level = level; levels = levels; is = is; kept = ap (kept_after (c.Rollback list) (shown s)) is; first = ap (λ o. first_delta (c.Rollback list) o (shown s)) is } in
    let back = taken_back s (c.Rollback list) input h there r begun in
    let was : shown s input ≡ contents = shown_is s h input there ∙ ap (λ o. shown_of o (shown s)) below in
    own_now s (command (c.Rollback list)) input there false (not_equal input list apart)
    ∙ ap (λ o. kept_later input o (delta_in (wave_deltas s (command (c.Rollback list))))) below
    ∙ ap (λ d. source (applied d contents)) back.told
    ∙ ap (λ xs. source (applied (inverse level) xs)) (sym was)
    ∙ ap source (sym back.goes.leads.ends)
    ∙ ap (λ xs. source (undone level xs)) was

-- and leaves what the transaction list shows; one level less is open
pub rollback_leaves : (s : State) (list input : ℕ) (level : Delta) (levels : List Delta)
    → list < length s → own_at s list ≡ transaction input (level ∷ levels)
    → own_at (wave s (command (c.Rollback list))) list ≡ transaction input levels
rollback_leaves s list input level levels within is = own_kept s (c.Rollback list) within ∙ ap (kept_after (c.Rollback list) (shown s)) is
