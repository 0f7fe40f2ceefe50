-- The deltas of a wave and of a step lead from what the lists showed before to what they show after, and sound states stay so.
use Rattle.std.proofs.Common.{◌≡◌, ◌∙◌, ℕ, zero, suc, ◌<◌, [], ◌∷◌, length, refl, sym, subst, arith}
use Rattle.std.specs.Prelude.{Option, Some, None}
use Rattle.std.specs.Option.{option_or}
use Rattle.std.proofs.lemmas.List.{length-map}
use Rattle.spec_lists.specs.Piece.{IsNormal}
use Rattle.spec_lists.specs.Delta.{no_change}
use Rattle.spec_lists.specs.Leads.{IsDelta}
use Rattle.spec_lists.proofs.DeltaEdits.{identity_normal, identity_leads}
use Rattle.gl_lines.specs.declared.plan.Command.{Command}
use Rattle.gl_lines.specs.declared.plan.Command.TheVariants as c
use Rattle.gl_lines.specs.declared.reply.Reply.{Reply}
use Rattle.spec_plans.specs.Plan.{origin as about}
use Rattle.spec_states.specs.State.{State, own_at, dependency_order}
use Rattle.spec_states.specs.Shown.{Table, shows_in, table_of}
use Rattle.spec_states.specs.Wave.{Cause, command, pump, delta_in, unchanged, wave_deltas, wave}
use Rattle.spec_states.specs.Step.{step, step_by, refusal, too_long, unmoved}
use Rattle.spec_states.specs.Laws.{IsSound, MayAttach, MayTake, Lead}
use Rattle.spec_states.proofs.Views.{length-table_of, length-wave}
pub use Rattle.spec_states.proofs.Told.{follow_local, wave_delta_local, length-wave_deltas, each_follows, at_true, RollsBack, elsewhere}
pub use Rattle.spec_states.proofs.Stands.{IsTaken, taken_attaches, begin_of, Unbegun, Stands, fits_at, fits_of, kept_as, told_as, own_now, shown_now, delta_now, IsTakenBack, source_below, taken_back, taken_back_shown, stands}
pub use Rattle.spec_states.proofs.Sound.{OverSource, fits_from, after_wave, wave_source, wave_sound_by, wave_sound, pump_sound}

-- each delta of a wave leads from what its list showed before to what it shows after
pub wave_leads_by : (s : State) (cause : Cause) → IsSound s → IsTaken s cause
    → Lead (wave_deltas s cause) (table_of s) (table_of (wave s cause))
wave_leads_by s cause h taken =
    let rows : length (table_of s) ≡ length s = length-table_of s in
    let each : (k : ℕ) → k < length (table_of s) → Stands s cause (dependency_order s) k = λ k within. stands s cause h taken k (subst (λ n. k < n) rows within) in
    record {
      long = length-wave_deltas s cause ∙ sym rows;
      same = length-table_of (wave s cause) ∙ length-wave s cause ∙ sym rows;
      each = λ k within. (each k within).goes.leads;
      normal = λ k within. (each k within).goes.normal;
    }

pub wave_leads : (s : State) (given : Command) → IsSound s → refusal s given ≡ None
    → MayAttach given (own_at s (about given)) → MayTake given (own_at s (about given))
    → Lead (wave_deltas s (command given)) (table_of s) (table_of (wave s (command given)))
wave_leads s given h none may suits = wave_leads_by s (command given) h (record { granted = none; attaches = may; suits = suits })

pub pump_leads : (s : State) (list : ℕ) → IsSound s
    → Lead (wave_deltas s (pump list)) (table_of s) (table_of (wave s (pump list)))
pump_leads s list h = wave_leads_by s (pump list) h tt

-- ---- steps

pub unchanged_at : (t : Table) (k : ℕ) → k < length t
    → delta_in (unchanged t) k ≡ no_change (length (shows_in t k))
unchanged_at [] k within = absurd (omega (arith, within))
unchanged_at (xs ∷ t) zero within = refl
unchanged_at (xs ∷ t) (suc k) within = unchanged_at t k (omega arith)

-- what doesn't change leads from itself to itself
pub unchanged_leads : (t : Table) → Lead (unchanged t) t t
unchanged_leads t = record {
  long = length-map t (λ xs. no_change (length xs));
  same = refl;
  each = λ k within. subst (λ d. IsDelta d (shows_in t k) (shows_in t k)) (sym (unchanged_at t k within)) (identity_leads (shows_in t k));
  normal = λ k within. subst IsNormal (sym (unchanged_at t k within)) (identity_normal (length (shows_in t k)));
}

-- neither of two, where the first that there is is none
neither : (a b : Option Reply) → option_or a b ≡ None → (a ≡ None) × (b ≡ None)
neither None b e = (refl, e)
neither (Some x) b e = absurd cc

-- a command that makes a wave isn't refused, and no list of its state is too long
pub moved : (limit : ℕ) (s : State) (given : Command) → unmoved limit s given ≡ None
    → (refusal s given ≡ None) × (too_long limit (wave s (command given)) ≡ None)
moved limit s (c.Add list value) e = neither _ _ e
moved limit s (c.AddAll list values) e = neither _ _ e
moved limit s (c.Insert list index value) e = neither _ _ e
moved limit s (c.Set list index value) e = neither _ _ e
moved limit s (c.Remove list index) e = neither _ _ e
moved limit s (c.Clear list) e = neither _ _ e
moved limit s (c.Match list matcher) e = neither _ _ e
moved limit s (c.Order list order) e = neither _ _ e
moved limit s (c.Bounds list bounds) e = neither _ _ e
moved limit s (c.Apply list func) e = neither _ _ e
moved limit s (c.Attach list member) e = neither _ _ e
moved limit s (c.Detach list index) e = neither _ _ e
moved limit s (c.Begin list) e = neither _ _ e
moved limit s (c.Commit list) e = neither _ _ e
moved limit s (c.Rollback list) e = neither _ _ e
moved limit s (c.Freeze list) e = neither _ _ e
moved limit s (c.Thaw list) e = neither _ _ e
moved limit s (c.Show list) e = absurd cc

-- each delta of a step leads from what its list showed before to what it shows after
pub step_leads : (limit : ℕ) (s : State) (given : Command) → IsSound s
    → MayAttach given (own_at s (about given)) → MayTake given (own_at s (about given))
    → Lead (step limit s given).deltas (table_of s) (table_of (step limit s given).state)
step_leads limit s given h may suits = by_reply (unmoved limit s given) refl
  where
    by_reply : (r : Option Reply) → unmoved limit s given ≡ r
        → Lead (step_by r s given).deltas (table_of s) (table_of (step_by r s given).state)
    by_reply (Some reply) e = unchanged_leads (table_of s)
    by_reply None e = wave_leads s given h (moved limit s given e).0 may suits

pub step_sound : (limit : ℕ) (s : State) (given : Command) → IsSound s
    → MayAttach given (own_at s (about given)) → MayTake given (own_at s (about given))
    → IsSound (step limit s given).state
step_sound limit s given h may suits = by_reply (unmoved limit s given) refl
  where
    by_reply : (r : Option Reply) → unmoved limit s given ≡ r → IsSound (step_by r s given).state
    by_reply (Some reply) e = h
    by_reply None e = wave_sound s given h (moved limit s given e).0 may suits

-- where no list is too long, none is after a step
pub step_within : (limit : ℕ) (s : State) (given : Command) → too_long limit s ≡ None
    → too_long limit (step limit s given).state ≡ None
step_within limit s given h = by_reply (unmoved limit s given) refl
  where
    by_reply : (r : Option Reply) → unmoved limit s given ≡ r
        → too_long limit (step_by r s given).state ≡ None
    by_reply (Some reply) e = h
    by_reply None e = (moved limit s given e).1
