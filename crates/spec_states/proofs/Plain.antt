-- States whose lists are all sources, lists over one input or composites: none of these is ever held.
use Rattle.std.proofs.Common.{◌≡◌, ◌∙◌, ℕ, ◌<◌, true, false, length, refl, ap, eq-eqb}
use Rattle.std.specs.Prelude.{⊤, Some}
use Rattle.gl_lines.specs.declared.plan.Command.{Command}
use Rattle.spec_plans.specs.Plan.{origin as about}
use Rattle.spec_states.specs.State.{Own, State, source, over, composite, transaction, freezable, proxy, own_at}
use Rattle.spec_states.specs.Shown.{is_held, shown}
use Rattle.spec_states.specs.Wave.{command, kept_after, beginning, first_delta, delta_in, is_at, wave_deltas, wave}
use Rattle.spec_states.specs.Laws.{IsSound}
use Rattle.spec_states.proofs.Waves.{own_now, delta_now}

abbrev pub IsPlainOwn : Own → Type 0
IsPlainOwn (source contents) = ⊤
IsPlainOwn (over input view) = ⊤
IsPlainOwn (composite needed members) = ⊤
IsPlainOwn other = ⊥

abbrev pub IsPlain : State → Type 0
IsPlain s = (list : ℕ) → IsPlainOwn (own_at s list)

-- so none is held
pub plain_free : (own : Own) → IsPlainOwn own → is_held own ≡ false
plain_free (source contents) h = refl
plain_free (over input view) h = refl
plain_free (composite needed members) h = refl
plain_free (transaction input levels) h = absurd h
plain_free (freezable input since) h = absurd h
plain_free (proxy input kept queue) h = absurd h

-- the list that it is about keeps what the command makes of it
pub own_kept : (s : State) (given : Command) → about given < length s
    → own_at (wave s (command given)) (about given)
    ≡ kept_after given (shown s) (own_at s (about given))
own_kept s given within =
    own_now s (command given) (about given) within true (eq-eqb (about given) (about given) refl)

-- and where the wave begins at it, its delta is the first one
pub first_told : (s : State) (given : Command) → IsSound s → about given < length s
    → beginning given (about given) (own_at s (about given)) ≡ Some (about given)
    → delta_in (wave_deltas s (command given)) (about given)
    ≡ first_delta given (own_at s (about given)) (shown s)
first_told s given h within e =
    delta_now s (command given) h (about given) within true (ap (λ o. is_at o (about given)) e ∙ eq-eqb (about given) (about given) refl)
