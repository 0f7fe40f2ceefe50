-- A section of some commands and others is the one section and then the other.
use Rattle.std.proofs.Common.{◌≡◌, ◌∙◌, ℕ, ◌<◌, ◌++◌, List, [], ◌∷◌, length, refl, ap, arith}
use Rattle.std.specs.Prelude.{Some}
use Rattle.spec_lists.specs.Delta.{composed}
use Rattle.gl_lines.specs.declared.plan.Command.{Command}
use Rattle.gl_lines.specs.declared.reply.Reply.{Reply}
use Rattle.spec_plans.specs.Plan.{origin}
use Rattle.spec_states.specs.State.{State, own_at}
use Rattle.spec_states.specs.Shown.{table_of}
use Rattle.spec_states.specs.Wave.{Deltas, delta_in, unchanged}
use Rattle.spec_states.specs.Step.{step, unmoved}
use Rattle.spec_states.specs.Laws.{IsSound}
use Rattle.spec_runs.specs.Section.{state_after, replies_to, composed_all, deltas_after, section_deltas}
use Rattle.spec_runs.proofs.KeptKinds.{Suits, AllSuit, suits_kept, after_keeps}
use Rattle.spec_runs.proofs.Sections.{after_sound, section_leads, composed_in, then_unchanged}
use Rattle.spec_states.proofs.Views.{length-table_of}
use Rattle.spec_states.proofs.Waves.{step_leads}

pub state_append : (limit : ℕ) (s : State) (cs ds : List Command)
    → state_after limit s (cs ++ ds) ≡ state_after limit (state_after limit s cs) ds
state_append limit s [] ds = refl
state_append limit s (c ∷ cs) ds = state_append limit (step limit s c).state cs ds

pub replies_append : (limit : ℕ) (s : State) (cs ds : List Command)
    → replies_to limit s (cs ++ ds)
    ≡ replies_to limit s cs ++ replies_to limit (state_after limit s cs) ds
replies_append limit s [] ds = refl
replies_append limit s (c ∷ cs) ds =
    ap (λ replies. (step limit s c).reply ∷ replies) (replies_append limit (step limit s c).state cs ds)

pub deltas_append : (limit : ℕ) (s : State) (sofar : Deltas) (cs ds : List Command)
    → deltas_after limit s sofar (cs ++ ds)
    ≡ deltas_after limit (state_after limit s cs) (deltas_after limit s sofar cs) ds
deltas_append limit s sofar [] ds = refl
deltas_append limit s sofar (c ∷ cs) ds =
    deltas_append limit (step limit s c).state (composed_all sofar (step limit s c).deltas) cs ds

-- ---- one command more

pub state_push : (limit : ℕ) (s : State) (cs : List Command) (c : Command)
    → state_after limit s (cs ++ c ∷ []) ≡ (step limit (state_after limit s cs) c).state
state_push limit s cs c = state_append limit s cs (c ∷ [])

pub replies_push : (limit : ℕ) (s : State) (cs : List Command) (c : Command)
    → replies_to limit s (cs ++ c ∷ [])
    ≡ replies_to limit s cs ++ (step limit (state_after limit s cs) c).reply ∷ []
replies_push limit s cs c = replies_append limit s cs (c ∷ [])

pub deltas_push : (limit : ℕ) (s : State) (cs : List Command) (c : Command)
    → section_deltas limit s (cs ++ c ∷ [])
    ≡ composed_all (section_deltas limit s cs) (step limit (state_after limit s cs) c).deltas
deltas_push limit s cs c = deltas_append limit s (unchanged (table_of s)) cs (c ∷ [])

-- of each list the section's delta, and then the command's
pub delta_push : (limit : ℕ) (s : State) (cs : List Command) (c : Command) (list : ℕ) → IsSound s
    → AllSuit s cs → Suits c (own_at s (origin c)) → list < length s
    → delta_in (section_deltas limit s (cs ++ c ∷ [])) list
    ≡ composed (delta_in (section_deltas limit s cs) list)
    (delta_in (step limit (state_after limit s cs) c).deltas list)
delta_push limit s cs c list h suit one within =
    let now : State = state_after limit s cs in
    let then : Suits c (own_at now (origin c)) = suits_kept s now c (after_keeps limit s cs) one in
    ap (λ deltas. delta_in deltas list) (deltas_push limit s cs c)
    ∙ composed_in (section_deltas limit s cs) (step limit now c).deltas (table_of s) (table_of now)
    (table_of (step limit now c).state) list (section_leads limit s cs h suit)
    (step_leads limit now c (after_sound limit s cs h suit) then.attaches then.takes) (omega (arith, within, length-table_of s))

-- ---- a command that changes nothing

pub still_state : (limit : ℕ) (s : State) (c : Command) (reply : Reply)
    → unmoved limit s c ≡ Some reply → (step limit s c).state ≡ s
still_state limit s c reply e = rw e refl

pub still_reply : (limit : ℕ) (s : State) (c : Command) (reply : Reply)
    → unmoved limit s c ≡ Some reply → (step limit s c).reply ≡ reply
still_reply limit s c reply e = rw e refl

pub still_deltas : (limit : ℕ) (s : State) (c : Command) (reply : Reply)
    → unmoved limit s c ≡ Some reply → (step limit s c).deltas ≡ unchanged (table_of s)
still_deltas limit s c reply e = rw e refl

-- leaves the section as it was
pub still_section : (limit : ℕ) (s : State) (cs : List Command) (c : Command) (reply : Reply)
    → IsSound s → AllSuit s cs → unmoved limit (state_after limit s cs) c ≡ Some reply
    → section_deltas limit s (cs ++ c ∷ []) ≡ section_deltas limit s cs
still_section limit s cs c reply h suit e =
    let now : State = state_after limit s cs in
    deltas_push limit s cs c
    ∙ ap (composed_all (section_deltas limit s cs)) (still_deltas limit now c reply e)
    ∙ then_unchanged (section_deltas limit s cs) (table_of s) (table_of now) (section_leads limit s cs h suit)
