-- An entry, whatever its actor does, leads from what the lists showed to what they show, and leaves the state at rest.
use Rattle.std.proofs.Common.{◌<◌, ℕ, length, sym, subst, arith}
use Rattle.std.specs.Prelude.{⊤}
use Rattle.spec_states.specs.State.{State}
use Rattle.spec_states.specs.Shown.{table_of, shown}
use Rattle.spec_states.specs.Laws.{IsSound, Lead}
use Rattle.spec_runs.specs.Entry.{Deed, section, pumping, nothing, outcome, queued}
use Rattle.spec_runs.proofs.KeptKinds.{AllSuit, outcome_keeps}
use Rattle.spec_runs.proofs.Sections.{after_sound, section_leads}
use Rattle.spec_runs.proofs.Queues.{reaches, IsAtRest, outcome_said, queued_rests, queued_table}
use Rattle.spec_states.proofs.Sound.{pump_sound}
use Rattle.spec_states.proofs.Waves.{unchanged_leads, pump_leads}

-- the commands of a section suit their lists
abbrev pub DeedSuits : State → Deed → Type 0
DeedSuits s (section commands) = AllSuit s commands
DeedSuits s (pumping list) = ⊤
DeedSuits s nothing = ⊤

pub outcome_sound : (limit : ℕ) (s : State) (deed : Deed) → IsSound s → DeedSuits s deed
    → IsSound (outcome limit s deed).state
outcome_sound limit s (section commands) h suit = after_sound limit s commands h suit
outcome_sound limit s (pumping list) h suit = pump_sound s list h
outcome_sound limit s nothing h suit = h

pub outcome_leads : (limit : ℕ) (s : State) (deed : Deed) → IsSound s → DeedSuits s deed
    → Lead (outcome limit s deed).deltas (table_of s) (table_of (outcome limit s deed).state)
outcome_leads limit s (section commands) h suit = section_leads limit s commands h suit
outcome_leads limit s (pumping list) h suit = pump_leads s list h
outcome_leads limit s nothing h suit = unchanged_leads (table_of s)

-- the state at the end of an entry
abbrev pub end_of : ℕ → State → Deed → State
end_of limit s deed = queued (outcome limit s deed).deltas (outcome limit s deed).state

pub entry_rests : (limit : ℕ) (s : State) (deed : Deed) → IsAtRest s → DeedSuits s deed
    → IsAtRest (end_of limit s deed)
entry_rests limit s deed h suit =
    let now : State = (outcome limit s deed).state in
    let keeps = outcome_keeps limit s deed in
    queued_rests (table_of s) (outcome limit s deed).deltas now (outcome_sound limit s deed h.sound suit)
    (outcome_leads limit s deed h.sound suit)
    (λ list within.
    let there : list < length s = omega (arith, keeps.long, within) in
    outcome_said (reaches (shown s)) limit s deed (λ input kept d queue r. r) list there (h.reaches list there))

-- the deltas of an entry lead to what the lists show at its end
pub entry_leads : (limit : ℕ) (s : State) (deed : Deed) → IsSound s → DeedSuits s deed
    → Lead (outcome limit s deed).deltas (table_of s) (table_of (end_of limit s deed))
entry_leads limit s deed h suit =
    subst (Lead (outcome limit s deed).deltas (table_of s))
    (sym (queued_table (outcome limit s deed).deltas (outcome limit s deed).state)) (outcome_leads limit s deed h suit)
