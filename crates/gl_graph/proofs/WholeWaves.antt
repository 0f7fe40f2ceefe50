-- What a command comes to as a whole: where its wave begins, that it leads, and what it leaves.
use Rattle.std.proofs.Common.{◌≡◌, ℕ, List, [], ◌∷◌, refl}
use Rattle.std.specs.Prelude.{⊤, Option, Some, None}
use Rattle.spec_states.specs.Tree.{Tree}
use Rattle.spec_states.specs.View.{View, filter, sorted, unique, grouping, range, function, collection, Parameter}
use Rattle.spec_states.specs.Command.{Command}
use Rattle.spec_states.specs.Command.TheVariants as c
use Rattle.spec_states.specs.Plan.{origin as about}
use Rattle.spec_states.specs.State.{Own, State, source, over, composite, transaction, freezable, proxy, own_at}
use Rattle.spec_states.specs.Shown.{table_of}
use Rattle.spec_states.specs.Wave.{Cause, command, pump, subject, beginning, parameter_of, kept_after, kept_by, wave, wave_deltas}
use Rattle.spec_states.specs.Step.{refused_by, unmoved}
use Rattle.spec_states.specs.Laws.{IsSound, Lead, MayAttach, MayTake, OfTransaction, OfFreezable}
use Rattle.spec_states.proofs.Views.{MayAttachBy, IsInward, sound_inward, wave_inward}
use Rattle.spec_states.proofs.Waves.{IsTaken, wave_leads_by, wave_sound_by}
use Rattle.gl_graph.specs.declared.node.Node.{Node}
use Rattle.gl_graph.specs.Nodes.{state_of}
use Rattle.gl_graph.specs.Commands.{Gives, IsOfLevels, IsOfFreezing, IsNoRollback, Suits}
use Rattle.gl_graph.specs.Causes.{SuitsCause, IsPlain, refusal_of, unmoved_of}
use Rattle.gl_graph.specs.Graph.{IsGraph}

-- a command that suits a list over one input gives it a parameter
abbrev IsGiven : Option Parameter → Type 0
IsGiven None = ⊥
IsGiven (Some given) = ⊤

given : (view : View) (p : Option Parameter) → Gives view p → IsGiven p
given view (Some p) h = tt
given (filter old) None h = h
given (sorted old) None h = h
given (unique old) None h = h
given (grouping old) None h = h
given (range old) None h = h
given (function old) None h = h
given (collection path) None h = h

pub none_given : (view : View) → Gives view None → ⊥
none_given view h = given view None h

-- and isn't refused
pub given_inside : (of : Command) (input : ℕ) (view : View) → Gives view (parameter_of of) → refused_by (over input view) of ≡ None
given_inside (c.Match list m) input view h = refl
given_inside (c.Order list keys) input view h = refl
given_inside (c.Bounds list b) input view h = refl
given_inside (c.Apply list f) input view h = refl
given_inside other input view h = absurd (none_given view h)

some_is : (i j : ℕ) → Some i ≡ Some j → j ≡ i
some_is i j e = cc

none_some : (i : ℕ) → None ≡ Some i → ⊥
none_some i e = absurd cc

-- the wave of a command that is no rollback begins at the list that it is about, if it begins
commit_here : (number list i : ℕ) (own : Own) → beginning (c.Commit list) number own ≡ Some i → i ≡ number
commit_here number list i (source contents) e = absurd (none_some i e)
commit_here number list i (over input view) e = absurd (none_some i e)
commit_here number list i (composite needed members) e = absurd (none_some i e)
commit_here number list i (transaction input []) e = absurd (none_some i e)
commit_here number list i (transaction input (level ∷ [])) e = some_is number i e
commit_here number list i (transaction input (level ∷ outer ∷ levels)) e = absurd (none_some i e)
commit_here number list i (freezable input since) e = absurd (none_some i e)
commit_here number list i (proxy input kept queue) e = absurd (none_some i e)

pub begins_here : (of : Command) (number i : ℕ) (own : Own) → IsNoRollback of → beginning of number own ≡ Some i → i ≡ number
begins_here (c.Rollback list) number i own h e = absurd h
begins_here (c.Begin list) number i own h e = absurd (none_some i e)
begins_here (c.Freeze list) number i own h e = absurd (none_some i e)
begins_here (c.Show list) number i own h e = absurd (none_some i e)
begins_here (c.Commit list) number i own h e = commit_here number list i own e
begins_here other number i own h e = some_is number i e

-- what a rollback leaves doesn't go by what others show
rolled_command : (of : Command) (own : Own) (f g : ℕ → List Tree) → ¬ IsNoRollback of → kept_after of f own ≡ kept_after of g own
rolled_command (c.Rollback list) (source contents) f g h = refl
rolled_command (c.Rollback list) (over input view) f g h = refl
rolled_command (c.Rollback list) (composite needed members) f g h = refl
rolled_command (c.Rollback list) (transaction input levels) f g h = refl
rolled_command (c.Rollback list) (freezable input since) f g h = refl
rolled_command (c.Rollback list) (proxy input kept queue) f g h = refl
rolled_command other own f g h = absurd (h tt)

pub kept_rolled : (cause : Cause) (own : Own) (f g : ℕ → List Tree) → ¬ IsPlain cause → kept_by cause f own ≡ kept_by cause g own
kept_rolled (command c) own f g h = rolled_command c own f g h
kept_rolled (pump list) own f g h = absurd (h tt)

-- a command that suits a list makes a wave, or is refused for one of two reasons
never_shown : (list : ℕ) (own : Own) → Suits (c.Show list) own → ⊥
never_shown list (source contents) h = h
never_shown list (over input view) h = none_given view h
never_shown list (composite needed members) h = h
never_shown list (transaction input levels) h = h
never_shown list (freezable input since) h = h
never_shown list (proxy input kept queue) h = h

pub unmoved_is : (limit : ℕ) (s : State) (c : Command) (own : Own) → Suits c own → unmoved limit s c ≡ unmoved_of limit s (command c)
unmoved_is limit s (c.Show list) own h = absurd (never_shown list own h)
unmoved_is limit s other own h = refl

-- it may be taken
may_attach : (of : Command) (own : Own) → Suits of own → MayAttach of own
may_attach (c.Attach list member) (composite needed members) h = h
may_attach (c.Attach list member) (source contents) h = tt
may_attach (c.Attach list member) (over input view) h = tt
may_attach (c.Attach list member) (transaction input levels) h = tt
may_attach (c.Attach list member) (freezable input since) h = tt
may_attach (c.Attach list member) other h = absurd h
may_attach of own h = tt

of_levels : (of : Command) → IsOfLevels of → OfTransaction of
of_levels (c.Begin list) h = tt
of_levels (c.Commit list) h = tt
of_levels (c.Rollback list) h = tt
of_levels other h = absurd h

of_freezing : (of : Command) → IsOfFreezing of → OfFreezable of
of_freezing (c.Freeze list) h = tt
of_freezing (c.Thaw list) h = tt
of_freezing other h = absurd h

may_take : (of : Command) (own : Own) → Suits of own → MayTake of own
may_take of (source contents) h = tt
may_take of (over input view) h = tt
may_take of (composite needed members) h = tt
may_take of (transaction input levels) h = of_levels of h
may_take of (freezable input since) h = of_freezing of h
may_take of (proxy input kept queue) h = absurd h

pub taken_of : (s : State) (cause : Cause) → SuitsCause cause (own_at s (subject cause)) → refusal_of s cause ≡ None → IsTaken s cause
taken_of s (command c) suits none = record {
  granted = none;
  attaches = may_attach c (own_at s (about c)) suits;
  suits = may_take c (own_at s (about c)) suits;
}
taken_of s (pump list) suits none = tt

-- the wave leads, and leaves a state as plans have it
pub graph_leads : (limit : ℕ) (nodes : List Node) (positions : List ℕ) (cause : Cause) → IsGraph limit nodes positions → SuitsCause cause (own_at (state_of nodes positions) (subject cause))
    → refusal_of (state_of nodes positions) cause ≡ None
    → Lead (wave_deltas (state_of nodes positions) cause) (table_of (state_of nodes positions)) (table_of (wave (state_of nodes positions) cause))
graph_leads limit nodes positions cause graph suits none = wave_leads_by (state_of nodes positions) cause graph.sound (taken_of (state_of nodes positions) cause suits none)

pub graph_sound : (limit : ℕ) (nodes : List Node) (positions : List ℕ) (cause : Cause) → IsGraph limit nodes positions → SuitsCause cause (own_at (state_of nodes positions) (subject cause))
    → refusal_of (state_of nodes positions) cause ≡ None → IsSound (wave (state_of nodes positions) cause)
graph_sound limit nodes positions cause graph suits none = wave_sound_by (state_of nodes positions) cause graph.sound (taken_of (state_of nodes positions) cause suits none)

attaches_by : (cause : Cause) (own : Own) → SuitsCause cause own → MayAttachBy cause own
attaches_by (command c) own suits = may_attach c own suits
attaches_by (pump list) own suits = tt

pub graph_inward : (limit : ℕ) (nodes : List Node) (positions : List ℕ) (cause : Cause) → IsGraph limit nodes positions → SuitsCause cause (own_at (state_of nodes positions) (subject cause))
    → IsInward (wave (state_of nodes positions) cause)
graph_inward limit nodes positions cause graph suits =
    let s : State = state_of nodes positions in
    wave_inward s cause (attaches_by cause (own_at s (subject cause)) suits) (sound_inward s graph.sound)
