-- What is said of the lists that a list depends on, and what goes by what these show and tell alone.
use Rattle.std.proofs.Common.{◌≡◌, ◌∙◌, ℕ, ◌<◌, true, List, [], ◌∷◌, length, refl, ap, sym, subst, arith, inl, inr}
use Rattle.std.specs.Prelude.{Option, Some, None, slice_get, slice_index}
use Rattle.std.specs.List.{All, Contains}
use Rattle.std.proofs.lemmas.Bool.{cases_lt}
use Rattle.std.proofs.lemmas.Option.{unwrap_or-slice_get}
use Rattle.std.proofs.lemmas.List.Elements.{All-contains, All-contains_itself, All-weaker}
use Rattle.std.proofs.lemmas.List.FromFn.{get_or-map-range_with_len, length-map-range_with_len}
use Rattle.spec_states.proofs.Members.{Contains-cons_cases, Contains-here}
use Rattle.spec_states.specs.Tree.{Tree}
use Rattle.spec_states.specs.Delta.{Delta, no_change, composed}
use Rattle.spec_states.specs.Piece.{normal}
use Rattle.spec_states.specs.View.{follow_of}
use Rattle.spec_states.specs.Command.{Command}
use Rattle.spec_states.specs.Command.TheVariants as c
use Rattle.spec_states.specs.State.{Own, source, over, composite, transaction, freezable, proxy, inputs, own_at}
use Rattle.spec_states.specs.Shown.{is_held}
use Rattle.spec_states.specs.Wave.{Cause, command, pump, kept_by, begun_with, follow, first_delta, parameter_of, parameter_change, kept_after, kept_later, levels_after, since_after}
use Rattle.spec_states.specs.Laws.{LedTo, since_frozen}
use Rattle.spec_states.proofs.Kept.{FitsOver}
use Rattle.spec_states.proofs.Views.{Inward, IsInward, own_past}
use Rattle.gl_graph.specs.declared.keeps.Keeps.{Keeps}
use Rattle.gl_graph.specs.declared.keeps.Keeps.TheVariants.{Source, Over, Composite, Held, Proxy}
use Rattle.gl_graph.specs.declared.held.Held.TheVariants as h
use Rattle.gl_graph.specs.declared.node.Node.{Node}
use Rattle.gl_composite.specs.Kept.{Kept}
use Rattle.gl_graph.specs.Commands.{IsOfLevels, IsOfFreezing, Suits}
use Rattle.gl_graph.specs.Causes.{SuitsCause}
use Rattle.gl_graph.specs.Derived.{view_of_derived}
use Rattle.gl_graph.specs.Derived as derived
use Rattle.gl_graph.specs.Nodes.{own_of, own_of_node, own_in, state_of, OnInput, AreAmong, AreInTurn, StandsFor, KernelStandsFor}
use Rattle.gl_graph.proofs.MemberChanges.{flat_map_local, lens_local, members_local}

-- a composite's members are among the lists that it depends on
pub inward : (keeps : Keeps) → AreAmong keeps → Inward (own_of keeps)
inward (Source k) among = tt
inward (Over input d) among = tt
inward (Composite needed k) among = among
inward (Held input (h.Transaction t)) among = tt
inward (Held input (h.Freezable since)) among = tt
inward (Proxy input p) among = tt

-- and back
pub among_inward : (keeps : Keeps) → Inward (own_of keeps) → AreAmong keeps
among_inward (Source k) h = tt
among_inward (Over input d) h = tt
among_inward (Composite needed k) h = h
among_inward (Held input held) h = tt
among_inward (Proxy input p) h = tt

node_inward : (node : Option Node) → ((n : Node) → node ≡ Some n → AreAmong n.keeps) → Inward (own_of_node node)
node_inward None among = tt
node_inward (Some node) among = inward node.keeps (among node refl)

-- what a list of the state keeps
pub own_at_state : (nodes : List Node) (positions : List ℕ) (list : ℕ) → list < length positions → own_at (state_of nodes positions) list ≡ own_in nodes positions list
own_at_state nodes positions list within =
    unwrap_or-slice_get (state_of nodes positions) list (source []) ∙ get_or-map-range_with_len (own_in nodes positions) 0 (length positions) list list (source []) within (omega arith)

pub long_state : (nodes : List Node) (positions : List ℕ) → length (state_of nodes positions) ≡ length positions
long_state nodes positions = length-map-range_with_len (own_in nodes positions) 0 (length positions)

pub state_inward : (nodes : List Node) (positions : List ℕ) → AreInTurn nodes positions → IsInward (state_of nodes positions)
state_inward nodes positions dependency_order list = elim (cases_lt list (length positions)) [
  | inl within ↦ subst Inward (sym (own_at_state nodes positions list within))
      (node_inward (slice_get nodes (slice_index positions list)) (λ n e. (dependency_order (slice_index positions list) n e).among))
  | inr past ↦ subst Inward (sym (own_past (state_of nodes positions) list (omega (arith, past, long_state nodes positions)))) tt
]

-- ---- what is said of the inputs of a list

only : (P : ℕ → Type 0) (input i : ℕ) → P input → Contains (input ∷ []) i → P i
only P input i h c = elim (Contains-cons_cases input [] i c) [
  | inl e ↦ subst P e h
  | inr nothing ↦ absurd (omega (arith, nothing.1))
]

-- said of all items of a list
pub all_of : (P : ℕ → Type 0) (xs : List ℕ) → ((i : ℕ) → Contains xs i → P i) → All P xs
all_of P xs f = All-weaker (Contains xs) P f xs (All-contains_itself xs)

-- said of each input
pub each_input : (P : ℕ → Type 0) (keeps : Keeps) (i : ℕ) → OnInput P keeps → Contains (inputs (own_of keeps)) i → P i
each_input P (Source k) i h c = absurd (omega (arith, c.1))
each_input P (Over input d) i h c = only P input i h c
each_input P (Composite needed k) i h c = All-contains P needed i h c
each_input P (Held input (h.Transaction t)) i said c = only P input i said c
each_input P (Held input (h.Freezable since)) i said c = only P input i said c
each_input P (Proxy input p) i said c = only P input i said c

pub on_inputs : (P : ℕ → Type 0) (keeps : Keeps) → ((i : ℕ) → Contains (inputs (own_of keeps)) i → P i) → OnInput P keeps
on_inputs P (Source k) f = tt
on_inputs P (Over input d) f = f input (Contains-here input [] input refl)
on_inputs P (Composite needed k) f = all_of P needed f
on_inputs P (Held input (h.Transaction t)) f = f input (Contains-here input [] input refl)
on_inputs P (Held input (h.Freezable since)) f = f input (Contains-here input [] input refl)
on_inputs P (Proxy input p) f = f input (Contains-here input [] input refl)

-- ---- what goes by the inputs of a list

-- its members are among its inputs
member_input : (needed : List ℕ) (k : Kept) (member : ℕ) → All (λ list. Contains needed list) k.lists → Contains k.lists member → Contains needed member
member_input needed k member among c = All-contains (λ list. Contains needed list) k.lists member among c

pub follow_local : (keeps : Keeps) (f g : ℕ → List Tree) (d e : ℕ → Delta) → AreAmong keeps → ((i : ℕ) → Contains (inputs (own_of keeps)) i → f i ≡ g i)
    → ((i : ℕ) → Contains (inputs (own_of keeps)) i → d i ≡ e i) → follow (own_of keeps) f d ≡ follow (own_of keeps) g e
follow_local (Source k) f g d e among same told = refl
follow_local (Over input o) f g d e among same told =
    ap (λ xs. follow_of (view_of_derived o) xs (d input)) (same input (Contains-here input [] input refl))
    ∙ ap (follow_of (view_of_derived o) (g input)) (told input (Contains-here input [] input refl))
follow_local (Composite needed k) f g d e among same told =
    ap normal (flat_map_local k.lists d e (λ i c. told i (member_input needed k i among c)))
follow_local (Held input (h.Transaction t)) f g d e among same told = told input (Contains-here input [] input refl)
follow_local (Held input (h.Freezable since)) f g d e among same told = told input (Contains-here input [] input refl)
follow_local (Proxy input p) f g d e among same told = refl

-- the delta with which a wave begins
level_local : (of : Command) (input : ℕ) (levels : List Delta) (f g : ℕ → List Tree) → IsOfLevels of → f input ≡ g input
    → first_delta of (transaction input levels) f ≡ first_delta of (transaction input levels) g
level_local (c.Begin list) input [] f g suits same = ap (λ xs. no_change (length xs)) same
level_local (c.Begin list) input (level ∷ levels) f g suits same = refl
level_local (c.Commit list) input [] f g suits same = ap (λ xs. no_change (length xs)) same
level_local (c.Commit list) input (level ∷ levels) f g suits same = refl
level_local (c.Rollback list) input [] f g suits same = ap (λ xs. no_change (length xs)) same
level_local (c.Rollback list) input (level ∷ levels) f g suits same = refl
level_local other input levels f g suits same = absurd suits

since_local : (of : Command) (input : ℕ) (since : Option Delta) (f g : ℕ → List Tree) → IsOfFreezing of → f input ≡ g input
    → first_delta of (freezable input since) f ≡ first_delta of (freezable input since) g
since_local (c.Freeze list) input None f g suits same = ap (λ xs. no_change (length xs)) same
since_local (c.Freeze list) input (Some since) f g suits same = refl
since_local (c.Thaw list) input None f g suits same = ap (λ xs. no_change (length xs)) same
since_local (c.Thaw list) input (Some since) f g suits same = refl
since_local other input since f g suits same = absurd suits

first_local : (of : Command) (keeps : Keeps) (f g : ℕ → List Tree) → AreAmong keeps → Suits of (own_of keeps)
    → ((i : ℕ) → Contains (inputs (own_of keeps)) i → f i ≡ g i) → first_delta of (own_of keeps) f ≡ first_delta of (own_of keeps) g
first_local of (Source k) f g among suits same = refl
first_local of (Over input o) f g among suits same = ap (parameter_change (parameter_of of) (view_of_derived o)) (same input (Contains-here input [] input refl))
first_local of (Composite needed k) f g among suits same = members_local of needed k.lists f g among suits same
first_local of (Held input (h.Transaction t)) f g among suits same = level_local of input t.levels f g suits (same input (Contains-here input [] input refl))
first_local of (Held input (h.Freezable since)) f g among suits same = since_local of input since f g suits (same input (Contains-here input [] input refl))
first_local of (Proxy input p) f g among suits same = absurd suits

pub begun_local : (cause : Cause) (keeps : Keeps) (f g : ℕ → List Tree) → AreAmong keeps → SuitsCause cause (own_of keeps)
    → ((i : ℕ) → Contains (inputs (own_of keeps)) i → f i ≡ g i) → begun_with cause (own_of keeps) f ≡ begun_with cause (own_of keeps) g
begun_local (command of) keeps f g among suits same = first_local of keeps f g among suits same
begun_local (pump list) (Proxy input p) f g among suits same = refl
begun_local (pump list) (Source k) f g among suits same = absurd suits
begun_local (pump list) (Over input d) f g among suits same = absurd suits
begun_local (pump list) (Composite needed k) f g among suits same = absurd suits
begun_local (pump list) (Held input (h.Transaction t)) f g among suits same = absurd suits
begun_local (pump list) (Held input (h.Freezable since)) f g among suits same = absurd suits

pub stands_local : (keeps : Keeps) (f g : ℕ → List Tree) → AreAmong keeps → ((i : ℕ) → Contains (inputs (own_of keeps)) i → f i ≡ g i) → StandsFor keeps f → StandsFor keeps g
stands_local (Source k) f g among same h = tt
stands_local (Over input d) f g among same h = subst (derived.StandsFor d) (same input (Contains-here input [] input refl)) h
stands_local (Composite needed k) f g among same h =
    h ∙ lens_local k.lists f g (λ i c. same i (member_input needed k i among c))
stands_local (Held input (h.Transaction t)) f g among same led = subst (LedTo t.levels) (same input (Contains-here input [] input refl)) led
stands_local (Held input (h.Freezable since)) f g among same led = subst (LedTo (since_frozen since)) (same input (Contains-here input [] input refl)) led
stands_local (Proxy input p) f g among same h = tt

-- what a held list stands for is that its state fits
pub stands_whole : (keeps : Keeps) (shows : ℕ → List Tree) → KernelStandsFor keeps shows → FitsOver shows (own_of keeps) → StandsFor keeps shows
stands_whole (Source k) shows stands fits = tt
stands_whole (Over input d) shows stands fits = stands
stands_whole (Composite needed k) shows stands fits = stands
stands_whole (Held input (h.Transaction t)) shows stands fits = fits
stands_whole (Held input (h.Freezable since)) shows stands fits = fits
stands_whole (Proxy input p) shows stands fits = tt

pub fits_local : (own : Own) (f g : ℕ → List Tree) → ((i : ℕ) → Contains (inputs own) i → f i ≡ g i) → FitsOver f own → FitsOver g own
fits_local (source contents) f g same fits = tt
fits_local (over input view) f g same fits = tt
fits_local (composite needed members) f g same fits = tt
fits_local (transaction input levels) f g same fits = subst (LedTo levels) (same input (Contains-here input [] input refl)) fits
fits_local (freezable input since) f g same fits = subst (LedTo (since_frozen since)) (same input (Contains-here input [] input refl)) fits
fits_local (proxy input kept queue) f g same fits = fits

-- what a list keeps after a cause that is about it
command_local : (of : Command) (own : Own) (f g : ℕ → List Tree) → ((i : ℕ) → Contains (inputs own) i → f i ≡ g i) → kept_after of f own ≡ kept_after of g own
command_local of (source contents) f g same = refl
command_local of (over input view) f g same = refl
command_local of (composite needed members) f g same = refl
command_local of (transaction input levels) f g same =
    ap (λ (xs : List Tree). transaction input (levels_after of (length xs) levels)) (same input (Contains-here input [] input refl))
command_local of (freezable input since) f g same =
    ap (λ (xs : List Tree). freezable input (since_after of (length xs) since)) (same input (Contains-here input [] input refl))
command_local of (proxy input kept queue) f g same = refl

pub kept_local : (cause : Cause) (own : Own) (f g : ℕ → List Tree) → ((i : ℕ) → Contains (inputs own) i → f i ≡ g i) → kept_by cause f own ≡ kept_by cause g own
kept_local (command of) own f g same = command_local of own f g same
kept_local (pump list) own f g same = refl

-- and after a wave that isn't about it, where it is held
pub later_local : (list : ℕ) (own : Own) (d e : ℕ → Delta) → is_held own ≡ true → ((i : ℕ) → Contains (inputs own) i → d i ≡ e i)
    → kept_later list own d ≡ kept_later list own e
later_local list (source contents) d e held told = absurd cc
later_local list (over input view) d e held told = refl
later_local list (composite needed members) d e held told = refl
later_local list (transaction input []) d e held told = refl
later_local list (transaction input (level ∷ levels)) d e held told =
    ap (λ p. transaction input (composed level p ∷ levels)) (told input (Contains-here input [] input refl))
later_local list (freezable input None) d e held told = refl
later_local list (freezable input (Some since)) d e held told =
    ap (λ p. freezable input (Some (composed since p))) (told input (Contains-here input [] input refl))
later_local list (proxy input kept queue) d e held told = refl
