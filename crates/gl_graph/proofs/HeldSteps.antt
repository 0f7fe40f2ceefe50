-- What a list that can be held shows and keeps.
use Rattle.std.proofs.Common.{◌≡◌, ◌≢◌, ◌∙◌, ℕ, ◌≤◌, true, List, [], ◌∷◌, length, map, refl, ap, sym, subst, arith}
use Rattle.std.specs.Prelude.{Option, Some, None, IsSome, slice_get, slice_index_or}
use Rattle.std.proofs.lemmas.Option.{slice_get_past}
use Rattle.spec_states.proofs.Members.{Contains-here}
use Rattle.spec_states.specs.Tree.{Tree}
use Rattle.spec_states.specs.Piece.{inverted, old_len, new_len}
use Rattle.spec_states.proofs.DeltaLeads.{length_from}
use Rattle.spec_states.specs.Delta.{Delta, composed}
use Rattle.spec_states.specs.Leads.{LeadsTo}
use Rattle.spec_states.specs.Command.{Command}
use Rattle.spec_states.specs.Command.TheVariants as c
use Rattle.spec_states.specs.State.{Own, source, over, composite, transaction, freezable, proxy}
use Rattle.spec_states.specs.Shown.{is_held, shown_of, undone_all}
use Rattle.spec_states.specs.Wave.{Cause, command as made_by, pump, kept_after, kept_by, kept_later, levels_after, since_after, follow}
use Rattle.spec_states.specs.Laws.{LedTo}
use Rattle.gl_source.specs.Model.{DeltaModel}
use Rattle.gl_held.specs.Levels.{BeginsWith, followed, held_len}
use Rattle.gl_held.specs.declared.undo.HeldUndo.{HeldUndo}
use Rattle.gl_held.proofs.LevelLists.{held_none, held_is, length_undone}
use Rattle.gl_graph.specs.declared.held.Held.{Held}
use Rattle.gl_graph.specs.declared.held.Held.TheVariants.{Transaction, Freezable}
use Rattle.gl_graph.specs.declared.keeps.Keeps.{Keeps}
use Rattle.gl_graph.specs.declared.keeps.Keeps.TheVariants as k
use Rattle.gl_graph.specs.declared.keeps.KeepsUndo.TheVariants as u
use Rattle.gl_graph.specs.declared.turned.Turned.{Turned}
use Rattle.gl_graph.specs.declared.turned.Turned.TheVariants.{Stays, Silent, Told}
use Rattle.gl_graph.specs.declared.graph.Refused.{Refused}
use Rattle.gl_graph.specs.declared.graph.Refused.TheVariants.{OutOfRange, TooLong, AlreadyFrozen, NotFrozen, NotOpen, Memory}
use Rattle.gl_graph.specs.Held.{own_of_held, deltas_of, StandsFor, contents, own_by, room_of, IsUndo, taken, HasTaken, composed_with}
use Rattle.gl_graph.specs.Nodes.{own_of}
use Rattle.gl_graph.specs.Commands.{IsNoRollback}
use Rattle.gl_graph.specs.Causes.{IsPlain}
use Rattle.gl_graph.specs.Room.{IsNoMore}
use Rattle.gl_graph.specs.Undos as keeps
use Rattle.gl_graph.specs.Spread.{delta_of, delta_told, shown_before, IsReached, HasTurned, IsOwnStep, turned_by, IsRefusalOf, IsOwnStopped, one_less, HasDropped, CanRoll, HasKept, IsOtherStep}
use Rattle.gl_graph.proofs.NoMore.{no_more}

-- what is held has deltas
pub levels_open : (levels : List Delta) → is_held (transaction 0 levels) ≡ true → levels ≢ []
levels_open [] e f = absurd cc
levels_open (level ∷ levels) e f = absurd cc

pub since_some : (since : Option Delta) → is_held (freezable 0 since) ≡ true → IsSome since
since_some None e = absurd cc
since_some (Some d) e = refl

-- it shows what its input did before them
pub held_shows : (input : ℕ) (held : Held) (shows : ℕ → List Tree) → shown_of (own_of_held input held) shows ≡ undone_all (deltas_of held) (shows input)
held_shows input (Transaction t) shows = refl
held_shows input (Freezable None) shows = refl
held_shows input (Freezable (Some since)) shows = refl

pub free_shows : (input : ℕ) (held : Held) (shows : ℕ → List Tree) → None ≡ held_len (deltas_of held) → shown_of (own_of_held input held) shows ≡ shows input
free_shows input held shows e = held_shows input held shows ∙ ap (λ ds. undone_all ds (shows input)) (held_none (deltas_of held) (sym e))

pub len_shows : (input : ℕ) (held : Held) (shows : ℕ → List Tree) (len : ℕ) → Some len ≡ held_len (deltas_of held) → StandsFor held (shows input)
    → len ≡ length (shown_of (own_of_held input held) shows)
len_shows input held shows len e stands = held_is (deltas_of held) len (shows input) stands (sym e) ∙ ap length (sym (held_shows input held shows))

pub past_shows : (input : ℕ) (held : Held) (shows : ℕ → List Tree) (len position : ℕ) → Some len ≡ held_len (deltas_of held) → len ≤ position → StandsFor held (shows input)
    → None ≡ slice_get (shown_of (own_of_held input held) shows) position
past_shows input held shows len position e past stands =
    sym (slice_get_past (shown_of (own_of_held input held) shows) position (omega (arith, past, len_shows input held shows len e stands)))

-- ---- what it needs before it begins or follows

length_to : (d : Delta) (xs : List Tree) → LeadsTo d xs → length xs ≡ new_len d
length_to d xs leads = length_from (map inverted d) xs leads

pub begins_with : (ds : List Delta) (xs : List Tree) (n : ℕ) → LedTo ds xs → n ≡ length xs → BeginsWith n ds
begins_with [] xs n led e = tt
begins_with (d ∷ ds) xs n led e = e ∙ length_to d xs led.0

pub follows_from : (deltas : List (Option DeltaModel)) (shows : ℕ → List Tree) (input : ℕ) (held : Held) (d : DeltaModel) → slice_index_or deltas input None ≡ Some d
    → LeadsTo (delta_told deltas shows input) (shows input) → StandsFor held (shown_before deltas shows input) → BeginsWith (old_len d.pieces) (deltas_of held)
follows_from deltas shows input held d told leads stands =
    begins_with (deltas_of held) (shown_before deltas shows input) (old_len d.pieces) stands
    (ap old_len (sym (ap (λ o. delta_of o (length (shows input))) told)) ∙ sym (length_undone (delta_told deltas shows input) (shows input) leads))

-- ---- what becomes of it

own_contents : (input : ℕ) (held : Held) → own_of_held input held ≡ own_by input (contents held)
own_contents input (Transaction t) = refl
own_contents input (Freezable since) = refl

undo_of : (input : ℕ) (old new : Held) (undo : HeldUndo) → IsUndo undo old new → keeps.IsUndo (u.Held undo) (k.Held input old) (k.Held input new)
undo_of input old new undo is = record { back = ap (keeps.of_held input) is.back; room = is.room; can = is.can }

-- it has taken a command
taken_own : (command : Command) (shows : ℕ → List Tree) (input len : ℕ) (held : Held) → len ≡ length (shows input)
    → own_by input (taken command len held) ≡ kept_after command shows (own_of_held input held)
taken_own command shows input len (Transaction t) e = ap (λ n. transaction input (levels_after command n t.levels)) e
taken_own command shows input len (Freezable since) e = ap (λ n. freezable input (since_after command n since)) e

taken_turn : (command : Command) (shows : ℕ → List Tree) (input len : ℕ) (old new : Held) (told : Option DeltaModel) (undo : HeldUndo) → len ≡ length (shows input)
    → HasTaken command len old new (told, undo) → HasTurned shows (kept_after command shows (own_of_held input old)) (k.Held input old) (k.Held input new) (u.Held undo)
taken_turn command shows input len old new told undo e h = record {
  stands = tt;
  own_is = own_contents input new ∙ (ap (own_by input) h.kept ∙ taken_own command shows input len old e);
  limit = refl;
  is_undo = undo_of input old new undo h.undo;
}

pub taken_step : (command : Command) (shows : ℕ → List Tree) (list input len : ℕ) (old new : Held) (told : Option DeltaModel) (undo : HeldUndo) → len ≡ length (shows input)
    → HasTaken command len old new (told, undo) → IsOwnStep shows (made_by command) list (k.Held input old) (k.Held input new) (turned_by told undo)
taken_step command shows list input len old new None undo e h = record {
  inside = h.inside input;
  elsewhere = λ here. absurd (not_some list (sym (h.told list input) ∙ here));
  turned = taken_turn command shows input len old new None undo e h;
}
  where
    not_some : (n : ℕ) → None ≡ Some n → ⊥
    not_some n e = absurd cc
taken_step command shows list input len old new (Some d) undo e h = record {
  inside = h.inside input;
  here = (h.told list input shows).0;
  told = record { told = (h.told list input shows).1; turned = taken_turn command shows input len old new (Some d) undo e h };
}

-- or refuses it
pub own_stopped : (limit : ℕ) (shows : ℕ → List Tree) (command : Command) (list : ℕ) (own : Own) (why : Refused) → IsRefusalOf own (made_by command) why
    → IsOwnStopped limit shows (made_by command) list own why
own_stopped limit shows command list own (OutOfRange index len) h = h
own_stopped limit shows command list own (TooLong number len) h = absurd h
own_stopped limit shows command list own AlreadyFrozen h = h
own_stopped limit shows command list own NotFrozen h = h
own_stopped limit shows command list own NotOpen h = h
own_stopped limit shows command list own Memory h = h

-- it has dropped a level
kept_less : (command : Command) (own : Own) (shows : ℕ → List Tree) → ¬ IsNoRollback command → one_less own ≡ kept_after command shows own
kept_less (c.Rollback list) (source contents) shows h = refl
kept_less (c.Rollback list) (over input view) shows h = refl
kept_less (c.Rollback list) (composite needed members) shows h = refl
kept_less (c.Rollback list) (transaction input levels) shows h = refl
kept_less (c.Rollback list) (freezable input since) shows h = refl
kept_less (c.Rollback list) (proxy input kept queue) shows h = refl
kept_less other own shows h = absurd (h tt)

less_by : (cause : Cause) (own : Own) (shows : ℕ → List Tree) → ¬ IsPlain cause → one_less own ≡ kept_by cause shows own
less_by (made_by command) own shows h = kept_less command own shows h
less_by (pump list) own shows h = absurd (h tt)

pub dropped_step : (cause : Cause) (shows : ℕ → List Tree) (list : ℕ) (old new : Keeps) (turned : Turned) → CanRoll cause list old → HasDropped old new turned
    → IsOwnStep shows cause list old new turned
dropped_step cause shows list old new Stays can h = absurd h
dropped_step cause shows list old new (Told d undo) can h = absurd h
dropped_step cause shows list old new (Silent undo) can h = record {
  inside = can.inside;
  elsewhere = can.elsewhere;
  turned = record {
    stands = (h shows).stands;
    own_is = (h shows).own_is ∙ less_by cause (own_of old) shows can.rollback;
    limit = (h shows).limit;
    is_undo = (h shows).is_undo;
  };
}

-- it keeps a delta of its input
kept_own : (shows : ℕ → List Tree) (deltas : List (Option DeltaModel)) (list input : ℕ) (held : Held) (d : DeltaModel) → slice_index_or deltas input None ≡ Some d
    → is_held (own_of_held input held) ≡ true → own_by input (composed_with d.pieces held) ≡ kept_later list (own_of_held input held) (delta_told deltas shows)
kept_own shows deltas list input (Transaction t) d told held = by_levels t.levels held
  where
    by_levels : (levels : List Delta) → is_held (transaction input levels) ≡ true → transaction input (followed levels d.pieces) ≡ kept_later list (transaction input levels) (delta_told deltas shows)
    by_levels [] e = absurd cc
    by_levels (level ∷ levels) e = ap (λ o. transaction input (composed level (delta_of o (length (shows input))) ∷ levels)) (sym told)
kept_own shows deltas list input (Freezable None) d told held = absurd cc
kept_own shows deltas list input (Freezable (Some since)) d told held = ap (λ o. freezable input (Some (composed since (delta_of o (length (shows input)))))) (sym told)

follow_own : (shows before : ℕ → List Tree) (deltas : List (Option DeltaModel)) (input : ℕ) (held : Held) → follow (own_of_held input held) before (delta_told deltas shows) ≡ delta_told deltas shows input
follow_own shows before deltas input (Transaction t) = refl
follow_own shows before deltas input (Freezable since) = refl

reached_by : (deltas : List (Option DeltaModel)) (input : ℕ) (held : Held) (d : DeltaModel) → slice_index_or deltas input None ≡ Some d → IsReached deltas (own_of_held input held)
reached_by deltas input (Transaction t) d told = record { input = input; among = Contains-here input [] input refl; d = d; told = told }
reached_by deltas input (Freezable since) d told = record { input = input; among = Contains-here input [] input refl; d = d; told = told }

pub kept_step : (shows : ℕ → List Tree) (deltas : List (Option DeltaModel)) (list input : ℕ) (old new : Held) (d : DeltaModel) (turned : Turned) → slice_index_or deltas input None ≡ Some d
    → HasKept d old new turned → IsOtherStep shows deltas list (k.Held input old) (k.Held input new) turned
kept_step shows deltas list input old new d (Silent (u.Held undo)) told h = record {
  reached = reached_by deltas input old d told;
  held = h.0 input;
  turned = record {
    stands = tt;
    own_is = own_contents input new ∙ (ap (own_by input) h.1.0 ∙ kept_own shows deltas list input old d told (h.0 input));
    limit = refl;
    is_undo = undo_of input old new undo h.1.1;
  };
}
kept_step shows deltas list input old new d (Told out u.Unchanged) told h = record {
  reached = reached_by deltas input old d told;
  free = h.0 input;
  told = record {
    told = h.1.1 ∙ (ap (λ o. delta_of o (length (shows input))) (sym told) ∙ sym (follow_own shows (shown_before deltas shows) deltas input old));
    turned = record {
      stands = tt;
      own_is = ap (own_of_held input) h.1.0;
      limit = refl;
      is_undo = record {
        back = ap (λ held. keeps.contents (k.Held input held)) h.1.0;
        room = subst (λ held. IsNoMore (room_of old) (room_of held)) (sym h.1.0) (no_more (room_of old));
        can = tt;
      };
    };
  };
}
kept_step shows deltas list input old new d Stays told h = absurd h
kept_step shows deltas list input old new d (Silent (u.Source undo)) told h = absurd h
kept_step shows deltas list input old new d (Silent (u.Over undo)) told h = absurd h
kept_step shows deltas list input old new d (Silent (u.Composite undo)) told h = absurd h
kept_step shows deltas list input old new d (Silent u.Unchanged) told h = absurd h
kept_step shows deltas list input old new d (Told out (u.Source undo)) told h = absurd h
kept_step shows deltas list input old new d (Told out (u.Over undo)) told h = absurd h
kept_step shows deltas list input old new d (Told out (u.Composite undo)) told h = absurd h
kept_step shows deltas list input old new d (Told out (u.Held undo)) told h = absurd h
kept_step shows deltas list input old new d (Silent (u.Pumped undo)) told h = absurd h
kept_step shows deltas list input old new d (Told out (u.Pumped undo)) told h = absurd h
