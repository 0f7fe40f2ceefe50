-- What one command does to the deltas of a section.
use Rattle.std.proofs.Common.{◌≡◌, ◌∙◌, ℕ, zero, suc, ◌<◌, List, [], ◌∷◌, length, refl, ap, sym, subst, arith}
use Rattle.std.specs.Prelude.{Option, Some, None, slice_index_or}
use Rattle.spec_states.specs.Tree.{Tree}
use Rattle.spec_states.specs.Piece.{IsNormal, old_len, new_len}
use Rattle.spec_states.specs.Leads.{IsDelta}
use Rattle.spec_states.specs.Delta.{Delta, no_change, composed}
use Rattle.spec_states.proofs.Lengths.{new_len-identity}
use Rattle.spec_states.specs.Command.{Command}
use Rattle.spec_states.specs.Reply.{Reply}
use Rattle.spec_states.specs.Reply.TheVariants.{Done}
use Rattle.gl_delta.specs.Model.{DeltaModel}
use Rattle.spec_states.specs.Plan.{origin as about}
use Rattle.spec_states.specs.State.{State, own_at}
use Rattle.spec_states.specs.Shown.{Table, shows_in, table_of, shown}
use Rattle.spec_states.specs.Wave.{Cause, Deltas, delta_in, wave, wave_deltas, command as made_by}
use Rattle.spec_states.specs.Step.{step, unmoved}
use Rattle.spec_states.specs.Laws.{IsSound, Lead}
use Rattle.spec_states.proofs.Views.{length-table_of}
use Rattle.spec_states.proofs.Waves.{step_leads}
use Rattle.spec_runs.specs.Section.{composed_all}
use Rattle.spec_runs.proofs.Sections.{old_len_leads, new_len_leads, composed_nothing, nothing_composed, composed_in, then_unchanged}
use Rattle.spec_runs.proofs.KeptKinds.{Suits}
use Rattle.spec_runs.proofs.Steps.{still_deltas}
use Rattle.gl_graph.specs.declared.graph.Refused.{Refused}
use Rattle.gl_graph.specs.declared.graph.Refused.TheVariants.{OutOfRange, TooLong, AlreadyFrozen, NotFrozen, NotOpen, Memory}
use Rattle.gl_graph.specs.Waves.{IsTold, AreTold, IsRefused}
use Rattle.gl_world.specs.Refusals.{reply_of}
use Rattle.gl_world.specs.Joined.{IsJoined, AreJoined, Meet, AreMeeting}
use Rattle.gl_world.specs.Section.{IsDeltaSofar, AreDeltas, Reach, GoOn}

-- ---- a command that is refused

-- its reply is the one that it is refused with
pub unmoved_by : (limit : ℕ) (s : State) (command : Command) (why : Refused) (reply : Reply)
    → IsRefused limit s command why → reply_of why ≡ Some reply → unmoved limit s command ≡ Some reply
unmoved_by limit s command (OutOfRange index len) reply refused is = refused ∙ is
unmoved_by limit s command (TooLong list len) reply refused is = refused ∙ is
unmoved_by limit s command AlreadyFrozen reply refused is = refused ∙ is
unmoved_by limit s command NotFrozen reply refused is = refused ∙ is
unmoved_by limit s command NotOpen reply refused is = refused ∙ is
unmoved_by limit s command Memory reply refused is = absurd cc

-- ---- a command that changes something

pub moved_state : (limit : ℕ) (s : State) (command : Command) → unmoved limit s command ≡ None
    → (step limit s command).state ≡ wave s (made_by command)
moved_state limit s command e = rw e refl

pub moved_reply : (limit : ℕ) (s : State) (command : Command) → unmoved limit s command ≡ None
    → (step limit s command).reply ≡ Done
moved_reply limit s command e = rw e refl

pub moved_deltas : (limit : ℕ) (s : State) (command : Command) → unmoved limit s command ≡ None
    → (step limit s command).deltas ≡ wave_deltas s (made_by command)
moved_deltas limit s command e = rw e refl

-- ---- its deltas

-- one that changes nothing leaves the deltas
pub deltas_still : (limit : ℕ) (s : State) (command : Command) (reply : Reply) (told : List (Option DeltaModel))
    → unmoved limit s command ≡ Some reply → GoOn limit s command told told
deltas_still limit s command reply told e start deltas lead are =
    let same : composed_all deltas (step limit s command).deltas ≡ deltas =
    ap (composed_all deltas) (still_deltas limit s command reply e) ∙ then_unchanged deltas start (table_of s) lead in
    subst (λ ds. AreDeltas start ds told) (sym same) are

-- what there is of a list, joined with what is told of it
joined_one : (p q r : Delta) (xs ys zs : List Tree) (a b now : Option DeltaModel) → IsDelta p xs ys → IsDelta q ys zs
    → IsNormal p → IsNormal q
    → r ≡ composed p q → IsDeltaSofar (length xs) p a → IsTold (length ys) q b → IsJoined a b now
    → IsDeltaSofar (length xs) r now
joined_one p q r xs ys zs a None now dp dq np nq is ha hb j =
    let same : r ≡ p = is ∙ ap (composed p) hb ∙ composed_nothing p xs ys np dp in
    subst (IsDeltaSofar (length xs) r) (sym j) (subst (λ ps. IsDeltaSofar (length xs) ps a) (sym same) ha)
joined_one p q r xs ys zs None (Some e) now dp dq np nq is ha hb j =
    let len : length xs ≡ length ys =
    sym (new_len-identity (length xs)) ∙ ap new_len (sym ha) ∙ new_len_leads p xs ys dp in
    let same : r ≡ q =
    is ∙ ap (λ d. composed d q) (ha ∙ ap no_change len) ∙ nothing_composed q ys zs nq dq in
    subst (IsDeltaSofar (length xs) r) (sym j) (hb.0 ∙ sym same)
joined_one p q r xs ys zs (Some d) (Some e) None dp dq np nq is ha hb j = absurd j
joined_one p q r xs ys zs (Some d) (Some e) (Some m) dp dq np nq is ha hb j =
    j ∙ ap (λ x. composed x e.pieces) ha ∙ ap (composed p) hb.0 ∙ sym is

-- one that changes something joins what is told of the lists
pub deltas_joined : (limit : ℕ) (s : State) (command : Command) (old next new : List (Option DeltaModel)) → IsSound s
    → Suits command (own_at s (about command))
    → unmoved limit s command ≡ None → AreTold s (made_by command) next → AreJoined old next new
    → GoOn limit s command old new
deltas_joined limit s command old next new sound suits e told joined start deltas lead are = record {
  long = joined.long ∙ are.long;
  each = λ list within. one list within;
}
  where
    later : Deltas
    later = (step limit s command).deltas

    led : Lead later (table_of s) (table_of (step limit s command).state)
    led = step_leads limit s command sound suits.attaches suits.takes

    one : (list : ℕ) → list < length start
        → IsDeltaSofar (length (shows_in start list)) (delta_in (composed_all deltas later) list)
        (slice_index_or new list None)
    one list within =
        let middle : list < length (table_of s) = omega (arith, within, lead.same) in
        let there : list < length s = omega (arith, middle, length-table_of s) in
        let q : delta_in (wave_deltas s (made_by command)) list ≡ delta_in later list =
        ap (λ ds. delta_in ds list) (sym (moved_deltas limit s command e)) in
        joined_one (delta_in deltas list) (delta_in later list) (delta_in (composed_all deltas later) list)
        (shows_in start list) (shown s list) (shown (step limit s command).state list)
        (slice_index_or old list None) (slice_index_or next list None) (slice_index_or new list None)
        (lead.each list within) (led.each list middle) (lead.normal list within) (led.normal list middle)
        (composed_in deltas later start (table_of s) (table_of (step limit s command).state) list lead led within)
        (are.each list within)
        (subst (λ d. IsTold (length (shown s list)) d (slice_index_or next list None)) q (told.each list there))
        (joined.each list (omega (arith, within, are.long)))

-- ---- where deltas meet

-- a delta stands under a number of the list
there_within : (told : List (Option DeltaModel)) (list : ℕ) (d : DeltaModel) → slice_index_or told list None ≡ Some d
    → list < length told
there_within [] list d e = absurd cc
there_within (t ∷ told) zero d e = omega arith
there_within (t ∷ told) (suc list) d e = (let low : list < length told = there_within told list d e in
    omega (arith, low))

-- deltas lead to what the lists show
pub reach_of : (start : Table) (deltas : Deltas) (told : List (Option DeltaModel)) (s : State)
    → Lead deltas start (table_of s) → AreDeltas start deltas told → Reach told s
reach_of start deltas told s lead are = record {
  long = are.long ∙ sym lead.same ∙ length-table_of s;
  each = λ list d is.
      let within : list < length start = omega (arith, there_within told list d is, are.long) in
      let same : d.pieces ≡ delta_in deltas list =
      subst (IsDeltaSofar (length (shows_in start list)) (delta_in deltas list)) is (are.each list within) in
      ap new_len same ∙ new_len_leads (delta_in deltas list) (shows_in start list) (shown s list)
      (lead.each list within);
}

meets : (q : Delta) (ys zs : List Tree) (a b : Option DeltaModel) → IsDelta q ys zs
    → ((d : DeltaModel) → a ≡ Some d → new_len d.pieces ≡ length ys) → IsTold (length ys) q b → Meet a b
meets q ys zs None b dq reach told = tt
meets q ys zs (Some d) None dq reach told = tt
meets q ys zs (Some d) (Some e) dq reach told = ap old_len told.0 ∙ old_len_leads q ys zs dq ∙ sym (reach d refl)

-- and those of a command lead on from there
pub are_meeting : (limit : ℕ) (s : State) (command : Command) (old next : List (Option DeltaModel)) → IsSound s
    → Suits command (own_at s (about command)) → unmoved limit s command ≡ None → Reach old s
    → AreTold s (made_by command) next → AreMeeting old next
are_meeting limit s command old next sound suits e reach told list within =
    let there : list < length s = omega (arith, within, reach.long) in
    let led : Lead (step limit s command).deltas (table_of s) (table_of (step limit s command).state) =
    step_leads limit s command sound suits.attaches suits.takes in
    let q : delta_in (wave_deltas s (made_by command)) list ≡ delta_in (step limit s command).deltas list =
    ap (λ ds. delta_in ds list) (sym (moved_deltas limit s command e)) in
    meets (delta_in (step limit s command).deltas list) (shown s list) (shown (step limit s command).state list)
    (slice_index_or old list None) (slice_index_or next list None)
    (led.each list (omega (arith, there, length-table_of s)))
    (λ d is. reach.each list d is)
    (subst (λ d. IsTold (length (shown s list)) d (slice_index_or next list None)) q (told.each list there))

-- what is told in a wave is what became of the lists
pub told_deltas : (s : State) (cause : Cause) (told : List (Option DeltaModel)) → AreTold s cause told
    → AreDeltas (table_of s) (wave_deltas s cause) told
told_deltas s cause told are = record {
  long = are.long ∙ sym (length-table_of s);
  each = λ list within.
      sofar (length (shown s list)) (delta_in (wave_deltas s cause) list) (slice_index_or told list None)
      (are.each list (omega (arith, within, length-table_of s)));
}
  where
    sofar : (n : ℕ) (delta : Delta) (o : Option DeltaModel) → IsTold n delta o → IsDeltaSofar n delta o
    sofar n delta None is = is
    sofar n delta (Some d) is = is.0
