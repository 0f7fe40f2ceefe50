-- The commands of a section, one after another.
use Rattle.std.proofs.Common.{◌≡◌, ◌∙◌, ℕ, zero, suc, ◌+◌, ◌<◌, ◌++◌, List, [], ◌∷◌, length, take, get_or, replicate, refl, ap, sym, subst, arith}
use Rattle.std.specs.Prelude.{Option, None, slice_index_or}
use Rattle.std.specs.List.{AllByRecursion}
use Rattle.std.proofs.lemmas.List.{length-replicate}
use Rattle.spec_states.specs.Command.{Command}
use Rattle.spec_states.specs.Reply.{Reply}
use Rattle.gl_delta.specs.Model.{DeltaModel}
use Rattle.spec_states.specs.State.{State}
use Rattle.spec_states.specs.Shown.{shows_in, table_of}
use Rattle.spec_states.specs.Wave.{delta_in, unchanged}
use Rattle.spec_states.specs.Step.{step}
use Rattle.spec_states.specs.Laws.{IsSound, Lead}
use Rattle.spec_states.proofs.Views.{length-table_of}
use Rattle.spec_states.proofs.Waves.{unchanged_at}
use Rattle.spec_runs.specs.Kinds.{IsFor}
use Rattle.spec_runs.specs.Section.{state_after, replies_to, section_deltas, composed_all}
use Rattle.spec_runs.proofs.Sections.{section_leads, after_sound}
use Rattle.spec_runs.proofs.Steps.{state_push, replies_push, deltas_push}
use Rattle.spec_runs.proofs.KeptKinds.{after_keeps}
use Rattle.spec_runs.proofs.Suits.{for_kept, all_suit}
use Rattle.gl_graph.specs.declared.graph.GraphUndo.{GraphUndo}
use Rattle.gl_graph.specs.Graph.{Kept, state_of}
use Rattle.gl_world.specs.Back.{Leads, GoesOn}
use Rattle.gl_world.specs.Section.{IsDeltaSofar, AreDeltas, Reach, GoOn}
use Rattle.gl_world.proofs.Backs.{like_same}
use Rattle.gl_world.proofs.Commands.{reach_of}
use Rattle.spec_states.proofs.Lists.{replicate_at}

-- these commands were taken from a graph on
pub record AreTaken (start : Kept) (commands : List Command) (now : Kept) (replies : List Reply)
    (told : List (Option DeltaModel)) (undos : List GraphUndo) : Type 0 where
  pub limit : now.limit ≡ start.limit
  pub state : state_of now ≡ state_after start.limit (state_of start) commands
  pub replies_are : replies ≡ replies_to start.limit (state_of start) commands
  pub told_are : AreDeltas (table_of (state_of start)) (section_deltas start.limit (state_of start) commands) told
  pub back : Leads undos start now

-- none yet
pub taken_none : (start : Kept) (replies : List Reply) (told : List (Option DeltaModel)) (undos : List GraphUndo) (lists : ℕ)
    → replies ≡ [] → told ≡ replicate lists None → undos ≡ [] → lists ≡ length (state_of start)
    → AreTaken start [] start replies told undos
taken_none start replies told undos lists none is empty many = record {
  limit = refl;
  state = refl;
  replies_are = none;
  told_are = record {
    long = ap length is ∙ length-replicate lists None ∙ many ∙ sym (length-table_of (state_of start));
    each = λ list within.
        subst (IsDeltaSofar (length (shows_in (table_of (state_of start)) list))
        (delta_in (unchanged (table_of (state_of start))) list))
        (sym (ap (λ xs. slice_index_or xs list None) is ∙ replicate_at None lists list))
        (unchanged_at (table_of (state_of start)) list within);
  };
  back = subst (λ us. Leads us start start) (sym empty) (like_same start);
}

-- one more
pub taken_more : (start : Kept) (commands all : List Command) (command : Command) (now next : Kept)
    (replies more : List Reply)
    (told after : List (Option DeltaModel)) (undos back : List GraphUndo) → IsSound (state_of start)
    → AllByRecursion (λ c. IsFor c (state_of start)) commands → AreTaken start commands now replies told undos → all ≡ commands ++ command ∷ []
    → next.limit ≡ now.limit → state_of next ≡ (step now.limit (state_of now) command).state
    → more ≡ replies ++ (step now.limit (state_of now) command).reply ∷ []
    → GoOn now.limit (state_of now) command told after → GoesOn undos now back next
    → AreTaken start all next more after back
taken_more start commands all command now next replies more told after undos back sound suits h all_are limit state reply
    go on =
    subst (λ cs. AreTaken start cs next more after back) (sym all_are) taken
  where
    s : State
    s = state_of start

    here : State
    here = state_after start.limit s commands

    same : step now.limit (state_of now) command ≡ step start.limit here command
    same = ap (λ n. step n (state_of now) command) h.limit ∙ ap (λ r. step start.limit r command) h.state

    lead : Lead (section_deltas start.limit s commands) (table_of s) (table_of (state_of now))
    lead = subst (λ r. Lead (section_deltas start.limit s commands) (table_of s) (table_of r)) (sym h.state)
        (section_leads start.limit s commands sound (all_suit s commands suits))

    deltas : section_deltas start.limit s (commands ++ command ∷ [])
        ≡ composed_all (section_deltas start.limit s commands) (step now.limit (state_of now) command).deltas
    deltas = deltas_push start.limit s commands command
        ∙ ap (λ r. composed_all (section_deltas start.limit s commands) r.deltas) (sym same)

    taken : AreTaken start (commands ++ command ∷ []) next more after back
    taken = record {
      limit = limit ∙ h.limit;
      state = state ∙ ap (λ r. r.state) same ∙ sym (state_push start.limit s commands command);
      replies_are = reply ∙ ap (λ r. replies ++ r.reply ∷ []) same
          ∙ ap (λ rs. rs ++ (step start.limit here command).reply ∷ []) h.replies_are
          ∙ sym (replies_push start.limit s commands command);
      told_are = subst (λ ds. AreDeltas (table_of s) ds after) (sym deltas)
          (go (table_of s) (section_deltas start.limit s commands) lead h.told_are);
      back = on start h.back;
    }

-- what the next command needs
pub taken_reach : (start : Kept) (commands : List Command) (now : Kept) (replies : List Reply)
    (told : List (Option DeltaModel))
    (undos : List GraphUndo) → IsSound (state_of start) → AllByRecursion (λ c. IsFor c (state_of start)) commands
    → AreTaken start commands now replies told undos → Reach told (state_of now)
taken_reach start commands now replies told undos sound suits h =
    let s : State = state_of start in
    reach_of (table_of s) (section_deltas start.limit s commands) told (state_of now)
    (subst (λ r. Lead (section_deltas start.limit s commands) (table_of s) (table_of r)) (sym h.state)
    (section_leads start.limit s commands sound (all_suit s commands suits))) h.told_are

-- the state stays sound
pub taken_sound : (start : Kept) (commands : List Command) (now : Kept) (replies : List Reply)
    (told : List (Option DeltaModel)) (undos : List GraphUndo) → IsSound (state_of start)
    → AllByRecursion (λ c. IsFor c (state_of start)) commands → AreTaken start commands now replies told undos
    → IsSound (state_of now)
taken_sound start commands now replies told undos sound suits h =
    subst IsSound (sym h.state)
    (after_sound start.limit (state_of start) commands sound (all_suit (state_of start) commands suits))

-- what all commands have, those before an index have
pub all_before : {X : Type 0} (P : X → Type 0) (xs : List X) (k : ℕ) → AllByRecursion P xs → AllByRecursion P (take k xs)
all_before P [] zero h = tt
all_before P [] (suc k) h = tt
all_before P (x ∷ xs) zero h = tt
all_before P (x ∷ xs) (suc k) h = (h.0, all_before P xs k h.1)

pub taken_for : (start : Kept) (commands : List Command) (command : Command) (now : Kept) (replies : List Reply)
    (told : List (Option DeltaModel)) (undos : List GraphUndo) → AreTaken start commands now replies told undos
    → IsFor command (state_of start) → IsFor command (state_of now)
taken_for start commands command now replies told undos h is =
    let s : State = state_of start in
    subst (IsFor command) (sym h.state)
    (for_kept s (state_after start.limit s commands) command (after_keeps start.limit s commands) is)

pub taken_long : (start : Kept) (commands : List Command) (now : Kept) (replies : List Reply)
    (told : List (Option DeltaModel)) (undos : List GraphUndo) → AreTaken start commands now replies told undos
    → length (state_of now) ≡ length (state_of start)
taken_long start commands now replies told undos h =
    ap length h.state ∙ (after_keeps start.limit (state_of start) commands).long

-- ---- the commands in turn

pub all_at : {X : Type 0} (P : X → Type 0) (xs : List X) (k : ℕ) (x : X) → AllByRecursion P xs → k < length xs
    → x ≡ get_or xs k x → P x
all_at P [] k x all within is = absurd (omega (arith, within))
all_at P (y ∷ xs) zero x all within is = subst P (sym is) all.0
all_at P (y ∷ xs) (suc k) x all within is = all_at P xs k x all.1 (omega (arith, within)) is

taken_next : {X : Type 0} (xs : List X) (k : ℕ) (x : X) → k < length xs → x ≡ get_or xs k x
    → take (suc k) xs ≡ take k xs ++ x ∷ []
taken_next [] k x within is = absurd (omega (arith, within))
taken_next (y ∷ xs) zero x within is = ap (λ z. z ∷ []) (sym is)
taken_next (y ∷ xs) (suc k) x within is = ap (λ zs. y ∷ zs) (taken_next xs k x (omega (arith, within)) is)

pub next_taken : {X : Type 0} (xs : List X) (k : ℕ) (x : X) → k < length xs → x ≡ get_or xs k x
    → take (k + 1) xs ≡ take k xs ++ x ∷ []
next_taken xs k x within is =
    let next : k + 1 ≡ suc k = omega arith in
    ap (λ n. take n xs) next ∙ taken_next xs k x within is
