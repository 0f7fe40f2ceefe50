-- Where the wave of a rollback begins, and what is taken back.
use Rattle.std.proofs.Common.{◌≡◌, ◌≢◌, ◌∙◌, ℕ, ◌<◌, ◌≤◌, true, false, List, [], ◌∷◌, length, take, refl, ap, sym, subst, arith}
use Rattle.std.specs.Prelude.{Option, Some, None, slice_get, slice_index}
use Rattle.std.specs.Option.{option_or}
use Rattle.spec_basics.proofs.Numbers.{not_equal}
use Rattle.std.specs.List.{Contains}
use Rattle.spec_states.proofs.Members.{Contains-here}
use Rattle.spec_states.specs.Tree.{Tree}
use Rattle.spec_states.specs.Piece.{new_len}
use Rattle.spec_states.proofs.DeltaLeads.{length-applied}
use Rattle.gl_source.specs.Kept.{Kept as SourceKept}
use Rattle.spec_states.specs.Delta.{Delta}
use Rattle.spec_states.specs.Leads.{LeadsFrom}
use Rattle.spec_states.specs.Command.{Command}
use Rattle.spec_states.specs.Command.TheVariants as c
use Rattle.spec_states.specs.Plan.{origin as about}
use Rattle.spec_states.specs.State.{Own, State, source, over, composite, transaction, freezable, proxy, inputs, own_at}
use Rattle.spec_states.specs.Shown.{is_held, shown_of, shown}
use Rattle.spec_states.specs.Wave.{Cause, command, pump, subject, begins, beginning, first_delta, is_at, kept_later, wave}
use Rattle.spec_states.specs.Step.{refused_by, too_long}
use Rattle.spec_states.specs.Laws.{IsSource}
use Rattle.spec_states.proofs.Waves.{RollsBack, elsewhere, IsTakenBack, taken_back}
use Rattle.spec_states.proofs.DependencyOrder.{input_within}
use Rattle.gl_held.specs.Levels.{taken_back as inverse_of}
use Rattle.gl_graph.specs.declared.node.Node.{Node}
use Rattle.gl_graph.specs.declared.keeps.Keeps.{Keeps}
use Rattle.gl_graph.specs.declared.keeps.Keeps.TheVariants.{Source, Over, Composite, Held, Proxy}
use Rattle.gl_graph.specs.declared.held.Held.TheVariants as h
use Rattle.gl_graph.specs.declared.rollback.Rollback.{Rollback}
use Rattle.gl_graph.specs.declared.graph.Refused.{Refused}
use Rattle.gl_graph.specs.declared.graph.Refused.TheVariants.{OutOfRange, TooLong, AlreadyFrozen, NotFrozen, NotOpen, Memory}
use Rattle.gl_graph.specs.Nodes.{own_of, own_of_node, state_of, IsPlaced}
use Rattle.gl_graph.specs.Commands.{CanRollBack, Suits}
use Rattle.gl_graph.specs.Causes.{SuitsCause, IsPlain, begin_at}
use Rattle.gl_graph.specs.Rollbacks.{TakesBack, IsRollback, IsRollbackOf, IsRefusedOf, IsSourceOf, start_at}
use Rattle.gl_graph.specs.Graph.{IsGraph}
use Rattle.gl_graph.specs.Waves.{IsStopping}
use Rattle.gl_graph.specs.Spread.{put_back, CanTakeBack, HasLevel, IsBegun, IsLong}
use Rattle.gl_graph.proofs.Inputs.{own_at_state, long_state, each_input}
use Rattle.gl_graph.proofs.Shown.{placed_before}
use Rattle.gl_graph.proofs.Prefixes.{node_of}
use Rattle.gl_graph.proofs.WholeWaves.{none_given, begins_here, taken_of}

-- ---- where it begins

-- where a cause begins a wave at the list that it is about, by the number of that list
pub begins_as : (cause : Cause) (own : Own) → begins cause own ≡ begin_at cause (subject cause) own
begins_as (command c) own = refl
begins_as (pump list) own = refl

-- a cause that is no rollback begins at the list that it is about, if it begins
pub begins_own : (cause : Cause) (i : ℕ) (own : Own) → IsPlain cause → begins cause own ≡ Some i → i ≡ subject cause
begins_own (command c) i own plain e = begins_here c (about c) i own plain e
begins_own (pump list) i own plain e = let same : list ≡ i = cc in sym same

-- a rollback begins elsewhere, and no other cause does
pub is_rollback : (s : State) (cause : Cause) (back : Rollback) → TakesBack s cause back → ¬ IsPlain cause
is_rollback s cause back takes plain = takes.apart (begins_own cause back.source (own_at s (subject cause)) plain takes.begins)

-- at any other list than its own or the source that it takes back, no wave begins
pub not_begun : (s : State) (cause : Cause) (rollback : Option Rollback) (k : ℕ) → IsRollback s cause rollback → k ≢ subject cause → ¬ IsSourceOf k rollback
    → is_at (begins cause (own_at s (subject cause))) k ≡ false
not_begun s cause rollback k is other apart = by_begin (begins cause (own_at s (subject cause))) refl
  where
    apart_of : (o : Option Rollback) → IsRollback s cause o → ¬ IsSourceOf k o → (i : ℕ) → begins cause (own_at s (subject cause)) ≡ Some i → k ≢ i
    apart_of None plain free i e same = other (same ∙ begins_own cause i (own_at s (subject cause)) plain e)
    apart_of (Some back) takes free i e same = free (same ∙ (let both : Some i ≡ Some back.source = sym e ∙ takes.begins in cc))

    by_begin : (o : Option ℕ) → begins cause (own_at s (subject cause)) ≡ o → is_at (begins cause (own_at s (subject cause))) k ≡ false
    by_begin None e = ap (λ o. is_at o k) e
    by_begin (Some i) e = ap (λ o. is_at o k) e ∙ neq (apart_of rollback is apart i e)
      where
        neq : k ≢ i → is_at (Some i) k ≡ false
        neq h = not_equal k i h

-- where a wave begins at the list that a cause is about, it is no rollback
pub no_rollback : (s : State) (cause : Cause) (rollback : Option Rollback) (k : ℕ) → IsRollback s cause rollback → k ≡ subject cause
    → begins cause (own_at s (subject cause)) ≡ Some k → rollback ≡ None
no_rollback s cause None k is same here = refl
no_rollback s cause (Some back) k takes same here =
    absurd (takes.apart ((let both : Some back.source ≡ Some k = sym takes.begins ∙ here in let one : back.source ≡ k = cc in one) ∙ same))

pub level_held : (own : Own) (i : ℕ) (level : Delta) (levels : List Delta) → own ≡ transaction i (level ∷ levels) → is_held own ≡ true
level_held own i level levels e = ap is_held e

pub level_input : (own : Own) (i : ℕ) (level : Delta) (levels : List Delta) → own ≡ transaction i (level ∷ levels) → Contains (inputs own) i
level_input own i level levels e = subst (λ o. Contains (inputs o) i) (sym e) (Contains-here i [] i refl)

-- ---- the source

-- what the list keeps that is rolled back
pub record IsRolled (own : Own) (input : ℕ) : Type 0 where
  pub level : Delta
  pub levels : List Delta
  pub is : own ≡ transaction input (level ∷ levels)

-- what the definitions say of it
rolls_back : (s : State) (c : Command) (back : Rollback) → Suits c (own_at s (about c)) → TakesBack s (command c) back → RollsBack c (own_at s (about c)) back.source (shown s)
rolls_back s c back suits takes = elsewhere c (own_at s (about c)) back.source (shown s) (taken_of s (command c) suits takes.granted) takes.begins takes.apart

pub back_of : (s : State) (cause : Cause) (back : Rollback) → SuitsCause cause (own_at s (subject cause)) → TakesBack s cause back → IsRolled (own_at s (subject cause)) back.source
back_of s (command c) back suits takes = let r = rolls_back s c back suits takes in record { level = r.level; levels = r.levels; is = r.is }
back_of s (pump list) back suits takes = absurd (is_rollback s (pump list) back takes tt)

-- the list where the wave begins is one of the lists
pub start_within : (limit : ℕ) (old : List Node) (positions : List ℕ) (cause : Cause) (rollback : Option Rollback) → IsBegun limit old positions cause rollback → start_at rollback cause < length positions
start_within limit old positions cause rollback begun = subst (λ n. start_at rollback cause < n) (long_state old positions) (by_rollback rollback begun.is_rollback)
  where
    s : State
    s = state_of old positions

    by_rollback : (o : Option Rollback) → IsRollback s cause o → start_at o cause < length s
    by_rollback None plain = begun.within
    by_rollback (Some back) takes =
        let r = back_of s cause back begun.suits takes in
        input_within s begun.graph.sound.ordered (subject cause) back.source (level_input (own_at s (subject cause)) back.source r.level r.levels r.is)

-- what a list depends on stands before it
pub input_below : (limit : ℕ) (nodes : List Node) (positions : List ℕ) (list i : ℕ) → IsGraph limit nodes positions → list < length positions → Contains (inputs (own_at (state_of nodes positions) list)) i
    → slice_index positions i < slice_index positions list
input_below limit nodes positions list i graph within d =
    let at : ℕ = slice_index positions list in
    let n = node_of nodes at list (graph.placed list within).there in
    let own = own_at_state nodes positions list within ∙ ap own_of_node n.is in
    (placed_before nodes positions at i
    (each_input (IsPlaced (take at nodes) positions) n.node.keeps i (graph.settled at n.node n.is).turn.later (subst (λ o. Contains (inputs o) i) own d))).1

-- the list that a cause is about doesn't stand before the one where its wave begins
pub not_before : (limit : ℕ) (old : List Node) (positions : List ℕ) (cause : Cause) (rollback : Option Rollback) → IsBegun limit old positions cause rollback
    → slice_index positions (start_at rollback cause) ≤ slice_index positions (subject cause)
not_before limit old positions cause rollback begun = by_rollback rollback begun.is_rollback
  where
    s : State
    s = state_of old positions

    by_rollback : (o : Option Rollback) → IsRollback s cause o → slice_index positions (start_at o cause) ≤ slice_index positions (subject cause)
    by_rollback None plain = omega arith
    by_rollback (Some back) takes =
        let r = back_of s cause back begun.suits takes in
        let low : slice_index positions back.source < slice_index positions (subject cause) =
        input_below limit old positions (subject cause) back.source begun.graph (subst (λ n. subject cause < n) (long_state old positions) begun.within)
        (level_input (own_at s (subject cause)) back.source r.level r.levels r.is) in
        omega (arith, low)

-- what follows from that
pub record IsBack (s : State) (back : Rollback) : Type 0 where
  pub is_source : IsSource (own_at s back.source)
  pub leads : LeadsFrom back.delta.pieces (shown s back.source)

pub is_back : (limit : ℕ) (old : List Node) (positions : List ℕ) (cause : Cause) (back : Rollback) → IsGraph limit old positions → SuitsCause cause (own_at (state_of old positions) (subject cause))
    → TakesBack (state_of old positions) cause back → back.source < length (state_of old positions) → IsBack (state_of old positions) back
is_back limit old positions (pump list) back graph suits takes there = absurd (is_rollback (state_of old positions) (pump list) back takes tt)
is_back limit old positions (command c) back graph suits takes there =
    let s : State = state_of old positions in
    let r = rolls_back s c back suits takes in
    let taken : IsTakenBack s c back.source r.level r.levels = taken_back s c back.source graph.sound there r takes.begins in
    record {
      is_source = taken.is_source;
      leads = subst (λ d. LeadsFrom d (shown s back.source)) (sym (takes.delta ∙ r.first)) taken.goes.leads.starts;
    }

pub can_take_back : (d : Delta) (keeps : Keeps) (shows : ℕ → List Tree) → IsSource (own_of keeps) → LeadsFrom d (shown_of (own_of keeps) shows) → CanTakeBack d keeps
can_take_back d (Source k) shows is leads = leads
can_take_back d (Over input o) shows is leads = absurd is
can_take_back d (Composite needed k) shows is leads = absurd is
can_take_back d (Held input (h.Transaction t)) shows is leads = absurd is
can_take_back d (Held input (h.Freezable since)) shows is leads = absurd is
can_take_back d (Proxy input p) shows is leads = absurd is

-- a source goes by its own delta
pub source_later : (list : ℕ) (own : Own) (d e : ℕ → Delta) → IsSource own → d list ≡ e list → kept_later list own d ≡ kept_later list own e
source_later list (source contents) d e is same = ap (λ p. kept_later list (source contents) (λ i. p)) same
source_later list (over input view) d e is same = absurd is
source_later list (composite needed members) d e is same = absurd is
source_later list (transaction input levels) d e is same = absurd is
source_later list (freezable input since) d e is same = absurd is
source_later list (proxy input kept queue) d e is same = absurd is

-- ---- the list that is rolled back

pub has_level : (keeps : Keeps) (i : ℕ) (level : Delta) (levels : List Delta) → own_of keeps ≡ transaction i (level ∷ levels) → HasLevel keeps
has_level (Source k) i level levels e = absurd cc
has_level (Over input o) i level levels e = absurd cc
has_level (Composite needed k) i level levels e = absurd cc
has_level (Held input (h.Transaction t)) i level levels e =
    let same : t.levels ≡ level ∷ levels = cc in
    subst (λ (ls : List Delta). 0 < length ls) (sym same) (some level levels)
  where
    some : (level : Delta) (levels : List Delta) → 0 < length (level ∷ levels)
    some level levels = omega arith
has_level (Held input (h.Freezable since)) i level levels e = absurd cc
has_level (Proxy input p) i level levels e = absurd cc

-- ---- what is found at the list that a rollback is about

pub can_roll_back : (list : ℕ) (own : Own) → Suits (c.Rollback list) own → CanRollBack own
can_roll_back list (source contents) h = absurd h
can_roll_back list (over input view) h = absurd (none_given view h)
can_roll_back list (composite needed members) h = absurd h
can_roll_back list (transaction input levels) h = tt
can_roll_back list (freezable input since) h = absurd h
can_roll_back list (proxy input kept queue) h = absurd h

pub node_own : (nodes : List Node) (positions : List ℕ) (list : ℕ) (node : Node) → list < length positions → slice_get nodes (slice_index positions list) ≡ Some node
    → own_at (state_of nodes positions) list ≡ own_of node.keeps
node_own nodes positions list node within is = own_at_state nodes positions list within ∙ ap own_of_node is

-- it is what is taken back
pub takes_back : (limit : ℕ) (nodes : List Node) (positions : List ℕ) (list : ℕ) (node : Node) (back : Rollback) → IsGraph limit nodes positions → list < length positions
    → slice_get nodes (slice_index positions list) ≡ Some node → IsRollbackOf (own_of node.keeps) back → TakesBack (state_of nodes positions) (command (c.Rollback list)) back
takes_back limit nodes positions list node back graph within is of = by_own (own_of node.keeps) (node_own nodes positions list node within is) below of
  where
    s : State
    s = state_of nodes positions

    below : (i : ℕ) → Contains (inputs (own_of node.keeps)) i → slice_index positions i < slice_index positions list
    below i d = input_below limit nodes positions list i graph within (subst (λ o. Contains (inputs o) i) (sym (node_own nodes positions list node within is)) d)

    by_levels : (input : ℕ) (levels : List Delta) → own_at s list ≡ transaction input levels → slice_index positions input < slice_index positions list
        → back.source ≡ input → levels ≢ [] → back.delta.pieces ≡ inverse_of levels → TakesBack s (command (c.Rollback list)) back
    by_levels input [] own low below_is some delta = absurd (some refl)
    by_levels input (level ∷ levels) own low below_is some delta = record {
      granted = ap (λ o. refused_by o (c.Rollback list)) own;
      begins = ap (beginning (c.Rollback list) list) own ∙ ap (λ (i : ℕ). Some i) (sym below_is);
      apart = λ e. not_itself (sym below_is ∙ e);
      delta = delta ∙ ap (λ o. first_delta (c.Rollback list) o (shown s)) (sym own);
    }
      where
        not_itself : input ≡ list → ⊥
        not_itself e = let same : slice_index positions input ≡ slice_index positions list = ap (slice_index positions) e in omega (arith, low, same)

    by_own : (own : Own) → own_at s list ≡ own → ((i : ℕ) → Contains (inputs own) i → slice_index positions i < slice_index positions list)
        → IsRollbackOf own back → TakesBack s (command (c.Rollback list)) back
    by_own (source contents) e low h = absurd h
    by_own (over input view) e low h = absurd h
    by_own (composite needed members) e low h = absurd h
    by_own (transaction input levels) e low h = by_levels input levels e (low input (Contains-here input [] input refl)) h.0 h.1.0 h.1.1
    by_own (freezable input since) e low h = absurd h
    by_own (proxy input kept queue) e low h = absurd h

-- or why nothing is
pub refused_back : (limit : ℕ) (s : State) (list : ℕ) (own : Own) (why : Refused) → own_at s list ≡ own → IsRefusedOf own why → IsStopping limit s (command (c.Rollback list)) why
refused_back limit s list (transaction input levels) NotOpen e h =
    let closed : own_at s list ≡ transaction input [] = e ∙ ap (transaction input) h in
    ap (λ o. option_or (refused_by o (c.Rollback list)) (too_long limit (wave s (command (c.Rollback list))))) closed
refused_back limit s list (source contents) NotOpen e h = absurd h
refused_back limit s list (over input view) NotOpen e h = absurd h
refused_back limit s list (composite needed members) NotOpen e h = absurd h
refused_back limit s list (freezable input since) NotOpen e h = absurd h
refused_back limit s list (proxy input kept queue) NotOpen e h = absurd h
refused_back limit s list own Memory e h = tt
refused_back limit s list own (OutOfRange index len) e h = absurd (nothing own h)
  where
    nothing : (own : Own) → IsRefusedOf own (OutOfRange index len) → ⊥
    nothing (transaction input levels) h = h
    nothing other h = h
refused_back limit s list own (TooLong number len) e h = absurd (nothing own h)
  where
    nothing : (own : Own) → IsRefusedOf own (TooLong number len) → ⊥
    nothing (transaction input levels) h = h
    nothing other h = h
refused_back limit s list own AlreadyFrozen e h = absurd (nothing own h)
  where
    nothing : (own : Own) → IsRefusedOf own AlreadyFrozen → ⊥
    nothing (transaction input levels) h = h
    nothing other h = h
refused_back limit s list own NotFrozen e h = absurd (nothing own h)
  where
    nothing : (own : Own) → IsRefusedOf own NotFrozen → ⊥
    nothing (transaction input levels) h = h
    nothing other h = h

-- a source that would be too long
pub source_long : (limit len list : ℕ) (k : SourceKept) (d : Delta) (shows : ℕ → List Tree) → LeadsFrom d k.values → k.limit ≡ limit → k.limit < len → len ≡ new_len d
    → IsLong limit shows (put_back list (source k.values) d) len
source_long limit len list k d shows leads same past is = record {
  past = subst (λ n. n < len) same past;
  len_is = is ∙ sym (length-applied d k.values leads);
}
