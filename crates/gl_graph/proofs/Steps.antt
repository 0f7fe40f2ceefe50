-- One place further: what was tried there is told, kept for the way back, or the reason why the command is refused.
use Rattle.std.proofs.Common.{◌≡◌, ◌≢◌, ◌∙◌, ℕ, zero, suc, ◌<◌, ◌≤◌, List, [], ◌∷◌, ◌++◌, length, take, replicate, refl, ap, sym, subst, arith, inl}
use Rattle.std.proofs.lemmas.List.{length-map}
use Rattle.std.specs.Prelude.{Option, Some, None, Result, Ok, Err, IfErr, OnOk, OnErr, slice_get, slice_set, slice_index, slice_index_or}
use Rattle.std.specs.List.{Contains}
use Rattle.gl_source.specs.Model.{DeltaModel}
use Rattle.spec_states.specs.Shown.{shown_of}
use Rattle.gl_graph.specs.declared.node.Node.{Node}
use Rattle.gl_graph.specs.declared.keeps.KeepsUndo.{KeepsUndo}
use Rattle.gl_graph.specs.declared.turned.Turned.{Turned}
use Rattle.gl_graph.specs.declared.turned.Turned.TheVariants.{Stays, Silent, Told}
use Rattle.gl_graph.specs.declared.rollback.Rollback.{Rollback}
use Rattle.gl_graph.specs.declared.graph.Refused.{Refused}
use Rattle.gl_graph.specs.Nodes.{own_of, state_of, shown_by, OnInput, StandsFor, IsPlaced, AreSettled}
use Rattle.gl_graph.specs.Rollbacks.{IsSourceOf, start_at}
use Rattle.gl_graph.specs.Room.{IsNoMore}
use Rattle.gl_graph.specs.Undos.{contents, room_of}
use Rattle.gl_graph.proofs.NoMore.{no_more}
use Rattle.gl_graph.specs.Waves.{Made, by_position, AreApart, before_one, room_one, CanGoBack, IsStopping}
use Rattle.gl_graph.specs.Spread.{HasBegun, IsStep, IsTriedAt, IsSetAt, CanTurnAt, StandAt, len_by, shown_len_at, IsPut, IsOver, IsBegun, IsSpread, LeadBack, HaveBack}
use Rattle.gl_graph.proofs.Inputs.{each_input, on_inputs}
use Rattle.gl_graph.proofs.Taken.{placed_last, apart_more}
use Rattle.gl_graph.proofs.Sets.{set_here, set_there, set_prefix, set_long, set_numbers, set_again, back_set, can_set, room_set}
use Rattle.gl_graph.proofs.Rollbacks.{start_within, not_before}
use Rattle.gl_graph.proofs.Next.{IsTurn, turn_of, begun_later}
use Rattle.gl_graph.proofs.Turns.{IsOn, IsStill, IsOnBy, told_by}
use Rattle.gl_graph.proofs.Stills.{quiet_by, as_it_was}
use Rattle.gl_graph.proofs.Ready.{can_turn}
use Rattle.gl_graph.proofs.Spreads.{on_shows, inverse_more}
use Rattle.gl_graph.proofs.Tellings.{told_still, told_put}
use Rattle.gl_graph.proofs.Refusals.{stop_refused, over_refused}
use Rattle.gl_graph.proofs.Ends.{shown_few, nodes_few, start_low, spread_begins}
use Rattle.spec_states.specs.Wave.{Cause, subject}

-- what leads back still does, once the node at a place keeps something else and has its undo
back_more : (old nodes others : List Node) (undos : List (Option KeepsUndo)) (q : ℕ) (was now : Node) (undo : Option KeepsUndo) → LeadBack old nodes undos → IsSetAt q nodes others was now
    → slice_get undos q ≡ Some None → before_one undo now.keeps ≡ contents was.keeps → CanGoBack undo now.keeps → IsNoMore (room_of was.keeps) (room_one undo now.keeps)
    → LeadBack old others (slice_set undos q undo)
back_more old nodes others undos q was now undo lead set waits back can room = subst (λ ns. LeadBack old ns (slice_set undos q undo)) (sym set.is) (record {
  numbers_are = set_numbers nodes q was now set.there set.list ∙ lead.numbers_are;
  back = back_set undos nodes q undo was now waits set.there back ∙ lead.back;
  can = can_set undos nodes q undo now can lead.can;
  room = room_set old nodes undos q was now undo waits set.there room lead.room;
})

-- the undos that were made, with one more
long_set : (nodes others : List Node) (q : ℕ) (was now : Node) → IsSetAt q nodes others was now → length others ≡ length nodes
long_set nodes others q was now set = ap length set.is ∙ set_long nodes q now

made_more : (nodes others : List Node) (q : ℕ) (was now : Node) (made : Made) (undo : KeepsUndo) → IsSetAt q nodes others was now
    → by_position (length others) (made ++ (q, undo) ∷ []) ≡ slice_set (by_position (length nodes) made) q (Some undo)
made_more nodes others q was now made undo set =
    ap (λ n. by_position n (made ++ (q, undo) ∷ [])) (long_set nodes others q was now set) ∙ placed_last (replicate (length nodes) None) made (q, undo)

have_more : (old nodes others : List Node) (made : Made) (q : ℕ) (was now : Node) (undo : KeepsUndo) → HaveBack old nodes made → IsSetAt q nodes others was now
    → slice_get (by_position (length nodes) made) q ≡ Some None → before_one (Some undo) now.keeps ≡ contents was.keeps → CanGoBack (Some undo) now.keeps → IsNoMore (room_of was.keeps) (room_one (Some undo) now.keeps)
    → HaveBack old others (made ++ (q, undo) ∷ [])
have_more old nodes others made q was now undo have set waits back can room = record {
  lead = subst (LeadBack old others) (sym (made_more nodes others q was now made undo set))
      (back_more old nodes others (by_position (length nodes) made) q was now (Some undo) have.lead set waits back can room);
  apart = apart_more (replicate (length others) None) made (q, undo) (subst (λ n. AreApart n made) (sym (long_set nodes others q was now set)) have.apart)
      (subst (λ n. slice_get (by_position n made) q ≡ Some None) (sym (long_set nodes others q was now set)) waits);
}

-- the same where it has no undo
have_same : (old nodes others : List Node) (made : Made) (q : ℕ) (was now : Node) → HaveBack old nodes made → IsSetAt q nodes others was now
    → slice_get (by_position (length nodes) made) q ≡ Some None → contents now.keeps ≡ contents was.keeps → IsNoMore (room_of was.keeps) (room_of now.keeps) → HaveBack old others made
have_same old nodes others made q was now have set waits same room = record {
  lead = subst (λ n. LeadBack old others (by_position n made)) (sym (long_set nodes others q was now set))
      (subst (LeadBack old others) (set_again (by_position (length nodes) made) q None waits)
      (back_more old nodes others (by_position (length nodes) made) q was now None have.lead set waits same tt room));
  apart = subst (λ n. AreApart n made) (sym (long_set nodes others q was now set)) have.apart;
}

waits_more : (nodes others : List Node) (made : Made) (q : ℕ) (was now : Node) (undo : KeepsUndo) → IsSetAt q nodes others was now
    → ((p : ℕ) → q ≤ p → p < length nodes → slice_get (by_position (length nodes) made) p ≡ Some None)
    → (p : ℕ) → suc q ≤ p → p < length others → slice_get (by_position (length others) (made ++ (q, undo) ∷ [])) p ≡ Some None
waits_more nodes others made q was now undo set waiting p high within =
    ap (λ us. slice_get us p) (made_more nodes others q was now made undo set)
    ∙ (set_there (by_position (length nodes) made) q p (Some undo) (λ e. omega (arith, high, e))
    ∙ waiting p (omega (arith, high)) (omega (arith, within, long_set nodes others q was now set)))

waits_same : (nodes others : List Node) (made : Made) (q : ℕ) (was now : Node) → IsSetAt q nodes others was now
    → ((p : ℕ) → q ≤ p → p < length nodes → slice_get (by_position (length nodes) made) p ≡ Some None)
    → (p : ℕ) → suc q ≤ p → p < length others → slice_get (by_position (length others) made) p ≡ Some None
waits_same nodes others made q was now set waiting p high within =
    ap (λ n. slice_get (by_position n made) p) (long_set nodes others q was now set)
    ∙ waiting p (omega (arith, high)) (omega (arith, within, long_set nodes others q was now set))

-- the node whose turn it is, as it was tried
turn_in : {limit : ℕ} {old : List Node} {positions : List ℕ} {cause : Cause} {rollback : Option Rollback} {q : ℕ} {nodes : List Node} {told : List (Option DeltaModel)} {made : Made} (was : Node)
    → IsSpread limit old positions cause rollback q nodes told made → slice_get nodes q ≡ Some was → IsTurn limit old positions cause rollback q nodes told was
turn_in was h at = turn_of was h.begun h.inverted h.told_to at

waits_here : {limit : ℕ} {old : List Node} {positions : List ℕ} {cause : Cause} {rollback : Option Rollback} {q : ℕ} {nodes : List Node} {told : List (Option DeltaModel)} {made : Made} → q < length nodes
    → IsSpread limit old positions cause rollback q nodes told made → slice_get (by_position (length nodes) made) q ≡ Some None
waits_here {q = q} within h = h.waiting q (omega arith) within

-- a list that shows what it did is within the limit
still_few : {limit : ℕ} {old : List Node} {positions : List ℕ} {cause : Cause} {rollback : Option Rollback} {q : ℕ} {nodes : List Node} {told : List (Option DeltaModel)} {was now : Node}
    → IsTurn limit old positions cause rollback q nodes told was → IsOn old positions cause rollback q nodes was now → IsStill old positions cause was
    → length (shown_of (own_of now.keeps) (shown_by (take q nodes) positions)) ≤ limit
still_few {limit = limit} {old = old} {positions = positions} {was = was} t on still =
    subst (λ xs. length xs ≤ limit) (sym (on_shows t on ∙ still.same)) (shown_few limit old positions t.begun.graph was.list t.next.turn.within)

-- it stays
pub none_more : {limit : ℕ} {old : List Node} {positions : List ℕ} {cause : Cause} {rollback : Option Rollback} {q : ℕ} {nodes : List Node} {told : List (Option DeltaModel)} {made : Made} (others : List Node) → q < length nodes
    → IsTriedAt rollback positions cause told q nodes others (Ok Stays) → IsSpread limit old positions cause rollback q nodes told made → IsSpread limit old positions cause rollback (suc q) others told made
none_more {old = old} {q = q} {nodes = nodes} {made = made} others within tried h =
    let was = tried.was in
    let now = tried.now in
    let t = turn_in was h tried.set.there in
    let same = as_it_was t tried.tried.ok in
    record {
      begun = h.begun;
      inverted = inverse_more others t tried.set same.on (still_few t same.on same.still);
      told_to = told_still t same.still;
      back = have_same old nodes others made q was now h.back tried.set (waits_here within h) (ap contents same.keeps_is)
          (subst (λ k. IsNoMore (room_of was.keeps) (room_of k)) (sym same.keeps_is) (no_more (room_of was.keeps)));
      waiting = waits_same nodes others made q was now tried.set h.waiting;
    }

-- the way back where it changed
back_by : {limit : ℕ} {old : List Node} {positions : List ℕ} {cause : Cause} {rollback : Option Rollback} {q : ℕ} {nodes : List Node} {told : List (Option DeltaModel)} {made : Made} (others : List Node) (was now : Node) (undo : KeepsUndo) → q < length nodes → IsSetAt q nodes others was now
    → IsOnBy old positions cause rollback q nodes was now undo → IsSpread limit old positions cause rollback q nodes told made → HaveBack old others (made ++ (q, undo) ∷ [])
back_by {old = old} {q = q} {nodes = nodes} {made = made} others was now undo within set by h =
    have_more old nodes others made q was now undo h.back set (waits_here within h) by.undo_is.back by.undo_is.can by.undo_is.room

-- it keeps something else in silence
pub silent_more : {limit : ℕ} {old : List Node} {positions : List ℕ} {cause : Cause} {rollback : Option Rollback} {q : ℕ} {nodes : List Node} {told : List (Option DeltaModel)} {made : Made} (others : List Node) (undo : KeepsUndo) → q < length nodes
    → IsTriedAt rollback positions cause told q nodes others (Ok (Silent undo)) → IsSpread limit old positions cause rollback q nodes told made
    → IsSpread limit old positions cause rollback (suc q) others told (made ++ (q, undo) ∷ [])
silent_more {q = q} {nodes = nodes} {made = made} others undo within tried h =
    let was = tried.was in
    let now = tried.now in
    let t = turn_in was h tried.set.there in
    let quiet = quiet_by t tried.tried.ok in
    record {
      begun = h.begun;
      inverted = inverse_more others t tried.set quiet.by.on (still_few t quiet.by.on quiet.still);
      told_to = told_still t quiet.still;
      back = back_by others was now undo within tried.set quiet.by h;
      waiting = waits_more nodes others made q was now undo tried.set h.waiting;
    }

-- it is told of
pub told_more : {limit : ℕ} {old : List Node} {positions : List ℕ} {cause : Cause} {rollback : Option Rollback} {q : ℕ} {nodes : List Node} {told : List (Option DeltaModel)} {made : Made} (others : List Node) (after : List (Option DeltaModel)) (d : DeltaModel) (undo : KeepsUndo) → q < length nodes
    → (tried : IsTriedAt rollback positions cause told q nodes others (Ok (Told d undo))) → IsPut tried.was.list d told after
    → length (shown_of (own_of tried.now.keeps) (shown_by (take q nodes) positions)) ≤ limit → IsSpread limit old positions cause rollback q nodes told made
    → IsSpread limit old positions cause rollback (suc q) others after (made ++ (q, undo) ∷ [])
told_more {q = q} {nodes = nodes} {made = made} others after d undo within tried put few h =
    let was = tried.was in
    let now = tried.now in
    let t = turn_in was h tried.set.there in
    let on = told_by {now = tried.now} t tried.tried.ok in
    record {
      begun = h.begun;
      inverted = inverse_more others t tried.set on.by.on few;
      told_to = told_put after t on put;
      back = back_by others was now undo within tried.set on.by h;
      waiting = waits_more nodes others made q was now undo tried.set h.waiting;
    }

-- it isn't turned
pub stop_back : {limit : ℕ} {old : List Node} {positions : List ℕ} {cause : Cause} {rollback : Option Rollback} {q : ℕ} {nodes : List Node} {told : List (Option DeltaModel)} {made : Made} (others : List Node) (why : Refused)
    → q < length nodes → IsTriedAt rollback positions cause told q nodes others (Err why) → IsSpread limit old positions cause rollback q nodes told made → HaveBack old others made
stop_back {old = old} {q = q} {nodes = nodes} {made = made} others why within tried h =
    have_same old nodes others made q tried.was tried.now h.back tried.set (waits_here within h) tried.tried.err tried.tried.room

pub stop_reason : {limit : ℕ} {old : List Node} {positions : List ℕ} {cause : Cause} {rollback : Option Rollback} {q : ℕ} {nodes : List Node} {told : List (Option DeltaModel)} {made : Made} (others : List Node) (why : Refused)
    → IsTriedAt rollback positions cause told q nodes others (Err why) → IsSpread limit old positions cause rollback q nodes told made → IsStopping limit (state_of old positions) cause why
stop_reason {limit = limit} {q = q} others why tried h =
    let was = tried.was in
    stop_refused why (turn_in was h tried.set.there) (tried.tried.stopped limit (h.inverted.limited q was tried.set.there))

-- the node at a place can be tried
record HasNode (nodes : List Node) (q : ℕ) : Type 0 where
  pub node : Node
  pub there : slice_get nodes q ≡ Some node

has_node : (nodes : List Node) (q : ℕ) → q < length nodes → HasNode nodes q
has_node [] q within = absurd (omega (arith, within))
has_node (n ∷ nodes) zero within = record { node = n; there = refl }
has_node (n ∷ nodes) (suc q) within = let h = has_node nodes q (omega (arith, within)) in record { node = h.node; there = h.there }

pub spread_order : {limit : ℕ} {old : List Node} {positions : List ℕ} {cause : Cause} {rollback : Option Rollback} {q : ℕ} {nodes : List Node} {told : List (Option DeltaModel)} {made : Made} → q < length nodes
    → IsSpread limit old positions cause rollback q nodes told made → CanTurnAt rollback positions cause told q nodes
spread_order {q = q} {nodes = nodes} within h =
    let at = has_node nodes q within in
    can_turn (turn_in at.node h at.there) at.there

-- ---- what is needed to tell of it

pub node_within : {positions : List ℕ} {cause : Cause} {rollback : Option Rollback} {q : ℕ} {nodes : List Node} {told : List (Option DeltaModel)} (others : List Node) (r : Result Turned Refused) → q < length nodes
    → IsTriedAt rollback positions cause told q nodes others r → q < length others
node_within {q = q} {nodes = nodes} others r within tried = omega (arith, within, ap length tried.set.is ∙ set_long nodes q tried.now)

node_here : {positions : List ℕ} {cause : Cause} {rollback : Option Rollback} {q : ℕ} {nodes : List Node} {told : List (Option DeltaModel)} (others : List Node) (r : Result Turned Refused)
    → (tried : IsTriedAt rollback positions cause told q nodes others r) → slice_get others q ≡ Some tried.now
node_here {q = q} {nodes = nodes} others r tried = ap (λ ns. slice_get ns q) tried.set.is ∙ set_here nodes q tried.was tried.now tried.set.there

pub node_listed : {limit : ℕ} {old : List Node} {positions : List ℕ} {cause : Cause} {rollback : Option Rollback} {q : ℕ} {nodes : List Node} {told : List (Option DeltaModel)} {made : Made} (others : List Node)
    (r : Result Turned Refused) → IsTriedAt rollback positions cause told q nodes others r → IsSpread limit old positions cause rollback q nodes told made
    → (node : Node) → slice_get others q ≡ Some node → node.list < length told
node_listed {positions = positions} {told = told} others r tried h node at =
    let t = turn_in tried.was h tried.set.there in
    let both : Some tried.now ≡ Some node = sym (node_here others r tried) ∙ at in
    let one : tried.now ≡ node = cc in
    let low : tried.was.list < length positions = t.next.turn.within in
    subst (λ (n : Node). n.list < length told) one (omega (arith, low, tried.set.list, h.told_to.long))

-- the nodes before it
prefix_same : (q : ℕ) (nodes others : List Node) (was now : Node) → IsSetAt q nodes others was now → take q others ≡ take q nodes
prefix_same q nodes others was now set = ap (take q) set.is ∙ set_prefix nodes q now

-- it stands for what they show
pub stand_at : {limit : ℕ} {old : List Node} {positions : List ℕ} {cause : Cause} {rollback : Option Rollback} {q : ℕ} {nodes : List Node} {told : List (Option DeltaModel)} {made : Made} (others : List Node) (d : DeltaModel) (undo : KeepsUndo) → q < length nodes
    → IsTriedAt rollback positions cause told q nodes others (Ok (Told d undo)) → IsSpread limit old positions cause rollback q nodes told made → StandAt positions q others
stand_at {positions = positions} {q = q} {nodes = nodes} others d undo within tried h =
    let was = tried.was in
    let now = tried.now in
    let t = turn_in was h tried.set.there in
    let on = told_by {now = tried.now} t tried.tried.ok in
    let same = prefix_same q nodes others was now tried.set in
    record {
      settled = subst (λ ns. AreSettled ns positions) (sym same) h.inverted.settled;
      node = now;
      there = node_here others (Ok (Told d undo)) tried;
      later = subst (λ ns. OnInput (IsPlaced ns positions) now.keeps) (sym same)
          (on_inputs (IsPlaced (take q nodes) positions) now.keeps (λ i e. each_input (IsPlaced (take q nodes) positions) was.keeps i t.next.turn.later (subst (λ is. Contains is i) on.by.on.inputs_are e)));
      stands = subst (λ ns. StandsFor now.keeps (shown_by ns positions)) (sym same) on.by.on.stands;
    }

-- and shows so many elements
len_at : {positions : List ℕ} {cause : Cause} {rollback : Option Rollback} {q : ℕ} {nodes : List Node} {told : List (Option DeltaModel)} (others : List Node) (r : Result Turned Refused)
    → (tried : IsTriedAt rollback positions cause told q nodes others r)
    → shown_len_at positions q others ≡ length (shown_of (own_of tried.now.keeps) (shown_by (take q nodes) positions))
len_at {positions = positions} {q = q} {nodes = nodes} others r tried =
    ap (λ o. len_by o (shown_by (take q others) positions)) (node_here others r tried)
    ∙ ap (λ ns. len_by (Some tried.now) (shown_by ns positions)) (prefix_same q nodes others tried.was tried.now tried.set)

-- ---- what comes of it

pub told_ok : {R : Type 0} {limit : ℕ} {old : List Node} {positions : List ℕ} {cause : Cause} {rollback : Option Rollback} {q : ℕ} {nodes : List Node} {told : List (Option DeltaModel)} {made : Made} (others : List Node) (after : List (Option DeltaModel)) (d : DeltaModel) (undo : KeepsUndo) (r : Result R Refused) → q < length nodes
    → IsTriedAt rollback positions cause told q nodes others (Ok (Told d undo)) → ((node : Node) → slice_get others q ≡ Some node → IsPut node.list d told after)
    → OnOk r (shown_len_at positions q others ≤ limit) → IsSpread limit old positions cause rollback q nodes told made
    → OnOk r (IsSpread limit old positions cause rollback (suc q) others after (made ++ (q, undo) ∷ []))
told_ok others after d undo (Err why) within tried put short h = tt
told_ok {limit = limit} {told = told} others after d undo (Ok x) within tried put short h =
    let here = node_here others (Ok (Told d undo)) tried in
    told_more others after d undo within tried (subst (λ l. IsPut l d told after) tried.set.list (put tried.now here))
    (subst (λ n. n ≤ limit) (len_at others (Ok (Told d undo)) tried) short) h

pub told_refused : {R : Type 0} {limit : ℕ} {old : List Node} {positions : List ℕ} {cause : Cause} {rollback : Option Rollback} {q : ℕ} {nodes : List Node} {told : List (Option DeltaModel)} {made : Made} (others : List Node) (d : DeltaModel) (undo : KeepsUndo) (r : Result R Refused)
    → IsTriedAt rollback positions cause told q nodes others (Ok (Told d undo))
    → ((node : Node) → slice_get others q ≡ Some node → IfErr r (IsOver limit node.list (shown_len_at positions q others)))
    → IsSpread limit old positions cause rollback q nodes told made → IfErr r (IsStopping limit (state_of old positions) cause)
told_refused others d undo (Ok x) tried over h = tt
told_refused {limit = limit} {positions = positions} {q = q} {nodes = nodes} others d undo (Err why) tried over h =
    let was = tried.was in
    let now = tried.now in
    let t = turn_in was h tried.set.there in
    let on = told_by {now = tried.now} t tried.tried.ok in
    over_refused undo why t on.by
    (subst (λ l. IsOver limit l (length (shown_of (own_of now.keeps) (shown_by (take q nodes) positions))) why) tried.set.list (subst (λ n. IsOver limit now.list n why) (len_at others (Ok (Told d undo)) tried) (over now (node_here others (Ok (Told d undo)) tried))))

pub told_back : {R : Type 0} {limit : ℕ} {old : List Node} {positions : List ℕ} {cause : Cause} {rollback : Option Rollback} {q : ℕ} {nodes : List Node} {told : List (Option DeltaModel)} {made : Made} (others : List Node) (d : DeltaModel) (undo : KeepsUndo) (r : Result R Refused) → q < length nodes
    → IsTriedAt rollback positions cause told q nodes others (Ok (Told d undo)) → IsSpread limit old positions cause rollback q nodes told made → OnErr r (HaveBack old others (made ++ (q, undo) ∷ []))
told_back others d undo (Ok x) within tried h = tt
told_back others d undo (Err why) within tried h =
    let t = turn_in tried.was h tried.set.there in
    let on = told_by {now = tried.now} t tried.tried.ok in
    back_by others tried.was tried.now undo within tried.set on.by h

pub position_few : {limit : ℕ} {old : List Node} {positions : List ℕ} {cause : Cause} {rollback : Option Rollback} {q : ℕ} {nodes : List Node} {told : List (Option DeltaModel)} {made : Made} → q < length nodes
    → IsSpread limit old positions cause rollback q nodes told made → q < 4294967296
position_few {limit = limit} {old = old} {positions = positions} {nodes = nodes} within h =
    let long : length nodes ≡ length old =
    sym (length-map nodes (λ (n : Node). n.list)) ∙ (ap length h.inverted.numbers_are ∙ length-map old (λ (n : Node). n.list)) in
    omega (arith, within, long, nodes_few limit old positions h.begun.graph)

-- ---- how it begins

-- a list before the one where the wave begins stays
skip_one : {limit : ℕ} {old : List Node} {positions : List ℕ} {cause : Cause} {rollback : Option Rollback} {q : ℕ} {nodes : List Node} {told : List (Option DeltaModel)} {made : Made} → q < length nodes
    → (HasBegun positions rollback cause (suc q) → ⊥) → IsSpread limit old positions cause rollback q nodes told made → IsSpread limit old positions cause rollback (suc q) nodes told made
skip_one {limit = limit} {old = old} {positions = positions} {cause = cause} {rollback = rollback} {q = q} {nodes = nodes} {told = told} within early h =
    let at = has_node nodes q within in
    let was = at.node in
    let t = turn_in was h at.there in
    none_more nodes within (record {
      was = was;
      now = was;
      set = record { there = at.there; is = sym (set_again nodes q was at.there); list = refl };
      tried = record {
        ok = IsStep.at_other (not_own was.list t.next.turn.placed) (not_source rollback early was.list t.next.turn.placed)
            (record { same = refl; untold = inl (on_inputs (λ i. slice_index_or told i None ≡ None) was.keeps (λ i d. h.told_to.quiet (λ b. early (begun_later positions rollback cause q b)) i)) });
        err = tt;
        stopped = λ most limited. tt;
        room = tt;
      };
    }) h
  where
    not_own : (list : ℕ) → slice_index positions list ≡ q → list ≢ subject cause
    not_own list placed e = early (low (ap (slice_index positions) (sym e) ∙ placed))
      where
        low : slice_index positions (subject cause) ≡ q → slice_index positions (start_at rollback cause) < suc q
        low at = omega (arith, at, not_before limit old positions cause rollback h.begun)

    not_source : (o : Option Rollback) → (HasBegun positions o cause (suc q) → ⊥) → (list : ℕ) → slice_index positions list ≡ q → ¬ IsSourceOf list o
    not_source None far list placed e = absurd e
    not_source (Some back) far list placed e = far (low (ap (slice_index positions) (sym e) ∙ placed))
      where
        low : slice_index positions back.source ≡ q → slice_index positions back.source < suc q
        low at = omega (arith, at)

pub skip_to : {limit : ℕ} {old : List Node} {positions : List ℕ} {cause : Cause} {rollback : Option Rollback} {told : List (Option DeltaModel)} {made : Made} (q : ℕ) → q ≤ slice_index positions (start_at rollback cause)
    → slice_index positions (start_at rollback cause) < length old
    → IsSpread limit old positions cause rollback 0 old told made → IsSpread limit old positions cause rollback q old told made
skip_to zero low within h = h
skip_to (suc q) low within h = skip_one (omega (arith, low, within)) (λ later. omega (arith, later, low)) (skip_to q (omega (arith, low)) within h)

-- a command that has come to the list where its wave begins
pub begins : (limit : ℕ) (old : List Node) (positions : List ℕ) (cause : Cause) (rollback : Option Rollback) (told : List (Option DeltaModel)) (made : Made) → IsBegun limit old positions cause rollback
    → told ≡ replicate (length positions) None → made ≡ []
    → IsSpread limit old positions cause rollback (slice_index positions (start_at rollback cause)) old told made
begins limit old positions cause rollback told made begun told_is made_is =
    skip_to (slice_index positions (start_at rollback cause)) (omega arith)
    (start_low limit old positions (start_at rollback cause) begun.graph (start_within limit old positions cause rollback begun))
    (spread_begins limit old positions cause rollback told made begun told_is made_is)
