-- What lists are due is queued, list by list.
use Rattle.std.proofs.Common.{◌≡◌, ◌≢◌, ◌∙◌, ◌⊎◌, ℕ, zero, suc, ◌+◌, ◌<◌, List, [], ◌∷◌, length, slice_set, length-set, get_or-set_same, get_or-set_other, refl, ap, sym, subst, arith, inl, inr}
use Rattle.std.specs.Prelude.{Option, Some, None, slice_index_or}
use Rattle.std.proofs.lemmas.Bool.{cases_eq}
use Rattle.spec_states.specs.State.{Own, State, own_at}
use Rattle.gl_delta.specs.Model.{DeltaModel}
use Rattle.gl_graph.specs.Graph.{Kept, state_of}
use Rattle.gl_graph.specs.Queues.{LeadsOn, HasQueueRoom, with_one_queued}
use Rattle.gl_world.specs.Due.{CanQueue, with_due, IsQueuedAt, AreQueued}

-- ---- one list

some_none : {X : Type 0} {x : X} → Some x ≡ None → ⊥
some_none e = absurd cc

-- of what is left none is due under the number that was taken
other_left : (due left : List (Option DeltaModel)) (list k : ℕ) (d : DeltaModel) → list < length due
    → left ≡ slice_set due list None → slice_index_or left k None ≡ Some d
    → (k ≢ list) × (slice_index_or due k None ≡ Some d)
other_left due left list k d within out is = elim (cases_eq k list) as (λ _. (k ≢ list) × (slice_index_or due k None ≡ Some d)) [
  | inl e ↦ absurd (some_none (sym is ∙ gone e))
  | inr ne ↦ (ne, sym (get_or-set_other due list k None None ne) ∙ sym (ap (λ (xs : List (Option DeltaModel)). slice_index_or xs k None) out) ∙ is)
]
  where
    gone : k ≡ list → slice_index_or left k None ≡ None
    gone e =
        ap (λ (xs : List (Option DeltaModel)). slice_index_or xs k None) out
        ∙ ap (λ n. slice_index_or (slice_set due list None) n None) e ∙ get_or-set_same due list None None within

-- a list that is due nothing
pub queued_none : (due left : List (Option DeltaModel)) (list : ℕ) (k : Kept) → list < length due
    → None ≡ slice_index_or due list None → left ≡ slice_set due list None → CanQueue due k → IsQueuedAt list due k left k
queued_none due left list k within none out can = record {
  long = ap length out ∙ length-set due list None;
  many = refl;
  limit = refl;
  gone = ap (λ (xs : List (Option DeltaModel)). slice_index_or xs list None) out ∙ get_or-set_same due list None None within;
  here = ap (λ o. with_due o (own_at (state_of k) list)) none;
  rest = λ n ne. ap (λ (xs : List (Option DeltaModel)). slice_index_or xs n None) out ∙ get_or-set_other due list n None None ne;
  others = λ n ne. refl;
  can = record {
    leads = λ n d is. can.leads n d (other_left due left list n d within out is).1;
    room = λ n d is. can.room n d (other_left due left list n d within out is).1;
  };
}

own_set_same : (s : State) (list : ℕ) (own : Own) → list < length s → own_at (slice_set s list own) list ≡ own
own_set_same [] list own within = absurd (omega (arith, within))
own_set_same (o ∷ s) zero own within = refl
own_set_same (o ∷ s) (suc list) own within = own_set_same s list own (omega (arith, within))

own_set_other : (s : State) (list k : ℕ) (own : Own) → k ≢ list → own_at (slice_set s list own) k ≡ own_at s k
own_set_other [] list k own ne = refl
own_set_other (o ∷ s) zero zero own ne = absurd (ne refl)
own_set_other (o ∷ s) zero (suc k) own ne = refl
own_set_other (o ∷ s) (suc list) zero own ne = refl
own_set_other (o ∷ s) (suc list) (suc k) own ne = own_set_other s list k own (λ e. ne (ap suc e))

-- only a proxy leads on
proxy_within : (s : State) (list : ℕ) (d : DeltaModel) → LeadsOn d.pieces (own_at s list) → list < length s
proxy_within [] list d leads = absurd leads
proxy_within (own ∷ s) zero d leads = omega arith
proxy_within (own ∷ s) (suc list) d leads = (let low = proxy_within s list d leads in omega (arith, low))

-- a list that is due something
pub queued_some : (due left : List (Option DeltaModel)) (list : ℕ) (d : DeltaModel) (before now : Kept) → list < length due
    → Some d ≡ slice_index_or due list None → left ≡ slice_set due list None → CanQueue due before
    → state_of now ≡ slice_set (state_of before) list (with_one_queued d.pieces (own_at (state_of before) list))
    → now.limit ≡ before.limit
    → ((other : ℕ) → other ≢ list → HasQueueRoom other before → HasQueueRoom other now)
    → IsQueuedAt list due before left now
queued_some due left list d before now within some out can state limit rooms = record {
  long = ap length out ∙ length-set due list None;
  many = ap length state ∙ length-set s list own;
  limit = limit;
  gone = ap (λ (xs : List (Option DeltaModel)). slice_index_or xs list None) out ∙ get_or-set_same due list None None within;
  here = ap (λ (t : State). own_at t list) state ∙ own_set_same s list own there
      ∙ ap (λ o. with_due o (own_at s list)) some;
  rest = λ n ne. ap (λ (xs : List (Option DeltaModel)). slice_index_or xs n None) out ∙ get_or-set_other due list n None None ne;
  others = other;
  can = record {
    leads = λ n e is.
        let was = other_left due left list n e within out is in
        subst (LeadsOn e.pieces) (sym (other n was.0)) (can.leads n e was.1);
    room = λ n e is.
        let was = other_left due left list n e within out is in rooms n was.0 (can.room n e was.1);
  };
}
  where
    s : State
    s = state_of before

    own : Own
    own = with_one_queued d.pieces (own_at s list)

    there : list < length s
    there = proxy_within s list d (can.leads list d (sym some))

    other : (n : ℕ) → n ≢ list → own_at (state_of now) n ≡ own_at s n
    other n ne = ap (λ (t : State). own_at t n) state ∙ own_set_other s list n own ne

-- ---- all lists

-- what is left, once it is queued, gives what all would; none is left below a number
pub record QueuedTo (due : List (Option DeltaModel)) (start : Kept) (k : ℕ) (left : List (Option DeltaModel)) (now : Kept) : Type
    0 where
  pub long : length left ≡ length due
  pub many : length (state_of now) ≡ length (state_of start)
  pub limit : now.limit ≡ start.limit
  pub gone : (list : ℕ) → list < k → slice_index_or left list None ≡ None
  pub same : (list : ℕ) → with_due (slice_index_or left list None) (own_at (state_of now) list)
      ≡ with_due (slice_index_or due list None) (own_at (state_of start) list)
  pub can : CanQueue left now

pub queued_none_yet : (due : List (Option DeltaModel)) (start : Kept) → CanQueue due start → QueuedTo due start 0 due start
queued_none_yet due start can = record {
  long = refl;
  many = refl;
  limit = refl;
  gone = λ list low. absurd (omega (arith, low));
  same = λ list. refl;
  can = can;
}

pub queued_next : (due : List (Option DeltaModel)) (start : Kept) (k : ℕ) (left rest : List (Option DeltaModel)) (now next : Kept)
    → QueuedTo due start k left now → IsQueuedAt k left now rest next → QueuedTo due start (k + 1) rest next
queued_next due start k left rest now next h one = record {
  long = one.long ∙ h.long;
  many = one.many ∙ h.many;
  limit = one.limit ∙ h.limit;
  gone = λ list low. gone list low (cases_eq list k);
  same = λ list. same list (cases_eq list k);
  can = one.can;
}
  where
    gone : (list : ℕ) → list < k + 1 → (list ≡ k) ⊎ (list ≢ k) → slice_index_or rest list None ≡ None
    gone list low (inl e) = ap (λ n. slice_index_or rest n None) e ∙ one.gone
    gone list low (inr ne) = one.rest list ne ∙ h.gone list (omega (arith, low, ne))

    Same : ℕ → Type 0
    Same list = with_due (slice_index_or rest list None) (own_at (state_of next) list)
        ≡ with_due (slice_index_or due list None) (own_at (state_of start) list)

    same : (list : ℕ) → (list ≡ k) ⊎ (list ≢ k) → Same list
    same list (inl e) =
        subst Same (sym e) (ap (λ o. with_due o (own_at (state_of next) k)) one.gone ∙ one.here ∙ h.same k)
    same list (inr ne) =
        ap (λ o. with_due o (own_at (state_of next) list)) (one.rest list ne)
        ∙ ap (with_due (slice_index_or left list None)) (one.others list ne) ∙ h.same list

pub queued_all : (due : List (Option DeltaModel)) (start : Kept) (k : ℕ) (left : List (Option DeltaModel)) (now : Kept)
    → length due ≡ k → QueuedTo due start k left now → AreQueued due (state_of start) (state_of now)
queued_all due start k left now all h = record {
  long = h.many;
  each = λ list within.
      ap (λ o. with_due o (own_at (state_of now) list)) (sym (h.gone list (omega (arith, within, all)))) ∙ h.same list;
}
