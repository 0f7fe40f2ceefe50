-- Deltas of lists joined one after another.
use Rattle.std.proofs.Common.{◌≡◌, ◌∙◌, ℕ, ◌+◌, ◌<◌, ◌≤◌, List, length, slice_set, length-set, get_or-set_same, get_or-set_other, refl, ap, sym, subst, arith, inl, inr}
use Rattle.std.specs.Prelude.{Option, Some, None, slice_index_or}
use Rattle.std.proofs.lemmas.Bool.{cases_eq}
use Rattle.spec_states.specs.Delta.{composed}
use Rattle.gl_delta.specs.Model.{DeltaModel}
use Rattle.gl_world.specs.Joined.{IsJoined, IsPutAt, IsJoinedAt, AreJoined, Meet, AreMeeting}

-- under a number of which a delta was taken out there is now this one
put_back : (old taken new : List (Option DeltaModel)) (list : ℕ) (next : Option DeltaModel) (d : DeltaModel) → list < length old
    → taken ≡ slice_set old list None → new ≡ slice_set taken list (Some d)
    → IsJoined (slice_index_or old list None) next (Some d) → IsPutAt list next old new
put_back old taken new list next d within out put here = record {
  long = ap length put ∙ length-set taken list (Some d) ∙ many;
  here = subst (IsJoined (slice_index_or old list None) next) (sym there) here;
  others = λ k ne. ap (λ xs. slice_index_or xs k None) put
      ∙ get_or-set_other taken list k (Some d) None ne
      ∙ ap (λ xs. slice_index_or xs k None) out
      ∙ get_or-set_other old list k None None ne;
}
  where
    many : length taken ≡ length old
    many = ap length out ∙ length-set old list None

    there : slice_index_or new list None ≡ Some d
    there = ap (λ xs. slice_index_or xs list None) put ∙ get_or-set_same taken list (Some d) None
        (omega (arith, within, many))

pub put_first : (old taken new : List (Option DeltaModel)) (list : ℕ) (next : DeltaModel) → list < length old
    → None ≡ slice_index_or old list None
    → taken ≡ slice_set old list None → new ≡ slice_set taken list (Some next) → IsPutAt list (Some next) old new
put_first old taken new list next within is out put =
    put_back old taken new list (Some next) next within out put
    (subst (λ a. IsJoined a (Some next) (Some next)) is refl)

pub put_joined : (old taken new : List (Option DeltaModel)) (list : ℕ) (first next both : DeltaModel) → list < length old
    → Some first ≡ slice_index_or old list None → both.pieces ≡ composed first.pieces next.pieces
    → taken ≡ slice_set old list None → new ≡ slice_set taken list (Some both) → IsPutAt list (Some next) old new
put_joined old taken new list first next both within is joined out put =
    put_back old taken new list (Some next) both within out put
    (subst (λ a. IsJoined a (Some next) (Some both)) is joined)

-- of a list nothing more is told
pub joined_none : (old next left : List (Option DeltaModel)) (list : ℕ) → None ≡ slice_index_or next list None
    → left ≡ slice_set next list None → IsJoinedAt list old next old left
joined_none old next left list is out = record {
  put = record {
    long = refl;
    here = subst (λ b. IsJoined (slice_index_or old list None) b (slice_index_or old list None)) is refl;
    others = λ k ne. refl;
  };
  long = ap length out ∙ length-set next list None;
  rest = λ k ne. ap (λ xs. slice_index_or xs k None) out ∙ get_or-set_other next list k None None ne;
}

pub joined_some : (old next new left : List (Option DeltaModel)) (list : ℕ) (d : DeltaModel) → Some d
    ≡ slice_index_or next list None
    → left ≡ slice_set next list None → IsPutAt list (Some d) old new → IsJoinedAt list old next new left
joined_some old next new left list d is out put = record {
  put = subst (λ b. IsPutAt list b old new) is put;
  long = ap length out ∙ length-set next list None;
  rest = λ k ne. ap (λ xs. slice_index_or xs k None) out ∙ get_or-set_other next list k None None ne;
}

-- ---- all of them

-- those below a number are joined, and the others still as they were
pub record JoinedTo (old next : List (Option DeltaModel)) (k : ℕ) (now left : List (Option DeltaModel)) : Type 0 where
  pub long : length now ≡ length old
  pub many : length left ≡ length next
  pub each : (list : ℕ) → list < k
      → IsJoined (slice_index_or old list None) (slice_index_or next list None) (slice_index_or now list None)
  pub rest : (list : ℕ) → k ≤ list → slice_index_or now list None ≡ slice_index_or old list None
  pub others : (list : ℕ) → k ≤ list → slice_index_or left list None ≡ slice_index_or next list None

pub joined_none_yet : (old next : List (Option DeltaModel)) → JoinedTo old next 0 old next
joined_none_yet old next = record {
  long = refl;
  many = refl;
  each = λ list low. absurd (omega (arith, low));
  rest = λ list h. refl;
  others = λ list h. refl;
}

pub joined_next : (old next now left new rest : List (Option DeltaModel)) (k : ℕ) → JoinedTo old next k now left
    → IsJoinedAt k now left new rest → JoinedTo old next (k + 1) new rest
joined_next old next now left new rest k h j = record {
  long = j.put.long ∙ h.long;
  many = j.long ∙ h.many;
  each = λ list low. by_case list low;
  rest = λ list high. j.put.others list (λ e. absurd (omega (arith, e, high))) ∙ h.rest list (omega (arith, high));
  others = λ list high. j.rest list (λ e. absurd (omega (arith, e, high))) ∙ h.others list (omega (arith, high));
}
  where
    Joined : ℕ → Type 0
    Joined list = IsJoined (slice_index_or old list None) (slice_index_or next list None) (slice_index_or new list None)

    here : Joined k
    here =
        subst (λ a. IsJoined a (slice_index_or next k None) (slice_index_or new k None)) (h.rest k (omega arith))
        (subst (λ b. IsJoined (slice_index_or now k None) b (slice_index_or new k None))
        (h.others k (omega arith)) j.put.here)

    by_case : (list : ℕ) → list < k + 1 → Joined list
    by_case list low = elim (cases_eq list k) [
      | inl e ↦ subst Joined (sym e) here
      | inr ne ↦ subst (IsJoined (slice_index_or old list None) (slice_index_or next list None))
          (sym (j.put.others list ne))
          (h.each list (omega (arith, low, ne)))
    ]

-- what is left of them meets what there is
pub meet_next : (old next now left : List (Option DeltaModel)) (k : ℕ) → AreMeeting old next → k < length old
    → JoinedTo old next k now left → Meet (slice_index_or now k None) (slice_index_or left k None)
meet_next old next now left k meet within h =
    subst (λ a. Meet a (slice_index_or left k None)) (sym (h.rest k (omega arith)))
    (subst (Meet (slice_index_or old k None)) (sym (h.others k (omega arith))) (meet k within))

pub joined_all : (old next now left : List (Option DeltaModel)) (k : ℕ) → length old ≡ k → JoinedTo old next k now left
    → AreJoined old next now
joined_all old next now left k all h = record {
  long = h.long;
  each = λ list within. h.each list (omega (arith, within, all));
}
