-- What lists are due, list by list.
use Rattle.std.proofs.Common.{◌≡◌, ◌≢◌, ◌∙◌, ◌⊎◌, ℕ, zero, suc, ◌+◌, ◌<◌, ◌≤◌, true, false, List, [], ◌∷◌, length, replicate, get_or, slice_set, length-set, get_or-set_same, get_or-set_other, refl, ap, sym, subst, arith, inl, inr}
use Rattle.std.specs.Prelude.{Option, Some, None, option_map, slice_get, slice_index_or}
use Rattle.std.proofs.lemmas.Bool.{cases_eq}
use Rattle.std.proofs.lemmas.Option.{slice_get_within}
use Rattle.spec_states.specs.Delta.{is_identity}
use Rattle.spec_states.specs.ListDecl.{ListDecl}
use Rattle.gl_delta.specs.Model.{DeltaModel}
use Rattle.gl_graph.specs.Graph.{Kept}
use Rattle.gl_graph.specs.Queues.{HasQueueRoom}
use Rattle.gl_world.specs.Due.{due_delta, due_from, due_at, AreDue, IsDueAt, HaveQueueRoom, KeepsQueueRoom}

-- ---- one list

-- it is due nothing
pub due_nothing : (list : ℕ) (due : List (Option DeltaModel)) → slice_index_or due list None ≡ None
    → IsDueAt list None due due
due_nothing list due none = record {
  long = refl;
  here = ap (option_map (λ (d : DeltaModel). d.pieces)) none;
  others = λ k ne. refl;
}

-- nor is it due the identity
pub due_identity : (d : DeltaModel) → is_identity d.pieces ≡ true → due_delta (Some d) ≡ None
due_identity d e = rw e refl

pub due_change : (d : DeltaModel) → is_identity d.pieces ≡ false → due_delta (Some d) ≡ Some d.pieces
due_change d e = rw e refl

-- it is due a copy
pub due_copy : (list : ℕ) (due : List (Option DeltaModel)) (d copy : DeltaModel) → list < length due
    → is_identity d.pieces ≡ false → copy.pieces ≡ d.pieces
    → IsDueAt list (due_delta (Some d)) due (slice_set due list (Some copy))
due_copy list due d copy within other same = record {
  long = length-set due list (Some copy);
  here = ap (option_map (λ (m : DeltaModel). m.pieces)) (get_or-set_same due list (Some copy) None within)
      ∙ ap Some same ∙ sym (due_change d other);
  others = λ k ne. get_or-set_other due list k (Some copy) None ne;
}

some_none : {X : Type 0} {x : X} → Some x ≡ None → ⊥
some_none e = absurd cc

-- and its queue has room for it
pub room_copy : (list : ℕ) (due : List (Option DeltaModel)) (copy : DeltaModel) (before now : Kept)
    → HasQueueRoom list now → ((other : ℕ) → HasQueueRoom other before → HasQueueRoom other now)
    → KeepsQueueRoom due before (slice_set due list (Some copy)) now
room_copy list due copy before now here others had k d is = elim (cases_eq k list) [
  | inl e ↦ subst (λ n. HasQueueRoom n now) (sym e) here
  | inr ne ↦ others k (had k d (sym (get_or-set_other due list k (Some copy) None ne) ∙ is))
]

-- ---- all lists

-- the lists below a number are due what their kinds say, and the others nothing yet
pub record DueTo (lists : List ListDecl) (deltas : List (Option DeltaModel)) (k : ℕ) (due : List (Option DeltaModel)) : Type 0
  where
    pub long : length due ≡ length lists
    pub each : (list : ℕ) (d : ListDecl) → list < k → slice_get lists list ≡ Some d
        → due_at due list ≡ due_from deltas d.kind
    pub rest : (list : ℕ) → k ≤ list → slice_index_or due list None ≡ None

abbrev nones : ℕ → List (Option DeltaModel)
nones n = replicate n None

none_at : (n list : ℕ) → slice_index_or (nones n) list None ≡ None
none_at zero list = refl
none_at (suc n) zero = refl
none_at (suc n) (suc list) = none_at n list

long_none : (n : ℕ) → length (nones n) ≡ n
long_none zero = refl
long_none (suc n) = ap suc (long_none n)

pub due_none_yet : (lists : List ListDecl) (deltas due : List (Option DeltaModel)) (n : ℕ) → n ≡ length lists
    → due ≡ replicate n None → DueTo lists deltas 0 due
due_none_yet lists deltas due n all is = record {
  long = ap length is ∙ long_none n ∙ all;
  each = λ list d low at. absurd (omega (arith, low));
  rest = λ list high. ap (λ (xs : List (Option DeltaModel)). slice_index_or xs list None) is ∙ none_at n list;
}

-- no list has a room to keep
pub room_none_yet : (due : List (Option DeltaModel)) (n : ℕ) (k : Kept) → due ≡ replicate n None → HaveQueueRoom due k
room_none_yet due n k is list d at =
    absurd (some_none (sym at ∙ ap (λ (xs : List (Option DeltaModel)). slice_index_or xs list None) is ∙ none_at n list))

pub due_next : (lists : List ListDecl) (deltas due new : List (Option DeltaModel)) (k : ℕ) (d : ListDecl)
    → slice_get lists k ≡ Some d → DueTo lists deltas k due → IsDueAt k (due_from deltas d.kind) due new
    → DueTo lists deltas (k + 1) new
due_next lists deltas due new k d at h one = record {
  long = one.long ∙ h.long;
  each = λ list e low there. by_case list e low there (cases_eq list k);
  rest = λ list high. one.others list (λ e. absurd (omega (arith, e, high))) ∙ h.rest list (omega (arith, high));
}
  where
    by_case : (list : ℕ) (e : ListDecl) → list < k + 1 → slice_get lists list ≡ Some e
        → (list ≡ k) ⊎ (list ≢ k) → due_at new list ≡ due_from deltas e.kind
    by_case list e low there (inl is) =
        let same : d ≡ e = some_same (sym at ∙ ap (slice_get lists) (sym is) ∙ there) in
        ap (due_at new) is ∙ one.here ∙ ap (λ (x : ListDecl). due_from deltas x.kind) same
      where
        some_same : {a b : ListDecl} → Some a ≡ Some b → a ≡ b
        some_same f = cc
    by_case list e low there (inr ne) =
        ap (option_map (λ (m : DeltaModel). m.pieces)) (one.others list ne)
        ∙ h.each list e (omega (arith, low, ne)) there

pub due_all : (lists : List ListDecl) (deltas due : List (Option DeltaModel)) (k : ℕ) → length lists ≡ k
    → DueTo lists deltas k due → AreDue lists deltas due
due_all lists deltas due k all h = record {
  long = h.long;
  each = λ list d at. h.each list d (within list d at) at;
}
  where
    within : (list : ℕ) (d : ListDecl) → slice_get lists list ≡ Some d → list < k
    within list d at = let low = slice_get_within lists list d at in omega (arith, low, all)

-- the list of a number among them
pub item_at : (lists : List ListDecl) (k : ℕ) (d : ListDecl) → k < length lists → d ≡ get_or lists k d
    → slice_get lists k ≡ Some d
item_at [] k d within is = absurd (omega (arith, within))
item_at (e ∷ lists) zero d within is = ap Some (sym is)
item_at (e ∷ lists) (suc k) d within is = item_at lists k d (omega (arith, within)) is
