-- Deltas of lists, handed to their listeners one list after another.
use Rattle.std.proofs.Common.{◌≡◌, ◌⊎◌, ◌∙◌, ℕ, zero, suc, ◌+◌, ◌<◌, ◌≤◌, ◌++◌, List, [], ◌∷◌, length, slice_set, take, refl, ap, sym, arith, subst, length-set, get_or-set_same, get_or-set_other, inl, inr}
use Rattle.std.specs.Prelude.{Contains, Option, Some, None, option_map, slice_get, slice_index, slice_index_or, replicate}
use Rattle.std.specs.List.{AllByRecursion}
use Rattle.std.proofs.lemmas.Bool.{cases_eq}
use Rattle.std.proofs.lemmas.List.{length-replicate}
use Rattle.spec_states.proofs.Lists.{replicate_at}
use Rattle.spec_plans.proofs.Members.{Contains-cons_cases, Contains-here, Contains-later, Contains-nil}
use Rattle.spec_states.specs.Delta.{Delta}
use Rattle.spec_states.specs.ListenerDecl.{ListenerDecl}
use Rattle.spec_states.specs.Plan.{Plan}
use Rattle.gl_delta.specs.Model.{DeltaModel}
use Rattle.gl_tell.specs.Listeners.{listeners_of}
use Rattle.gl_tell.specs.Handed.{pieces_at, AreHanded, AreGiven, IsHanded}
use Rattle.gl_tell.proofs.ByList.{among_has, has_among}

-- ---- one listener more

-- nobody was given anything
pub given_none : (pieces : Delta) (heard : List (Option DeltaModel)) → AreGiven pieces [] heard heard
given_none pieces heard = record {
  long = refl;
  here = λ k there. absurd (Contains-nil k there);
  others = λ k apart. refl;
}

-- a number is among the others, or it is the last
last_cases : (ks : List ℕ) (last k : ℕ) → Contains (ks ++ last ∷ []) k → (last ≡ k) ⊎ Contains ks k
last_cases [] last k there = elim (Contains-cons_cases last [] k there) [
  | inl same ↦ inl same
  | inr none ↦ absurd (Contains-nil k none)
]
last_cases (j ∷ ks) last k there = elim (Contains-cons_cases j (ks ++ last ∷ []) k there) [
  | inl same ↦ inr (Contains-here j ks k same)
  | inr later ↦ elim (last_cases ks last k later) [ inl same ↦ inl same | inr c ↦ inr (Contains-later j ks k c) ]
]

before_last : (ks : List ℕ) (last k : ℕ) → Contains ks k → Contains (ks ++ last ∷ []) k
before_last [] last k there = absurd (Contains-nil k there)
before_last (j ∷ ks) last k there = elim (Contains-cons_cases j ks k there) [
  | inl same ↦ Contains-here j (ks ++ last ∷ []) k same
  | inr later ↦ Contains-later j (ks ++ last ∷ []) k (before_last ks last k later)
]

the_last : (ks : List ℕ) (last : ℕ) → Contains (ks ++ last ∷ []) last
the_last [] last = Contains-here last [] last refl
the_last (j ∷ ks) last = Contains-later j (ks ++ last ∷ []) last (the_last ks last)

-- one more was given a delta of the same pieces
pub given_more : (pieces : Delta) (ks : List ℕ) (last : ℕ) (d : DeltaModel) (old now : List (Option DeltaModel))
    → AreGiven pieces ks old now → last < length old → d.pieces ≡ pieces
    → AreGiven pieces (ks ++ last ∷ []) old (slice_set now last (Some d))
given_more pieces ks last d old now given within is = record {
  long = length-set now last (Some d) ∙ given.long;
  here = λ k there. elim (cases_eq k last) [
    | inl same ↦ let P : ℕ → Type 0 = λ j. pieces_at (slice_set now last (Some d)) j ≡ Some pieces in
        subst P (sym same) mine
    | inr ne ↦ elim (last_cases ks last k there) [
      | inl same ↦ absurd (ne (sym same))
      | inr before ↦ ap (option_map (λ e. e.pieces)) (get_or-set_other now last k (Some d) None ne) ∙ given.here k before
    ]
  ];
  others = λ k apart.
      get_or-set_other now last k (Some d) None
      (λ same. apart (subst (Contains (ks ++ last ∷ [])) (sym same) (the_last ks last)))
      ∙ given.others k (λ c. apart (before_last ks last k c));
}
  where
    mine : pieces_at (slice_set now last (Some d)) last ≡ Some pieces
    mine =
        ap (option_map (λ e. e.pieces)) (get_or-set_same now last (Some d) None (omega (arith, within, given.long)))
        ∙ ap Some is

-- ---- along a list of listeners

pub take_next : (ks : List ℕ) (i : ℕ) → i < length ks → take (i + 1) ks ≡ take i ks ++ slice_index ks i ∷ []
take_next [] i within = absurd (omega (arith, within))
take_next (j ∷ ks) zero within = refl
take_next (j ∷ ks) (suc i) within =
    let e : suc i + 1 ≡ suc (i + 1) = omega arith in
    rw e (ap (λ ms. j ∷ ms) (take_next ks i (omega (arith, within))))

pub below_at : (n : ℕ) (ks : List ℕ) (i : ℕ) → AllByRecursion (λ j. j < n) ks → i < length ks → slice_index ks i < n
below_at n [] i all within = absurd (omega (arith, within))
below_at n (j ∷ ks) zero all within = all.0
below_at n (j ∷ ks) (suc i) all within = below_at n ks i all.1 (omega (arith, within))

-- ---- one list more

-- the deltas of the lists below a number were handed to their listeners, and those of the others are left
pub record AreHandedTo (p : Plan) (list : ℕ) (start left heard : List (Option DeltaModel)) : Type 0 where
  pub long : length heard ≡ length p.listeners
  pub many : length left ≡ length start
  pub rest : (j : ℕ) → list ≤ j → slice_index_or left j None ≡ slice_index_or start j None
  pub done : (k : ℕ) (d : ListenerDecl) → slice_get p.listeners k ≡ Some d → d.list < list
      → pieces_at heard k ≡ pieces_at start d.list
  pub none : (k : ℕ) (d : ListenerDecl) → slice_get p.listeners k ≡ Some d → list ≤ d.list
      → slice_index_or heard k None ≡ None

pub handed_none : (p : Plan) (start heard : List (Option DeltaModel)) → heard ≡ replicate (length p.listeners) None
    → AreHandedTo p 0 start start heard
handed_none p start heard is = record {
  long = ap length is ∙ length-replicate (length p.listeners) None;
  many = refl;
  rest = λ j low. refl;
  done = λ k d at low. absurd (omega (arith, low));
  none = λ k d at low. ap (λ hs. slice_index_or hs k None) is ∙ replicate_at None (length p.listeners) k;
}

-- the listeners of one list more were handed its delta
pub handed_more : (p : Plan) (list : ℕ) (ks : List ℕ) (start left heard now : List (Option DeltaModel))
    → AreHandedTo p list start left heard → ks ≡ listeners_of p.listeners list
    → IsHanded (slice_index_or left list None) ks heard now
    → AreHandedTo p (list + 1) start (slice_set left list None) now
handed_more p list ks start left heard now to is handed = by_delta (slice_index_or left list None) refl handed
  where
    -- those of one list are all that are handed anything
    among : (k : ℕ) (d : ListenerDecl) → slice_get p.listeners k ≡ Some d → Contains ks k → d.list ≡ list
    among k d at there =
        among_has 0 list p.listeners k k d (omega arith) at (subst (λ js. Contains js k) is there)

    theirs : (k : ℕ) (d : ListenerDecl) → slice_get p.listeners k ≡ Some d → d.list ≡ list → Contains ks k
    theirs k d at same =
        let P : ℕ → Type 0 = λ l. Contains (listeners_of p.listeners l) k in
        subst (λ js. Contains js k) (sym is) (subst P same (has_among 0 p.listeners k k d (omega arith) at))

    rest : (j : ℕ) → list + 1 ≤ j → slice_index_or (slice_set left list None) j None ≡ slice_index_or start j None
    rest j low =
        get_or-set_other left list j None None (λ e. absurd (omega (arith, low, e))) ∙ to.rest j (omega (arith, low))

    by_delta : (o : Option DeltaModel) → slice_index_or left list None ≡ o → IsHanded o ks heard now
        → AreHandedTo p (list + 1) start (slice_set left list None) now
    by_delta None e same = record {
      long = ap length same ∙ to.long;
      many = length-set left list None ∙ to.many;
      rest = rest;
      done = λ k d at low. elim (cases_eq d.list list) [
        | inl here ↦
            ap (λ hs. pieces_at hs k) same
            ∙ ap (option_map (λ x. x.pieces)) (to.none k d at (omega (arith, here)))
            ∙ ap (option_map (λ x. x.pieces)) (sym e ∙ to.rest list (omega arith))
            ∙ ap (pieces_at start) (sym here)
        | inr ne ↦ ap (λ hs. pieces_at hs k) same ∙ to.done k d at (omega (arith, low, ne))
      ];
      none = λ k d at low.
          ap (λ hs. slice_index_or hs k None) same ∙ to.none k d at (omega (arith, low));
    }
    by_delta (Some delta) e given = record {
      long = given.long ∙ to.long;
      many = length-set left list None ∙ to.many;
      rest = rest;
      done = λ k d at low. elim (cases_eq d.list list) [
        | inl here ↦
            given.here k (theirs k d at here)
            ∙ ap (option_map (λ x. x.pieces)) (sym e ∙ to.rest list (omega arith))
            ∙ ap (pieces_at start) (sym here)
        | inr ne ↦
            ap (option_map (λ x. x.pieces)) (given.others k (λ there. ne (among k d at there)))
            ∙ to.done k d at (omega (arith, low, ne))
      ];
      none = λ k d at low.
          given.others k (λ there. absurd (omega (arith, low, among k d at there)))
          ∙ to.none k d at (omega (arith, low));
    }

-- all were
pub handed_all : (p : Plan) (list : ℕ) (start left heard : List (Option DeltaModel)) → AreHandedTo p list start left heard
    → length p.lists ≤ list → AllByRecursion (λ d. d.list < length p.lists) p.listeners → AreHanded p start heard
handed_all p list start left heard to past on = record {
  long = to.long;
  each = λ k d at. to.done k d at (within p.listeners k d at on);
}
  where
    within : (ds : List ListenerDecl) (k : ℕ) (d : ListenerDecl) → slice_get ds k ≡ Some d
        → AllByRecursion (λ l. l.list < length p.lists) ds → d.list < list
    within [] k d at all = absurd cc
    within (l ∷ ds) zero d at all =
        let first : l ≡ d = cc in
        let low = subst (λ (x : ListenerDecl). x.list < length p.lists) first all.0 in omega (arith, low, past)
    within (l ∷ ds) (suc k) d at all = within ds k d at all.1
