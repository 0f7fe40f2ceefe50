-- Two scans over the changed elements of the old list say which updated ones cross no other one.
use Rattle.std.proofs.Common.{◌≡◌, ◌∙◌, ℕ, zero, suc, ◌<◌, ◌≤◌, ◌&&◌, Bool, true, false, List, [], ◌∷◌, map, refl, ap, sym, arith, inl, inr}
use Rattle.std.specs.Prelude.{nat_lt, nat_le, min, max, Option, Some, None}
use Rattle.std.specs.List.{list_all, AllByRecursion as Each}
use Rattle.std.proofs.lemmas.Bool.{lt-ltb}
use Rattle.std.proofs.lemmas.Bool.Decides.{nat_tests}
use Rattle.spec_lists.specs.Pairs.{Pair}
use Rattle.spec_sorting.specs.Moves.{IsRising, keeps_side, both_flags}
use Rattle.spec_sorting.specs.Ranked.{prefix_marks, least_some, back_marks}
use Rattle.spec_sorting.proofs.Scans.{and_assoc, map_agree, cons_same, le_max, lt_min, earlier_side, later_side, itself_side}

-- an updated pair between two places
abbrev pub move : ℕ → ℕ → Pair
move a b = record { old = a; new = b; updated = true }

-- a pair keeps its side to one that has a new place, if it has one
abbrev pub side_to : Pair → ℕ → Option ℕ → Bool
side_to p old None = true
side_to p old (Some new) = keeps_side p (move old new)

module _ {R : Type 0} (rank : R → ℕ) (new : R → Option ℕ) where
  -- of an element that is updated, that it keeps its side to each of these
  abbrev pub uncrossed : List R → R → Bool
  uncrossed rs r = by (new r)
    where
      by : Option ℕ → Bool
      by None = true
      by (Some b) = list_all (λ q. side_to (move (rank r) b) (rank q) (new q)) rs

  -- so far, for those before it, and for these
  abbrev shown_by : (Pair → Bool) → List R → ℕ → Option ℕ → Bool
  shown_by before rs old None = true
  shown_by before rs old (Some b) = before (move old b) && list_all (λ q. side_to (move old b) (rank q) (new q)) rs

  abbrev shown : (Pair → Bool) → List R → R → Bool
  shown before rs r = shown_by before rs (rank r) (new r)

  after_marks : (p : Pair) (top low : ℕ) (rest : List R) → p.old < low → p.new < top → IsRising low (map rank rest)
      → list_all (λ q. side_to p (rank q) (new q)) rest ≡ nat_lt p.new (least_some top (map new rest))
  after_marks p top low [] less small rise = sym (lt-ltb p.new top small)
  after_marks p top low (q ∷ rest) less small rise =
      by (new q) (after_marks p top (suc (rank q)) rest (omega (arith, less, rise.0)) small rise.1)
    where
      both : (a b c d : Bool) → a ≡ b → c ≡ d → (a && c) ≡ (b && d)
      both a b c d e f = cc

      by : (n : Option ℕ) → list_all (λ q. side_to p (rank q) (new q)) rest ≡ nat_lt p.new (least_some top (map new rest))
          → (side_to p (rank q) n && list_all (λ q. side_to p (rank q) (new q)) rest) ≡ nat_lt p.new (least_some top (n ∷ map new rest))
      by None e = e
      by (Some b) e =
          both (keeps_side p (move (rank q) b)) (nat_lt p.new b) (list_all (λ q. side_to p (rank q) (new q)) rest) (nat_lt p.new (least_some top (map new rest)))
          (earlier_side p (move (rank q) b) (omega (arith, less, rise.0))) e
          ∙ lt_min b (least_some top (map new rest)) p.new

  -- a deleted element doesn't matter to those after it; an updated one is one more that is before them
  past_none : (before : Pair → Bool) (p : R) (rest : List R) → new p ≡ None → (old : ℕ) (n : Option ℕ) → shown_by before rest old n ≡ shown_by before (p ∷ rest) old n
  past_none before p rest e old None = refl
  past_none before p rest e old (Some b) = rw e refl

  past_some : (before : Pair → Bool) (p : R) (rest : List R) (c : ℕ) → new p ≡ Some c → (old : ℕ) (n : Option ℕ)
      → shown_by (λ q. before q && keeps_side q (move (rank p) c)) rest old n ≡ shown_by before (p ∷ rest) old n
  past_some before p rest c e old None = refl
  past_some before p rest c e old (Some b) =
      rw e (and_assoc (before (move old b)) (keeps_side (move old b) (move (rank p) c)) (list_all (λ q. side_to (move old b) (rank q) (new q)) rest))

  marks_from : (top low greatest : ℕ) (before : Pair → Bool) (rest : List R)
      → ((a b : ℕ) → low ≤ a → before (move a b) ≡ nat_le greatest b)
      → IsRising low (map rank rest) → Each (λ r. (b : ℕ) → new r ≡ Some b → b < top) rest
      → both_flags (prefix_marks greatest (map new rest)) (back_marks top (map new rest)) ≡ map (shown before rest) rest
  marks_from top low greatest before [] is rise below = refl
  marks_from top low greatest before (p ∷ rest) is rise below =
      by (new p) refl
      (marks_from top (suc (rank p)) greatest before rest (λ a b more. is a b (omega (arith, more, rise.0))) rise.1 below.1)
      (λ c. marks_from top (suc (rank p)) (max greatest c) (λ q. before q && keeps_side q (move (rank p) c)) rest
      (λ a b more. next c a b more (is a b (omega (arith, more, rise.0)))) rise.1 below.1)
    where
      next : (c a b : ℕ) → suc (rank p) ≤ a → before (move a b) ≡ nat_le greatest b
          → (before (move a b) && keeps_side (move a b) (move (rank p) c)) ≡ nat_le (max greatest c) b
      next c a b more e = rw (e, later_side (move a b) (move (rank p) c) (omega (arith, more))) (le_max greatest c b)

      both : (a b c d e : Bool) → a ≡ b → c ≡ true → d ≡ e → (b && e) ≡ (a && (c && d))
      both a b c d e f g h = rw (f, g, h) refl

      by : (n : Option ℕ) → new p ≡ n
          → both_flags (prefix_marks greatest (map new rest)) (back_marks top (map new rest)) ≡ map (shown before rest) rest
          → ((c : ℕ) → both_flags (prefix_marks (max greatest c) (map new rest)) (back_marks top (map new rest)) ≡ map (shown (λ q. before q && keeps_side q (move (rank p) c)) rest) rest)
          → both_flags (prefix_marks greatest (n ∷ map new rest)) (back_marks top (n ∷ map new rest)) ≡ shown_by before (p ∷ rest) (rank p) n ∷ map (shown before (p ∷ rest)) rest
      by None e same more =
          cons_same true true _ _ refl (same ∙ map_agree (shown before rest) (shown before (p ∷ rest)) (λ q. past_none before p rest e (rank q) (new q)) rest)
      by (Some c) e same more =
          let here : (nat_le greatest c && nat_lt c (least_some top (map new rest)))
          ≡ (before (move (rank p) c) && (keeps_side (move (rank p) c) (move (rank p) c) && list_all (λ q. side_to (move (rank p) c) (rank q) (new q)) rest)) =
          both _ _ _ _ _ (is (rank p) c rise.0) (itself_side (move (rank p) c)) (after_marks (move (rank p) c) top (suc (rank p)) rest (omega arith) (below.0 c e) rise.1) in
          let all : (before (move (rank p) c) && (keeps_side (move (rank p) c) (move (rank p) c) && list_all (λ q. side_to (move (rank p) c) (rank q) (new q)) rest))
          ≡ shown_by before (p ∷ rest) (rank p) (Some c) =
          rw e refl in
          cons_same _ _ _ _ (here ∙ all) (more c ∙ map_agree (shown (λ q. before q && keeps_side q (move (rank p) c)) rest) (shown before (p ∷ rest)) (λ q. past_some before p rest c e (rank q) (new q)) rest)

  -- the scans of elements in the order of their places, where all new places are below top
  pub marks_are : (top : ℕ) (rs : List R) → IsRising 0 (map rank rs) → Each (λ r. (b : ℕ) → new r ≡ Some b → b < top) rs
      → both_flags (prefix_marks 0 (map new rs)) (back_marks top (map new rs)) ≡ map (uncrossed rs) rs
  marks_are top rs rise below =
      marks_from top 0 0 (λ q. true) rs (λ a b more. sym (nothing b)) rise below
      ∙ map_agree (shown (λ q. true) rs) (uncrossed rs) (λ r. same r (new r) refl) rs
    where
      nothing : (b : ℕ) → nat_le 0 b ≡ true
      nothing b = grind (arith, nat_tests)

      same : (r : R) (n : Option ℕ) → new r ≡ n → shown (λ q. true) rs r ≡ uncrossed rs r
      same r None e = rw e refl
      same r (Some b) e = rw e refl
