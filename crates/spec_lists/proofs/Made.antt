-- The delta between two lists that has given pairs: it leads between them, in normal form, and has those pairs.
use Rattle.std.proofs.Common.{◌≡◌, ◌∙◌, ℕ, zero, suc, ◌+◌, ◌-◌, ◌≤◌, ◌<◌, ◌&&◌, Bool, true, false, List, [], ◌∷◌, ◌++◌, length, take, drop, refl, ap, sym, subst, arith}
use Rattle.std.specs.Prelude.{Option, Some, None, slice_get, nat_le, if◌then◌else◌}
use Rattle.std.proofs.lemmas.Bool.{leb-true}
use Rattle.std.proofs.lemmas.Option.{slice_get_within}
use Rattle.std.proofs.lemmas.Map.Views.{tells_apart}
use Rattle.spec_value.specs.Tree.{Tree}
use Rattle.spec_value.proofs.Order.{cmp-equal}
use Rattle.spec_lists.specs.Piece.{Piece, kept, updated, deleted, inserted, IsNormal}
use Rattle.spec_lists.specs.Pairs.{Pair, pairs_from, pairs}
use Rattle.spec_lists.specs.Leads.{LeadsFrom, applied, IsDelta}
use Rattle.spec_lists.specs.Making.{replaced, is_same, piece_of, Rest, next_piece, told_to, rest_after, pieces_from, pieces_by, ArePairs}
use Rattle.spec_lists.proofs.DeltaEdits.{all_inserted, inserted_normal}

pub replaced_leads : (xs ys : List Tree) → IsDelta (replaced xs ys) xs ys
replaced_leads [] ys = all_inserted ys
replaced_leads (x ∷ xs) ys = let h = replaced_leads xs ys in record { starts = (refl, h.starts); ends = h.ends }

pub replaced_normal : (xs ys : List Tree) → IsNormal (replaced xs ys)
replaced_normal [] ys = inserted_normal ys
replaced_normal (x ∷ xs) ys = replaced_normal xs ys

-- two deltas side by side
pub append_from : (p q : List Piece) (xs us : List Tree) → LeadsFrom p xs → LeadsFrom q us
    → LeadsFrom (p ++ q) (xs ++ us) × (applied (p ++ q) (xs ++ us) ≡ applied p xs ++ applied q us)
append_from [] q [] us h k = (k, refl)
append_from [] q (x ∷ xs) us h k = absurd h
append_from (kept ∷ p) q [] us h k = absurd h
append_from (kept ∷ p) q (x ∷ xs) us h k = let g = append_from p q xs us h k in (g.0, ap (λ ys. x ∷ ys) g.1)
append_from (updated v w ∷ p) q [] us h k = absurd h
append_from (updated v w ∷ p) q (x ∷ xs) us h k = let g = append_from p q xs us h.1 k in ((h.0, g.0), ap (λ ys. w ∷ ys) g.1)
append_from (deleted v ∷ p) q [] us h k = absurd h
append_from (deleted v ∷ p) q (x ∷ xs) us h k = let g = append_from p q xs us h.1 k in ((h.0, g.0), g.1)
append_from (inserted w ∷ p) q xs us h k = let g = append_from p q xs us h k in (g.0, ap (λ ys. w ∷ ys) g.1)

pub leads_append : (p q : List Piece) (xs ys us vs : List Tree) → IsDelta p xs ys → IsDelta q us vs
    → IsDelta (p ++ q) (xs ++ us) (ys ++ vs)
leads_append p q xs ys us vs h k =
    let g = append_from p q xs us h.starts k.starts in
    record { starts = g.0; ends = both ys (applied p xs) vs (applied q us) h.ends k.ends ∙ sym g.1 }
  where
    both : (a b c d : List Tree) → a ≡ b → c ≡ d → a ++ c ≡ b ++ d
    both a b c d e f = cc

-- a list cut at one of its elements
cut : (xs : List Tree) (k : ℕ) (x : Tree) → slice_get xs k ≡ Some x
    → xs ≡ (take k xs ++ x ∷ []) ++ drop (suc k) xs
cut [] zero x e = absurd cc
cut [] (suc k) x e = absurd cc
cut (y ∷ ys) zero x e = first y x ys e
  where
    first : (a b : Tree) (us : List Tree) → Some a ≡ Some b → a ∷ us ≡ b ∷ us
    first a b us e = cc
cut (y ∷ ys) (suc k) x e = ap (λ zs. y ∷ zs) (cut ys k x e)

-- What a pair's piece is: its elements are left, and it leads from the one to the other.
pub record IsPairOf (r : Rest) (p : Pair) (piece : Piece) : Type 0 where
  pub old_after : r.old_position ≤ p.old
  pub new_after : r.new_position ≤ p.new
  pub old : Tree
  pub new : Tree
  pub has_old : slice_get r.old (p.old - r.old_position) ≡ Some old
  pub has_new : slice_get r.new (p.new - r.new_position) ≡ Some new
  pub leads : IsDelta (piece ∷ []) (old ∷ []) (new ∷ [])
  pub normal : (a b : List Tree) (ps : List Piece) → IsNormal ps
      → IsNormal ((replaced a b ++ piece ∷ []) ++ ps)
  pub pairs_are : (i j : ℕ) (ps : List Piece)
      → pairs_from i j (piece ∷ ps)
      ≡ record { old = i; new = j; updated = p.updated } ∷ pairs_from (suc i) (suc j) ps

between_normal : (x : Piece) → ((ps : List Piece) → IsNormal ps → IsNormal (x ∷ ps))
    → ((w : Tree) (ps : List Piece) → IsNormal ps → IsNormal (inserted w ∷ x ∷ ps))
    → (a b : List Tree) (ps : List Piece) → IsNormal ps → IsNormal ((replaced a b ++ x ∷ []) ++ ps)
between_normal x alone rest [] [] ps h = alone ps h
between_normal x alone rest [] (w ∷ []) ps h = rest w ps h
between_normal x alone rest [] (v ∷ w ∷ b) ps h = (tt, between_normal x alone rest [] (w ∷ b) ps h)
between_normal x alone rest (v ∷ a) b ps h = between_normal x alone rest a b ps h

piece_found : (r : Rest) (p : Pair) (piece : Piece) → r.old_position ≤ p.old → r.new_position ≤ p.new
    → (t : Bool) → p.updated ≡ t → (u v : Option Tree) → slice_get r.old (p.old - r.old_position) ≡ u
    → slice_get r.new (p.new - r.new_position) ≡ v
    → piece_of t u v ≡ Some piece → IsPairOf r p piece
piece_found r p piece a b t up None v ho hn e = absurd cc
piece_found r p piece a b t up (Some x) None ho hn e = absurd cc
piece_found r p piece a b true up (Some x) (Some y) ho hn e =
    subst (IsPairOf r p) (of_some (updated x y) piece e) (record {
      old_after = a;
      new_after = b;
      old = x;
      new = y;
      has_old = ho;
      has_new = hn;
      leads = record { starts = (refl, tt); ends = refl };
      normal = between_normal (updated x y) (λ ps h. h) (λ w ps h. (tt, h));
      pairs_are = λ i j ps. ap (λ t. record { old = i; new = j; updated = t } ∷ pairs_from (suc i) (suc j) ps) (sym up);
    })
  where
    of_some : (c d : Piece) → Some c ≡ Some d → c ≡ d
    of_some c d f = cc
piece_found r p piece a b false up (Some x) (Some y) ho hn e = by_test (is_same x y) refl e
  where
    of_some : (c d : Piece) → Some c ≡ Some d → c ≡ d
    of_some c d f = cc

    by_test : (t : Bool) → is_same x y ≡ t → (if t then Some kept else None) ≡ Some piece
        → IsPairOf r p piece
    by_test false s f = absurd cc
    by_test true s f =
        let same : x ≡ y = tells_apart cmp-equal x y s in
        subst (IsPairOf r p) (of_some kept piece f) (record {
          old_after = a;
          new_after = b;
          old = x;
          new = y;
          has_old = ho;
          has_new = hn;
          leads = record { starts = tt; ends = ap (λ z. z ∷ []) (sym same) };
          normal = between_normal kept (λ ps h. h) (λ w ps h. (tt, h));
          pairs_are = λ i j ps. ap (λ t. record { old = i; new = j; updated = t } ∷ pairs_from (suc i) (suc j) ps) (sym up);
        })

pub pair_found : (r : Rest) (p : Pair) (piece : Piece) → next_piece r p ≡ Some piece
    → IsPairOf r p piece
pair_found r p piece e = by_tests (nat_le r.old_position p.old) (nat_le r.new_position p.new) refl refl e
  where
    by_tests : (t u : Bool) → nat_le r.old_position p.old ≡ t → nat_le r.new_position p.new ≡ u
        → (if t && u then piece_of p.updated (slice_get r.old (p.old - r.old_position)) (slice_get r.new (p.new - r.new_position)) else None)
        ≡ Some piece
        → IsPairOf r p piece
    by_tests false u a b f = absurd cc
    by_tests true false a b f = absurd cc
    by_tests true true a b f = piece_found r p piece (leb-true _ _ a) (leb-true _ _ b) p.updated refl _ _ refl refl f

-- the same lists, written in another way
pub between : {ps : List Piece} {xs ys us vs : List Tree} → IsDelta ps xs ys → us ≡ xs → vs ≡ ys
    → IsDelta ps us vs
between {ps = ps} {ys = ys} {us = us} h e f =
    let P : List Tree → Type 0 = λ zs. IsDelta ps zs ys in
    let Q : List Tree → Type 0 = λ zs. IsDelta ps us zs in
    subst Q (sym f) (subst P (sym e) h)

pub pieces_lead : (r : Rest) (ps : List Pair) → IsDelta (pieces_from r ps) r.old r.new
pieces_lead r [] = replaced_leads r.old r.new
pieces_lead r (p ∷ ps) = by_piece (next_piece r p) refl (λ o. pieces_lead (rest_after r p o) ps)
  where
    by_piece : (o : Option Piece) → next_piece r p ≡ o
        → ((o : Option Piece) → IsDelta (pieces_from (rest_after r p o) ps) (rest_after r p o).old (rest_after r p o).new)
        → IsDelta (told_to r p o ++ pieces_from (rest_after r p o) ps) r.old r.new
    by_piece None e rest = rest None
    by_piece (Some piece) e rest =
        let is = pair_found r p piece e in
        let k : ℕ = p.old - r.old_position in
        let l : ℕ = p.new - r.new_position in
        let prefix = leads_append _ (piece ∷ []) _ _ _ _ (replaced_leads (take k r.old) (take l r.new)) is.leads in
        between (leads_append _ _ _ _ _ _ prefix (rest (Some piece))) (cut r.old k is.old is.has_old) (cut r.new l is.new is.has_new)

pub pieces_normal : (r : Rest) (ps : List Pair) → IsNormal (pieces_from r ps)
pieces_normal r [] = replaced_normal r.old r.new
pieces_normal r (p ∷ ps) = by_piece (next_piece r p) refl (λ o. pieces_normal (rest_after r p o) ps)
  where
    by_piece : (o : Option Piece) → next_piece r p ≡ o
        → ((o : Option Piece) → IsNormal (pieces_from (rest_after r p o) ps))
        → IsNormal (told_to r p o ++ pieces_from (rest_after r p o) ps)
    by_piece None e rest = rest None
    by_piece (Some piece) e rest =
        (pair_found r p piece e).normal (take (p.old - r.old_position) r.old) (take (p.new - r.new_position) r.new) _ (rest (Some piece))

-- it leads between its lists
pub pieces_by_leads : (xs ys : List Tree) (ps : List Pair) → IsDelta (pieces_by xs ys ps) xs ys
pieces_by_leads xs ys ps = pieces_lead (record { old_position = 0; new_position = 0; old = xs; new = ys }) ps

pub pieces_by_normal : (xs ys : List Tree) (ps : List Pair) → IsNormal (pieces_by xs ys ps)
pieces_by_normal xs ys ps = pieces_normal (record { old_position = 0; new_position = 0; old = xs; new = ys }) ps

-- what is replaced holds no pair
replaced_pairs : (a b : List Tree) (i j : ℕ) → pairs_from i j (replaced a b) ≡ []
replaced_pairs [] [] i j = refl
replaced_pairs [] (w ∷ b) i j = replaced_pairs [] b i (suc j)
replaced_pairs (v ∷ a) b i j = replaced_pairs a b (suc i) j

pairs_after : (a b : List Tree) (i j k l : ℕ) (x : Piece) (ps : List Piece) → i + length a ≡ k
    → j + length b ≡ l → pairs_from i j ((replaced a b ++ x ∷ []) ++ ps) ≡ pairs_from k l (x ∷ ps)
pairs_after [] [] i j k l x ps e f = let g : i ≡ k = omega (arith, e) in let h : j ≡ l = omega (arith, f) in rw (g, h) refl
pairs_after [] (w ∷ b) i j k l x ps e f = pairs_after [] b i (suc j) k l x ps e (omega (arith, f))
pairs_after (v ∷ a) b i j k l x ps e f = pairs_after a b (suc i) j k l x ps (omega (arith, e)) f

pub length-take_to : (xs : List Tree) (k : ℕ) → k < length xs → length (take k xs) ≡ k
length-take_to [] k h = absurd (omega (arith, h))
length-take_to (x ∷ xs) zero h = refl
length-take_to (x ∷ xs) (suc k) h = ap suc (length-take_to xs k (omega (arith, h)))

pairs_of_pieces_from : (r : Rest) (ps : List Pair) → ArePairs r ps
    → pairs_from r.old_position r.new_position (pieces_from r ps) ≡ ps
pairs_of_pieces_from r [] are = replaced_pairs r.old r.new r.old_position r.new_position
pairs_of_pieces_from r (p ∷ ps) are =
    let piece : Piece = are.0 in
    let is = pair_found r p piece are.1 in
    let k : ℕ = p.old - r.old_position in
    let l : ℕ = p.new - r.new_position in
    let a : r.old_position + length (take k r.old) ≡ p.old = at r.old_position p.old _ (length-take_to r.old k (slice_get_within r.old k is.old is.has_old)) is.old_after in
    let b : r.new_position + length (take l r.new) ≡ p.new = at r.new_position p.new _ (length-take_to r.new l (slice_get_within r.new l is.new is.has_new)) is.new_after in
    ap (λ o. pairs_from r.old_position r.new_position (told_to r p o ++ pieces_from (rest_after r p o) ps)) are.1
    ∙ pairs_after (take k r.old) (take l r.new) r.old_position r.new_position p.old p.new piece (pieces_from (rest_after r p (Some piece)) ps) a b
    ∙ is.pairs_are p.old p.new (pieces_from (rest_after r p (Some piece)) ps)
    ∙ ap (λ us. p ∷ us) (pairs_of_pieces_from (rest_after r p (Some piece)) ps are.2)
  where
    at : (i j n : ℕ) → n ≡ j - i → i ≤ j → i + n ≡ j
    at i j n e h = omega (arith, e, h)

-- and has the pairs that it was given
pub pairs_of_pieces_by : (xs ys : List Tree) (ps : List Pair)
    → (let whole : Rest = record { old_position = 0; new_position = 0; old = xs; new = ys } in ArePairs whole ps)
    → pairs (pieces_by xs ys ps) ≡ ps
pairs_of_pieces_by xs ys ps are = pairs_of_pieces_from (record { old_position = 0; new_position = 0; old = xs; new = ys }) ps are
