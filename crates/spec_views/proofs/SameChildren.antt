-- Where its input doesn't change, neither does a collection.
use Rattle.std.proofs.Common.{◌≡◌, ◌∙◌, ℕ, zero, suc, ◌+◌, false, List, [], ◌∷◌, ◌++◌, length, map, take, flat_map, refl, ap, sym, arith, append_assoc}
use Rattle.std.specs.Prelude.{min}
use Rattle.std.specs.List.{range_with_len}
use Rattle.std.proofs.Math.Seq.{take-append_seam}
use Rattle.std.proofs.lemmas.Grind.{flat_map-append}
use Rattle.std.proofs.lemmas.List.{append-nil, length-append}
use Rattle.spec_value.specs.Tree.{Tree}
use Rattle.spec_lists.specs.Piece.{identity}
use Rattle.spec_lists.specs.Pairs.{Pair, pairs}
use Rattle.spec_lists.specs.Leads.{applied}
use Rattle.spec_lists.specs.Making.{pieces_by}
use Rattle.spec_lists.proofs.DeltaLeads.{applied_no_change}
use Rattle.spec_lists.proofs.Plains.{plains, plains_append, pairs_identity, pieces_by_plains}
use Rattle.spec_views.specs.Source.{element_at}
use Rattle.spec_views.specs.Collection.{collection_view, collection_follow, child_count, children_before, child_pairs}

abbrev shifted : ℕ → ℕ → Pair
shifted b k = record { old = b + k; new = b + k; updated = false }

shifted_plains : (b a m : ℕ) → map (shifted b) (range_with_len a m) ≡ plains (b + a) m
shifted_plains b a zero = refl
shifted_plains b a (suc m) =
    let e : b + (a + 1) ≡ suc (b + a) = omega arith in
    ap (λ us. shifted b a ∷ us) (shifted_plains b (a + 1) m ∙ ap (λ j. plains j m) e)

at_seam : (xs ys : List Tree) (y : Tree) → element_at (xs ++ y ∷ ys) (length xs) ≡ y
at_seam [] ys y = refl
at_seam (x ∷ xs) ys y = at_seam xs ys y

min_itself : (n : ℕ) → min n n ≡ n
min_itself n = omega arith

-- the pairs of the children of one element with themselves
pairs_of_one : (children : Tree → List Tree) (xs : List Tree) (y : Tree) (ys whole : List Tree)
    → whole ≡ xs ++ y ∷ ys
    → child_pairs children whole whole (record { old = length xs; new = length xs; updated = false })
    ≡ plains (length (flat_map children xs)) (length (children y))
pairs_of_one children xs y ys whole e =
    let element : element_at whole (length xs) ≡ y = ap (λ zs. element_at zs (length xs)) e ∙ at_seam xs ys y in
    let count : child_count children whole (length xs) ≡ length (children y) = ap (λ z. length (children z)) element in
    let before : children_before children whole (length xs) ≡ length (flat_map children xs) =
    ap (λ zs. length (flat_map children (take (length xs) zs))) e ∙ ap (λ zs. length (flat_map children zs)) (take-append_seam xs (y ∷ ys)) in
    let paired : min (child_count children whole (length xs)) (child_count children whole (length xs)) ≡ length (children y) = min_itself _ ∙ count in
    let none : length (flat_map children xs) + 0 ≡ length (flat_map children xs) = omega arith in
    ap (λ n. map (shifted (children_before children whole (length xs))) (range_with_len 0 n)) paired
    ∙ ap (λ b. map (shifted b) (range_with_len 0 (length (children y)))) before
    ∙ shifted_plains (length (flat_map children xs)) 0 (length (children y))
    ∙ ap (λ b. plains b (length (children y))) none

pairs_of_rest : (children : Tree → List Tree) (xs ys whole : List Tree) → whole ≡ xs ++ ys
    → flat_map (child_pairs children whole whole) (plains (length xs) (length ys))
    ≡ plains (length (flat_map children xs)) (length (flat_map children ys))
pairs_of_rest children xs [] whole e = refl
pairs_of_rest children xs (y ∷ ys) whole e =
    let next : whole ≡ (xs ++ y ∷ []) ++ ys = e ∙ sym (append_assoc xs (y ∷ []) ys) in
    let long : length (xs ++ y ∷ []) ≡ suc (length xs) = length-append xs (y ∷ []) ∙ omega arith in
    let before : length (flat_map children (xs ++ y ∷ [])) ≡ length (flat_map children xs) + length (children y) =
    ap length (flat_map-append children xs (y ∷ []) ∙ ap (λ zs. flat_map children xs ++ zs) (append-nil (children y))) ∙ length-append (flat_map children xs) (children y) in
    both _ _ _ _ (pairs_of_one children xs y ys whole e)
    (ap (λ n. flat_map (child_pairs children whole whole) (plains n (length ys))) (sym long) ∙ pairs_of_rest children (xs ++ y ∷ []) ys whole next ∙ ap (λ b. plains b (length (flat_map children ys))) before)
    ∙ plains_append (length (flat_map children xs)) (length (children y)) (length (flat_map children ys))
    ∙ ap (plains (length (flat_map children xs))) (sym (length-append (children y) (flat_map children ys)))
  where
    both : (a b c d : List Pair) → a ≡ b → c ≡ d → a ++ c ≡ b ++ d
    both a b c d f g = cc

pub collection_same : (children : Tree → List Tree) (xs : List Tree)
    → collection_follow children xs (identity (length xs))
    ≡ identity (length (collection_view children xs))
collection_same children xs =
    let stay : applied (identity (length xs)) xs ≡ xs = applied_no_change xs in
    ap (λ ys. pieces_by (collection_view children xs) (collection_view children ys) (flat_map (child_pairs children xs ys) (pairs (identity (length xs))))) stay
    ∙ pieces_by_plains (collection_view children xs) (flat_map (child_pairs children xs xs) (pairs (identity (length xs))))
    (ap (flat_map (child_pairs children xs xs)) (pairs_identity (length xs)) ∙ pairs_of_rest children [] xs xs refl)
