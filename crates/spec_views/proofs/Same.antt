-- Where the input doesn't change, neither does the list: identity in, identity out.
use Rattle.std.proofs.Common.{◌≡◌, ◌∙◌, ℕ, zero, suc, Bool, true, false, List, [], ◌∷◌, ◌++◌, ◌+◌, length, flat_map, refl, ap, sym, arith}
use Rattle.std.specs.List.{Contains}
use Rattle.std.proofs.lemmas.List.{length-map, length-append}
use Rattle.spec_value.specs.Tree.{Tree}
use Rattle.spec_lists.specs.Piece.{Piece, kept, identity, normal}
use Rattle.spec_lists.proofs.Normal.{normal_is}
use Rattle.spec_lists.proofs.DeltaEdits.{identity_normal}
use Rattle.spec_lists.proofs.Lengths.{new_len-identity}
use Rattle.spec_lang.specs.declared.Bounds.{Bounds}
use Rattle.spec_views.specs.Chosen.{Choice, chosen_from, follow_chosen, told_from}
use Rattle.spec_views.specs.Range.{range_view, by_position, range_follow}
use Rattle.spec_views.specs.Function.{function_view, function_follow}
use Rattle.spec_views.specs.Composite.{composite_view, composite_follow}
use Rattle.spec_views.proofs.Follows.{chosen_by_position}

told_same : (shows : Choice) (xs : List Tree) (i : ℕ)
    → told_from shows shows i i xs (identity (length xs))
    ≡ identity (length (chosen_from shows i xs))
told_same shows [] i = refl
told_same shows (x ∷ xs) i = by_case (shows i x) refl (told_same shows xs (suc i))
  where
    by_case : (t : Bool) → shows i x ≡ t
        → told_from shows shows (suc i) (suc i) xs (identity (length xs))
        ≡ identity (length (chosen_from shows (suc i) xs))
        → told_from shows shows i i (x ∷ xs) (identity (length (x ∷ xs)))
        ≡ identity (length (chosen_from shows i (x ∷ xs)))
    by_case true e others = rw e (ap (λ ps. kept ∷ ps) others)
    by_case false e others = rw e others

pub range_same : (bounds : Bounds) (xs : List Tree)
    → range_follow bounds xs (identity (length xs)) ≡ identity (length (range_view bounds xs))
range_same bounds xs =
    let shows : Choice = by_position bounds (length xs) in
    ap (λ n. follow_chosen shows (by_position bounds n) xs (identity (length xs))) (new_len-identity (length xs))
    ∙ ap normal (told_same shows xs 0) ∙ normal_is _ (identity_normal (length (chosen_from shows 0 xs)))
    ∙ ap (λ ys. identity (length ys)) (chosen_by_position bounds xs)

mapped_kept : (f : Tree → Tree) (n : ℕ) → function_follow f (identity n) ≡ identity n
mapped_kept f zero = refl
mapped_kept f (suc n) = ap (λ ps. kept ∷ ps) (mapped_kept f n)

pub function_same : (f : Tree → Tree) (xs : List Tree)
    → function_follow f (identity (length xs)) ≡ identity (length (function_view f xs))
function_same f xs = mapped_kept f (length xs) ∙ ap identity (sym (length-map xs f))

-- and a composite whose members stay
side_by_side : (members : List ℕ) (shows : ℕ → List Tree) (delta : ℕ → List Piece)
    → ((i : ℕ) → Contains members i → delta i ≡ identity (length (shows i)))
    → flat_map delta members ≡ identity (length (flat_map shows members))
side_by_side [] shows delta stay = refl
side_by_side (m ∷ ms) shows delta stay =
    both _ _ _ _ (stay m (0, omega arith, refl)) (side_by_side ms shows delta (λ i d. stay i (suc d.0, (let lt = d.1 in omega arith), d.2)))
    ∙ joined (length (shows m)) (length (flat_map shows ms)) ∙ ap identity (sym (length-append (shows m) (flat_map shows ms)))
  where
    both : (a b c d : List Piece) → a ≡ b → c ≡ d → a ++ c ≡ b ++ d
    both a b c d e f = cc

    joined : (m n : ℕ) → identity m ++ identity n ≡ identity (m + n)
    joined zero n = let e : 0 + n ≡ n = omega arith in ap identity (sym e)
    joined (suc m) n = let e : suc m + n ≡ suc (m + n) = omega arith in rw e (ap (λ ps. kept ∷ ps) (joined m n))

pub composite_same : (members : List ℕ) (shows : ℕ → List Tree) (delta : ℕ → List Piece)
    → ((i : ℕ) → Contains members i → delta i ≡ identity (length (shows i)))
    → composite_follow members delta ≡ identity (length (composite_view members shows))
composite_same members shows delta stay = ap normal (side_by_side members shows delta stay) ∙ normal_is _ (identity_normal (length (composite_view members shows)))
