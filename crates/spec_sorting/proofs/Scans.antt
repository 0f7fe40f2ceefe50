-- Two scans say which of the updated pairs cross no other one.
use Rattle.std.proofs.Common.{◌≡◌, ◌∙◌, ℕ, suc, ◌<◌, ◌≤◌, ◌&&◌, Bool, true, false, List, [], ◌∷◌, map, refl, sym, arith}
use Rattle.std.specs.Prelude.{nat_lt, nat_le, min, max}
use Rattle.std.specs.List.{list_all}
use Rattle.std.proofs.lemmas.Bool.{lt-ltb, le-ltb}
use Rattle.std.proofs.lemmas.Bool.Decides.{nat_tests}
use Rattle.spec_lists.specs.Pairs.{Pair}
use Rattle.spec_views.proofs.SortedPositions.{Every}
use Rattle.spec_sorting.specs.Moves.{IsRising, keeps_side, crosses_none, prefix_flags, least, back_flags, both_flags, uncrossed_flags}

pub and_assoc : (a b c : Bool) → ((a && b) && c) ≡ (a && (b && c))
and_assoc true b c = refl
and_assoc false b c = refl

pub cons_same : {Y : Type 0} (a b : Y) (us vs : List Y) → a ≡ b → us ≡ vs → a ∷ us ≡ b ∷ vs
cons_same a b us vs e f = cc

pub map_agree : {X Y : Type 0} (f g : X → Y) → ((x : X) → f x ≡ g x) → (xs : List X) → map f xs ≡ map g xs
map_agree f g e [] = refl
map_agree f g e (x ∷ xs) = cons_same (f x) (g x) (map f xs) (map g xs) (e x) (map_agree f g e xs)

pub le_max : (a b c : ℕ) → (nat_le a c && nat_le b c) ≡ nat_le (max a b) c
le_max a b c = grind (arith, nat_tests)

pub lt_min : (a b c : ℕ) → (nat_lt c a && nat_lt c b) ≡ nat_lt c (min a b)
lt_min a b c = grind (arith, nat_tests)

-- of two pairs the earlier one keeps its side where its new place is below the other's, and the later one where it isn't
pub earlier_side : (p q : Pair) → p.old < q.old → keeps_side p q ≡ nat_lt p.new q.new
earlier_side p q less = rw (lt-ltb p.old q.old less)

pub later_side : (p q : Pair) → q.old ≤ p.old → keeps_side p q ≡ nat_le q.new p.new
later_side p q more = rw (le-ltb p.old q.old more) (grind (arith, nat_tests))

pub itself_side : (p : Pair) → keeps_side p p ≡ true
itself_side p = later_side p p (omega arith) ∙ grind (arith, nat_tests)

-- the pairs after one
after_side : (p : Pair) (top low : ℕ) (rest : List Pair) → p.old < low → p.new < top
    → IsRising low (map (λ q. q.old) rest) → list_all (keeps_side p) rest ≡ nat_lt p.new (least top (map (λ q. q.new) rest))
after_side p top low [] less small rise = sym (lt-ltb p.new top small)
after_side p top low (q ∷ rest) less small rise =
    both (keeps_side p q) (nat_lt p.new q.new) (list_all (keeps_side p) rest) (nat_lt p.new (least top (map (λ q. q.new) rest)))
    (earlier_side p q (omega (arith, less, rise.0))) (after_side p top (suc q.old) rest (omega (arith, less, rise.0)) small rise.1)
    ∙ lt_min q.new (least top (map (λ q. q.new) rest)) p.new
  where
    both : (a b c d : Bool) → a ≡ b → c ≡ d → (a && c) ≡ (b && d)
    both a b c d e f = cc

scan_from : (top low greatest : ℕ) (before : Pair → Bool) (rest : List Pair)
    → ((q : Pair) → low ≤ q.old → before q ≡ nat_le greatest q.new)
    → IsRising low (map (λ q. q.old) rest) → Every (λ b. b < top) (map (λ q. q.new) rest)
    → both_flags (prefix_flags greatest (map (λ q. q.new) rest)) (back_flags top (map (λ q. q.new) rest))
    ≡ map (λ p. before p && list_all (keeps_side p) rest) rest
scan_from top low greatest before [] is rise below = refl
scan_from top low greatest before (p ∷ rest) is rise below =
    let here : (nat_le greatest p.new && nat_lt p.new (least top (map (λ q. q.new) rest))) ≡ (before p && (keeps_side p p && list_all (keeps_side p) rest)) =
    both _ _ _ _ _ (is p rise.0) (itself_side p) (after_side p top (suc p.old) rest (omega arith) below.0 rise.1) in
    let after : both_flags (prefix_flags (max greatest p.new) (map (λ q. q.new) rest)) (back_flags top (map (λ q. q.new) rest)) ≡ map (λ q. (before q && keeps_side q p) && list_all (keeps_side q) rest) rest =
    scan_from top (suc p.old) (max greatest p.new) (λ q. before q && keeps_side q p) rest (λ q more. next q more (is q (omega (arith, more, rise.0))) (later_side q p (omega (arith, more)))) rise.1 below.1 in
    cons_same _ _ _ _ here (after ∙ map_agree _ _ (λ q. and_assoc (before q) (keeps_side q p) (list_all (keeps_side q) rest)) rest)
  where
    both : (a b c d e : Bool) → a ≡ b → c ≡ true → d ≡ e → (b && e) ≡ (a && (c && d))
    both a b c d e f g h = rw (f, g, h) refl

    next : (q : Pair) → suc p.old ≤ q.old → before q ≡ nat_le greatest q.new → keeps_side q p ≡ nat_le p.new q.new
        → (before q && keeps_side q p) ≡ nat_le (max greatest p.new) q.new
    next q more e f = rw (e, f) (le_max greatest p.new q.new)

-- the scans of updated pairs that stand by their old places, where all new places are below top
pub scans : (top : ℕ) (moves : List Pair) → IsRising 0 (map (λ p. p.old) moves) → Every (λ b. b < top) (map (λ p. p.new) moves)
    → uncrossed_flags top (map (λ p. p.new) moves) ≡ map (crosses_none moves) moves
scans top moves rise below = scan_from top 0 0 (λ q. true) moves (λ q more. sym (nothing q)) rise below
  where
    nothing : (q : Pair) → nat_le 0 q.new ≡ true
    nothing q = grind (arith, nat_tests)
