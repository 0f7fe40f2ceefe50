-- Colours turned round, a gap between two pairs after another.
use Rattle.std.proofs.Common.{◌≡◌, ◌∙◌, ℕ, zero, suc, ◌+◌, ◌-◌, ◌*◌, ◌<◌, ◌≤◌, List, [], ◌∷◌, ◌++◌, length, map, take, drop, replicate, refl, ap, sym, subst, arith, IsTrue, append_assoc}
use Rattle.std.specs.Prelude.{Bool, true, false, cond, slice_index}
use Rattle.std.proofs.lemmas.List.{take-append-drop, length-take-le, length-append, length-replicate, replicate-append-replicate, take_at, append-nil}
use Rattle.gl_fourcolour.specs.Colours.{Colours, painted, is_among, count_among, IsKth, AllBelow, HasRoom}
use Rattle.gl_fourcolour.proofs.Expansions.{drop_parts}
use Rattle.spec_value.specs.Tree.{num}
use Rattle.std.specs.Prelude.{pos}
use Rattle.spec_lists.specs.Piece.{Piece, kept, updated, deleted, inserted}
use Rattle.gl_delta.specs.Store.{colour_of}
use Rattle.gl_delta.specs.DependencyOrder.{put_inserted, inverse_colours, NotDeleted, InOrder, BeginsAmong, Reached, Turning}
use Rattle.gl_delta.proofs.Ranks.{counts_changed, fits}
use Rattle.gl_fourcolour.proofs.Questions.{count_among-append, count_among-none, one_counts}

rep_len : (n c : ℕ) → length (replicate n c) ≡ n
rep_len n c = length-replicate n c

app_len : (xs ys : List ℕ) → length (xs ++ ys) ≡ length xs + length ys
app_len xs ys = length-append xs ys

count_cons : (mask x : ℕ) (xs : List ℕ) → count_among mask (x ∷ xs) ≡ cond (is_among mask x) 1 0 + count_among mask xs
unfolding count_among
count_cons mask x xs = refl

among_there : (mask : ℕ) (xs : List ℕ) (i : ℕ) → i < length xs → IsTrue (is_among mask (slice_index xs i)) → BeginsAmong mask (drop i xs)
among_there mask [] i w h = absurd (omega (arith, w))
among_there mask (x ∷ xs) zero w h = h
among_there mask (x ∷ xs) (suc i) w h = among_there mask xs i (omega (arith, w)) h

reached_position : (mask : ℕ) (prefix rest : List ℕ) (position : ℕ) → position < length (prefix ++ rest) → IsTrue (is_among mask (slice_index (prefix ++ rest) position)) → count_among mask (take position (prefix ++ rest)) ≡ count_among mask prefix → Reached mask prefix rest position
reached_position mask [] rest position w h e = record {
  before = take position rest;
  after = drop position rest;
  is = sym (take-append-drop position rest);
  position_is = omega (arith, length-take-le position rest (omega (arith, w)));
  none = e ∙ count_among-none mask;
  here = among_there mask rest position w h;
}
reached_position mask (f ∷ prefix) rest zero w h e = absurd (omega (arith, e, count_among-none mask, count_cons mask f prefix, one_counts (is_among mask f) (count_among mask prefix) h))
reached_position mask (f ∷ prefix) rest (suc p) w h e =
    let r = reached_position mask prefix rest p (omega (arith, w)) h (omega (arith, e, count_cons mask f (take p (prefix ++ rest)), count_cons mask f prefix)) in
    record { before = r.before; after = r.after; is = r.is; position_is = omega (arith, r.position_is); none = r.none; here = r.here }

pub reached_end : (mask : ℕ) (prefix rest : List ℕ) (position : ℕ) → position ≡ length (prefix ++ rest) → count_among mask (prefix ++ rest) ≤ count_among mask prefix → Reached mask prefix rest position
reached_end mask prefix rest position e few = record {
  before = rest;
  after = [];
  is = sym (append-nil rest);
  position_is = e ∙ length-append prefix rest;
  none = omega (arith, few, count_among-append mask prefix rest);
  here = tt;
}

-- pairs are as they were
inverse_pairs : (xs cs : List ℕ) → AllBelow 4 xs → count_among 12 xs ≡ 0 → inverse_colours (xs ++ cs) ≡ xs ++ inverse_colours cs
unfolding is_among
inverse_pairs [] cs b e = refl
inverse_pairs (zero ∷ xs) cs b e = ap (λ ys. zero ∷ ys) (inverse_pairs xs cs b.1 (omega (arith, e, count_cons 12 0 xs)))
inverse_pairs (suc zero ∷ xs) cs b e = ap (λ ys. 1 ∷ ys) (inverse_pairs xs cs b.1 (omega (arith, e, count_cons 12 1 xs)))
inverse_pairs (suc (suc zero) ∷ xs) cs b e = absurd (omega (arith, e, count_cons 12 2 xs))
inverse_pairs (suc (suc (suc zero)) ∷ xs) cs b e = absurd (omega (arith, e, count_cons 12 3 xs))
inverse_pairs (suc (suc (suc (suc n))) ∷ xs) cs b e = absurd (omega (arith, b.0))

-- a gap's deletions and insertions
ordered_gap : (g next : List ℕ) → AllBelow 4 g → count_among 3 g ≡ 0 → InOrder (g ++ next) → (d i : ℕ) × (g ≡ replicate d 2 ++ replicate i 3)
unfolding is_among
ordered_gap [] next b e o = (0, 0, refl)
ordered_gap (zero ∷ g) next b e o = absurd (omega (arith, e, count_cons 3 0 g))
ordered_gap (suc zero ∷ g) next b e o = absurd (omega (arith, e, count_cons 3 1 g))
ordered_gap (suc (suc zero) ∷ g) next b e o =
    let r = ordered_gap g next b.1 (omega (arith, e, count_cons 3 2 g)) o in
    (suc r.0, r.1, ap (λ ys. 2 ∷ ys) r.2)
ordered_gap (suc (suc (suc zero)) ∷ g) next b e o =
    let r = ordered_gap g next b.1 (omega (arith, e, count_cons 3 3 g)) o.1 in
    later r.0 r.1 r.2
  where
    later : (d i : ℕ) → g ≡ replicate d 2 ++ replicate i 3 → (d i : ℕ) × (3 ∷ g ≡ replicate d 2 ++ replicate i 3)
    later zero i f = (0, suc i, ap (λ ys. 3 ∷ ys) f)
    later (suc d) i f = let N : List ℕ → Type 0 = λ ys. NotDeleted (ys ++ next) in absurd (subst N f o.0)
ordered_gap (suc (suc (suc (suc n))) ∷ g) next b e o = absurd (omega (arith, b.0))

after_gap : (cs : List ℕ) → NotDeleted cs → put_inserted cs ≡ 3 ∷ cs
after_gap [] h = refl
after_gap (zero ∷ cs) h = refl
after_gap (suc zero ∷ cs) h = refl
after_gap (suc (suc zero) ∷ cs) h = absurd h
after_gap (suc (suc (suc n)) ∷ cs) h = refl

put_in_gap : (i d : ℕ) (cs : List ℕ) → NotDeleted cs → put_inserted ((replicate i 2 ++ replicate d 3) ++ cs) ≡ (replicate i 2 ++ replicate (suc d) 3) ++ cs
put_in_gap zero zero cs h = after_gap cs h
put_in_gap zero (suc d) cs h = refl
put_in_gap (suc i) d cs h = ap (λ ys. 2 ∷ ys) (put_in_gap i d cs h)

not_deleted : (cs : List ℕ) → AllBelow 4 cs → BeginsAmong 3 cs → NotDeleted (inverse_colours cs)
unfolding is_among
not_deleted [] b h = tt
not_deleted (zero ∷ cs) b h = tt
not_deleted (suc zero ∷ cs) b h = tt
not_deleted (suc (suc zero) ∷ cs) b h = absurd (cc)
not_deleted (suc (suc (suc zero)) ∷ cs) b h = absurd (cc)
not_deleted (suc (suc (suc (suc n))) ∷ cs) b h = absurd (omega (arith, b.0))

inverse_insertions : (i : ℕ) (cs : List ℕ) → inverse_colours (replicate i 3 ++ cs) ≡ replicate i 2 ++ inverse_colours cs
inverse_insertions zero cs = refl
inverse_insertions (suc i) cs = ap (λ ys. 2 ∷ ys) (inverse_insertions i cs)

inverse_gap : (d i : ℕ) (cs : List ℕ) → NotDeleted (inverse_colours cs) → inverse_colours ((replicate d 2 ++ replicate i 3) ++ cs) ≡ (replicate i 2 ++ replicate d 3) ++ inverse_colours cs
inverse_gap zero i cs h = inverse_insertions i cs ∙ ap (λ ys. ys ++ inverse_colours cs) (sym (append-nil (replicate i 2)))
inverse_gap (suc d) i cs h = ap put_inserted (inverse_gap d i cs h) ∙ put_in_gap i d (inverse_colours cs) h

-- what a search among the colours reaches
pub reached_some : (mask from k position : ℕ) (cs prefix rest : List ℕ) → k ≡ count_among mask (take from cs) → IsKth mask k cs position → cs ≡ prefix ++ rest → from ≡ length prefix → Reached mask prefix rest position
reached_some mask from k position cs prefix rest f h e g =
    let P : List ℕ → Type 0 = λ xs. IsKth mask k xs position in
    let kth : IsKth mask k (prefix ++ rest) position = subst P e h in
    let counted : k ≡ count_among mask prefix = f ∙ (ap (λ xs. count_among mask (take from xs)) e ∙ ap (count_among mask) (take_at prefix rest from (sym g))) in
    reached_position mask prefix rest position kth.in_range kth.among (kth.before ∙ counted)

pub reached_none : (mask from k position : ℕ) (cs prefix rest : List ℕ) → k ≡ count_among mask (take from cs) → count_among mask cs ≤ k → position ≡ length cs → cs ≡ prefix ++ rest → from ≡ length prefix → Reached mask prefix rest position
reached_none mask from k position cs prefix rest f few end e g =
    let counted : k ≡ count_among mask prefix = f ∙ (ap (λ xs. count_among mask (take from xs)) e ∙ ap (count_among mask) (take_at prefix rest from (sym g))) in
    reached_end mask prefix rest position (end ∙ ap length e) (omega (arith, few, counted, ap (count_among mask) e))

-- painting a middle part
paint_middle : (xs ms ys : List ℕ) (at n c : ℕ) → at ≡ length xs → n ≡ length ms → painted (xs ++ (ms ++ ys)) at n c ≡ xs ++ (replicate n c ++ ys)
unfolding painted
paint_middle xs ms ys at n c e f =
    ap (λ zs. zs ++ (replicate n c ++ drop (at + n) (xs ++ (ms ++ ys)))) (take_at xs (ms ++ ys) at (sym e))
    ∙ ap (λ zs. xs ++ (replicate n c ++ zs)) (drop_parts xs ms ys at n e f)

regroup : (a b c d e : List ℕ) → a ++ ((b ++ (c ++ d)) ++ e) ≡ (a ++ b) ++ (c ++ (d ++ e))
regroup a b c d e =
    ap (λ ys. a ++ ys) (append_assoc b (c ++ d) e ∙ ap (λ ys. b ++ ys) (append_assoc c d e))
    ∙ sym (append_assoc a b (c ++ (d ++ e)))

more_insertions : (f next : List ℕ) (d i : ℕ) → d < i → painted (f ++ ((replicate d 2 ++ replicate i 3) ++ next)) (length f + d) (i - d) 2 ≡ f ++ ((replicate i 2 ++ replicate d 3) ++ next)
more_insertions f next d i less =
    let n : (i - d) + d ≡ i = omega (arith, less) in
    let m : d + (i - d) ≡ i = omega (arith, less) in
    let old : replicate d 2 ++ replicate i 3 ≡ replicate d 2 ++ (replicate (i - d) 3 ++ replicate d 3) = ap (λ ys. replicate d 2 ++ ys) (sym (replicate-append-replicate (i - d) d 3 ∙ ap (λ k. replicate k 3) n)) in
    let new : replicate d 2 ++ (replicate (i - d) 2 ++ replicate d 3) ≡ replicate i 2 ++ replicate d 3 = sym (append_assoc (replicate d 2) (replicate (i - d) 2) (replicate d 3)) ∙ ap (λ ys. ys ++ replicate d 3) (replicate-append-replicate d (i - d) 2 ∙ ap (λ k. replicate k 2) m) in
    let position : length f + d ≡ length (f ++ replicate d 2) = omega (arith, app_len f (replicate d 2), rep_len d 2) in
    ap (λ ys. painted (f ++ (ys ++ next)) (length f + d) (i - d) 2) old
    ∙ (ap (λ ys. painted ys (length f + d) (i - d) 2) (regroup f (replicate d 2) (replicate (i - d) 3) (replicate d 3) next)
    ∙ (paint_middle (f ++ replicate d 2) (replicate (i - d) 3) (replicate d 3 ++ next) (length f + d) (i - d) 2 position (sym (rep_len (i - d) 3))
    ∙ (sym (regroup f (replicate d 2) (replicate (i - d) 2) (replicate d 3) next) ∙ ap (λ ys. f ++ (ys ++ next)) new)))

more_deletions : (f next : List ℕ) (d i : ℕ) → i ≤ d → painted (f ++ ((replicate d 2 ++ replicate i 3) ++ next)) (length f + i) (d - i) 3 ≡ f ++ ((replicate i 2 ++ replicate d 3) ++ next)
more_deletions f next d i less =
    let n : i + (d - i) ≡ d = omega (arith, less) in
    let m : (d - i) + i ≡ d = omega (arith, less) in
    let old : replicate d 2 ++ replicate i 3 ≡ replicate i 2 ++ (replicate (d - i) 2 ++ replicate i 3) = ap (λ ys. ys ++ replicate i 3) (sym (replicate-append-replicate i (d - i) 2 ∙ ap (λ k. replicate k 2) n)) ∙ append_assoc (replicate i 2) (replicate (d - i) 2) (replicate i 3) in
    let new : replicate i 2 ++ (replicate (d - i) 3 ++ replicate i 3) ≡ replicate i 2 ++ replicate d 3 = ap (λ ys. replicate i 2 ++ ys) (replicate-append-replicate (d - i) i 3 ∙ ap (λ k. replicate k 3) m) in
    let position : length f + i ≡ length (f ++ replicate i 2) = omega (arith, app_len f (replicate i 2), rep_len i 2) in
    ap (λ ys. painted (f ++ (ys ++ next)) (length f + i) (d - i) 3) old
    ∙ (ap (λ ys. painted ys (length f + i) (d - i) 3) (regroup f (replicate i 2) (replicate (d - i) 2) (replicate i 3) next)
    ∙ (paint_middle (f ++ replicate i 2) (replicate (d - i) 2) (replicate i 3 ++ next) (length f + i) (d - i) 3 position (sym (rep_len (d - i) 2))
    ∙ (sym (regroup f (replicate i 2) (replicate (d - i) 3) (replicate i 3) next) ∙ ap (λ ys. f ++ (ys ++ next)) new)))

-- any colours have room where pieces of so many changes have
abbrev pub some_piece : ℕ → Piece
some_piece zero = kept
some_piece (suc zero) = updated (num (pos 0)) (num (pos 0))
some_piece (suc (suc zero)) = deleted (num (pos 0))
some_piece (suc (suc (suc n))) = inserted (num (pos 0))

some_colours : (xs : List ℕ) → AllBelow 4 xs → xs ≡ map colour_of (map some_piece xs)
some_colours [] b = refl
some_colours (zero ∷ xs) b = ap (λ ys. 0 ∷ ys) (some_colours xs b.1)
some_colours (suc zero ∷ xs) b = ap (λ ys. 1 ∷ ys) (some_colours xs b.1)
some_colours (suc (suc zero) ∷ xs) b = ap (λ ys. 2 ∷ ys) (some_colours xs b.1)
some_colours (suc (suc (suc zero)) ∷ xs) b = ap (λ ys. 3 ∷ ys) (some_colours xs b.1)
some_colours (suc (suc (suc (suc n))) ∷ xs) b = absurd (omega (arith, b.0))

colours_fit : (now : Colours) (outcome : List ℕ) (m : ℕ) → AllBelow 4 outcome → count_among 14 outcome ≡ m → 1 ≤ m → 2 * m ≤ now.room - 1 → HasRoom now outcome
colours_fit now outcome m b e some enough =
    let ps = map some_piece outcome in
    let is = some_colours outcome b in
    fits now m outcome ps is (omega (arith, e, ap (count_among 14) is, counts_changed ps)) some enough

below_append : (xs ys : List ℕ) → AllBelow 4 (xs ++ ys) → AllBelow 4 xs × AllBelow 4 ys
below_append [] ys b = (tt, b)
below_append (x ∷ xs) ys b = let r = below_append xs ys b.1 in ((b.0, r.0), r.1)

below_both : (xs ys : List ℕ) → AllBelow 4 xs → AllBelow 4 ys → AllBelow 4 (xs ++ ys)
below_both [] ys a b = b
below_both (x ∷ xs) ys a b = (a.0, below_both xs ys a.1 b)

below_same : (n c : ℕ) → c < 4 → AllBelow 4 (replicate n c)
below_same zero c h = tt
below_same (suc n) c h = (h, below_same n c h)

in_order_rest : (xs ys : List ℕ) → InOrder (xs ++ ys) → InOrder ys
in_order_rest [] ys h = h
in_order_rest (zero ∷ xs) ys h = in_order_rest xs ys h
in_order_rest (suc zero ∷ xs) ys h = in_order_rest xs ys h
in_order_rest (suc (suc zero) ∷ xs) ys h = in_order_rest xs ys h
in_order_rest (suc (suc (suc n)) ∷ xs) ys h = in_order_rest xs ys h.1

count_two : (mask : ℕ) (n : ℕ) → is_among mask 2 ≡ true → count_among mask (replicate n 2) ≡ n
count_two mask zero h = count_among-none mask
count_two mask (suc n) h = let pick : Bool → ℕ = λ b. cond b 1 0 in omega (arith, count_cons mask 2 (replicate n 2), ap pick h, count_two mask n h)

count_three : (mask : ℕ) (n : ℕ) (b : Bool) → is_among mask 3 ≡ b → count_among mask (replicate n 3) ≡ cond b n 0
count_three mask zero true h = count_among-none mask
count_three mask zero false h = count_among-none mask
count_three mask (suc n) true h = let pick : Bool → ℕ = λ b. cond b 1 0 in omega (arith, count_cons mask 3 (replicate n 3), ap pick h, count_three mask n true h)
count_three mask (suc n) false h = let pick : Bool → ℕ = λ b. cond b 1 0 in omega (arith, count_cons mask 3 (replicate n 3), ap pick h, count_three mask n false h)

-- The first gap after the front: its pairs before, its deletions and insertions, and what follows.
pub record Gap (start : List ℕ) (now : Colours) (from to end : ℕ) : Type 0 where
  pub before : List ℕ
  pub next : List ℕ
  pub d : ℕ
  pub i : ℕ
  pub is : now.colours ≡ before ++ ((replicate d 2 ++ replicate i 3) ++ next)
  pub to_is : to ≡ length before
  pub end_is : end ≡ to + (d + i)
  pub count_is : count_among 4 (take end now.colours) ≡ count_among 4 (take to now.colours) + d
  pub whole : inverse_colours start ≡ before ++ ((replicate i 2 ++ replicate d 3) ++ inverse_colours next)
  pub ordered : InOrder next
  pub below : AllBelow 4 (before ++ ((replicate i 2 ++ replicate d 3) ++ next))
  pub changed : count_among 14 (before ++ ((replicate i 2 ++ replicate d 3) ++ next)) ≡ count_among 14 now.colours
  pub some : d + i ≤ count_among 14 now.colours
  pub goes : from < end
  pub order : from ≤ to
  pub room : 2 * count_among 14 now.colours ≤ now.room - 1

-- no colour is one of both sets
neither : (ys : List ℕ) → AllBelow 4 ys → BeginsAmong 12 ys → BeginsAmong 3 ys → 1 ≤ length ys → ⊥
unfolding is_among
neither [] b h k n = omega (arith, n)
neither (zero ∷ ys) b h k n = cc
neither (suc zero ∷ ys) b h k n = cc
neither (suc (suc zero) ∷ ys) b h k n = cc
neither (suc (suc (suc zero)) ∷ ys) b h k n = cc
neither (suc (suc (suc (suc m))) ∷ ys) b h k n = omega (arith, b.0)

gap_some : (after gap next : List ℕ) → AllBelow 4 after → BeginsAmong 12 after → after ≡ gap ++ next → BeginsAmong 3 next → 1 ≤ length after → 1 ≤ length gap
gap_some after (x ∷ gap) next b h e k n = omega arith
gap_some after [] next b h e k n = let P : List ℕ → Type 0 = BeginsAmong 3 in absurd (neither after b h (subst P (sym e) k) n)

gap_goes : (from to end n m f g : ℕ) → from < n → n ≡ from + (f + m) → to ≡ from + f → end ≡ to + g → (1 ≤ m → 1 ≤ g) → from < end
gap_goes from to end n zero f g w e t d h = omega (arith, w, e, t, d)
gap_goes from to end n (suc m) f g w e t d h = omega (arith, t, d, h (omega arith))

pub gap_is : (start : List ℕ) (now : Colours) (from to end : ℕ) → from < length now.colours → Turning start now from → AllBelow 4 now.colours → ((prefix rest : List ℕ) → now.colours ≡ prefix ++ rest → from ≡ length prefix → Reached 12 prefix rest to) → ((prefix rest : List ℕ) → now.colours ≡ prefix ++ rest → to ≡ length prefix → Reached 3 prefix rest end) → Gap start now from to end
unfolding is_among
gap_is start now from to end more t b first second =
    let r = first t.prefix t.rest t.is t.at_is in
    let before : List ℕ = t.prefix ++ r.before in
    let split : now.colours ≡ before ++ r.after = t.is ∙ (ap (λ ys. t.prefix ++ ys) r.is ∙ sym (append_assoc t.prefix r.before r.after)) in
    let to_is : to ≡ length before = r.position_is ∙ sym (length-append t.prefix r.before) in
    let s = second before r.after split to_is in
    let all : AllBelow 4 (before ++ r.after) = (let P : List ℕ → Type 0 = AllBelow 4 in subst P split b) in
    let parts = below_append before r.after all in
    let rest_parts = (let P : List ℕ → Type 0 = AllBelow 4 in below_append s.before s.after (subst P s.is parts.1)) in
    let prefix_parts = below_append t.prefix r.before parts.0 in
    let order : InOrder (s.before ++ s.after) = (let P : List ℕ → Type 0 = InOrder in subst P s.is (in_order_rest r.before r.after (subst P r.is t.ordered))) in
    let g = ordered_gap s.before s.after rest_parts.0 s.none order in
    let d = g.0 in
    let i = g.1 in
    let gap : List ℕ = replicate d 2 ++ replicate i 3 in
    let is : now.colours ≡ before ++ (gap ++ s.after) = split ∙ ap (λ ys. before ++ ys) (s.is ∙ ap (λ ys. ys ++ s.after) g.2) in
    let len : length gap ≡ d + i = omega (arith, app_len (replicate d 2) (replicate i 3), rep_len d 2, rep_len i 3) in
    let end_is : end ≡ to + (d + i) = omega (arith, s.position_is, to_is, ap length g.2, len) in
    let joined : now.colours ≡ (before ++ gap) ++ s.after = is ∙ sym (append_assoc before gap s.after) in
    let up_to : take end now.colours ≡ before ++ gap = ap (take end) joined ∙ take_at (before ++ gap) s.after end (omega (arith, length-append before gap, len, end_is, to_is)) in
    let prefix_is : take to now.colours ≡ before = ap (take to) is ∙ take_at before (gap ++ s.after) to (sym to_is) in
    let clear = not_deleted s.after rest_parts.1 s.here in
    record {
      before = before;
      next = s.after;
      d = d;
      i = i;
      is = is;
      to_is = to_is;
      end_is = end_is;
      count_is = omega (arith, ap (count_among 4) up_to, ap (count_among 4) prefix_is, count_among-append 4 before gap, count_among-append 4 (replicate d 2) (replicate i 3), count_two 4 d refl, count_three 4 i false refl);
      whole = t.whole ∙ (ap (λ ys. t.prefix ++ inverse_colours ys) (r.is ∙ ap (λ ys. r.before ++ ys) (s.is ∙ ap (λ ys. ys ++ s.after) g.2)) ∙ (ap (λ ys. t.prefix ++ ys) (inverse_pairs r.before (gap ++ s.after) prefix_parts.1 r.none ∙ ap (λ ys. r.before ++ ys) (inverse_gap d i s.after clear)) ∙ sym (append_assoc t.prefix r.before ((replicate i 2 ++ replicate d 3) ++ inverse_colours s.after))));
      ordered = in_order_rest s.before s.after order;
      below = below_both before ((replicate i 2 ++ replicate d 3) ++ s.after) parts.0 (below_both (replicate i 2 ++ replicate d 3) s.after (below_both (replicate i 2) (replicate d 3) (below_same i 2 (omega arith)) (below_same d 3 (omega arith))) rest_parts.1);
      changed = omega (arith, ap (count_among 14) is, count_among-append 14 before (gap ++ s.after), count_among-append 14 gap s.after, count_among-append 14 (replicate d 2) (replicate i 3), count_among-append 14 before ((replicate i 2 ++ replicate d 3) ++ s.after), count_among-append 14 (replicate i 2 ++ replicate d 3) s.after, count_among-append 14 (replicate i 2) (replicate d 3), count_two 14 d refl, count_two 14 i refl, count_three 14 d true refl, count_three 14 i true refl);
      some = omega (arith, ap (count_among 14) is, count_among-append 14 before (gap ++ s.after), count_among-append 14 gap s.after, count_among-append 14 (replicate d 2) (replicate i 3), count_two 14 d refl, count_three 14 i true refl);
      goes = gap_goes from to end (length now.colours) (length r.after) (length r.before) (length s.before) more (ap length t.is ∙ (app_len t.prefix t.rest ∙ omega (arith, ap length r.is, app_len r.before r.after, t.at_is))) (omega (arith, r.position_is, t.at_is)) (omega (arith, s.position_is, to_is)) (λ n. gap_some r.after s.before s.after parts.1 r.here s.is s.here n);
      order = omega (arith, r.position_is, t.at_is);
      room = t.room;
    }

-- what a gap's paint leaves
pub gap_insertions : (start : List ℕ) (now : Colours) (from to end D I : ℕ) → (g : Gap start now from to end) → D ≡ g.d → I ≡ g.i → D < I → painted now.colours (to + D) (I - D) 2 ≡ g.before ++ ((replicate g.i 2 ++ replicate g.d 3) ++ g.next)
gap_insertions start now from to end D I g e f less =
    let p : to + D ≡ length g.before + g.d = omega (arith, g.to_is, e) in
    let q : I - D ≡ g.i - g.d = omega (arith, e, f) in
    ap (λ k. painted now.colours k (I - D) 2) p
    ∙ (ap (λ k. painted now.colours (length g.before + g.d) k 2) q
    ∙ (ap (λ xs. painted xs (length g.before + g.d) (g.i - g.d) 2) g.is ∙ more_insertions g.before g.next g.d g.i (omega (arith, e, f, less))))

pub gap_deletions : (start : List ℕ) (now : Colours) (from to end D I : ℕ) → (g : Gap start now from to end) → D ≡ g.d → I ≡ g.i → I ≤ D → painted now.colours (to + I) (D - I) 3 ≡ g.before ++ ((replicate g.i 2 ++ replicate g.d 3) ++ g.next)
gap_deletions start now from to end D I g e f less =
    let p : to + I ≡ length g.before + g.i = omega (arith, g.to_is, f) in
    let q : D - I ≡ g.d - g.i = omega (arith, e, f) in
    ap (λ k. painted now.colours k (D - I) 3) p
    ∙ (ap (λ k. painted now.colours (length g.before + g.i) k 3) q
    ∙ (ap (λ xs. painted xs (length g.before + g.i) (g.d - g.i) 3) g.is ∙ more_deletions g.before g.next g.d g.i (omega (arith, e, f, less))))

pub gap_room : (start : List ℕ) (now : Colours) (from to end : ℕ) (done : List ℕ) → (g : Gap start now from to end) → to < end → done ≡ g.before ++ ((replicate g.i 2 ++ replicate g.d 3) ++ g.next) → HasRoom now done
gap_room start now from to end done g some e =
    let P : List ℕ → Type 0 = AllBelow 4 in
    colours_fit now done (count_among 14 now.colours) (subst P (sym e) g.below) (ap (count_among 14) e ∙ g.changed) (omega (arith, some, g.end_is, g.some)) g.room

out_len : (b n : List ℕ) (d i : ℕ) → length (b ++ ((replicate i 2 ++ replicate d 3) ++ n)) ≡ length b + (d + i) + length n
out_len b n d i = omega (arith, app_len b ((replicate i 2 ++ replicate d 3) ++ n), app_len (replicate i 2 ++ replicate d 3) n, app_len (replicate i 2) (replicate d 3), rep_len i 2, rep_len d 3)

in_len : (b n : List ℕ) (d i : ℕ) → length (b ++ ((replicate d 2 ++ replicate i 3) ++ n)) ≡ length b + (d + i) + length n
in_len b n d i = omega (arith, app_len b ((replicate d 2 ++ replicate i 3) ++ n), app_len (replicate d 2 ++ replicate i 3) n, app_len (replicate d 2) (replicate i 3), rep_len d 2, rep_len i 3)

pub gap_len : (start : List ℕ) (now : Colours) (from to end : ℕ) (done : List ℕ) → (g : Gap start now from to end) → done ≡ g.before ++ ((replicate g.i 2 ++ replicate g.d 3) ++ g.next) → (length done ≡ length now.colours) × (end ≤ length now.colours)
gap_len start now from to end done g e =
    let n = ap length g.is ∙ in_len g.before g.next g.d g.i in
    (omega (arith, n, ap length e, out_len g.before g.next g.d g.i), omega (arith, n, g.end_is, g.to_is))

pub gap_order : (start : List ℕ) (now new : Colours) (from to end : ℕ) → (g : Gap start now from to end) → new.colours ≡ g.before ++ ((replicate g.i 2 ++ replicate g.d 3) ++ g.next) → new.room ≡ now.room → Turning start new end
gap_order start now new from to end g e same = record {
  prefix = g.before ++ (replicate g.i 2 ++ replicate g.d 3);
  rest = g.next;
  is = e ∙ sym (append_assoc g.before (replicate g.i 2 ++ replicate g.d 3) g.next);
  at_is = omega (arith, g.end_is, g.to_is, app_len g.before (replicate g.i 2 ++ replicate g.d 3), app_len (replicate g.i 2) (replicate g.d 3), rep_len g.i 2, rep_len g.d 3);
  whole = g.whole ∙ sym (append_assoc g.before (replicate g.i 2 ++ replicate g.d 3) (inverse_colours g.next));
  ordered = g.ordered;
  room = omega (arith, ap (count_among 14) e, g.changed, g.room, same);
}

-- where nothing stands in the gap, nothing changes
pub gap_none : (start : List ℕ) (now : Colours) (from to end : ℕ) → (g : Gap start now from to end) → to ≡ end → now.colours ≡ g.before ++ ((replicate g.i 2 ++ replicate g.d 3) ++ g.next)
gap_none start now from to end g e =
    let dn : g.d ≡ 0 = omega (arith, g.end_is, e) in
    let im : g.i ≡ 0 = omega (arith, g.end_is, e) in
    g.is ∙ (ap (λ k. g.before ++ ((replicate k 2 ++ replicate g.i 3) ++ g.next)) dn
    ∙ (ap (λ k. g.before ++ ((replicate 0 2 ++ replicate k 3) ++ g.next)) im
    ∙ (ap (λ k. g.before ++ ((replicate k 2 ++ replicate 0 3) ++ g.next)) (sym im) ∙ ap (λ k. g.before ++ ((replicate g.i 2 ++ replicate k 3) ++ g.next)) (sym dn))))
