-- Deletions moved before the insertions before them: no value moves.
use Rattle.std.proofs.Common.{◌≡◌, ◌∙◌, ℕ, suc, ◌+◌, ◌-◌, ◌*◌, ◌^◌, ◌<◌, ◌≤◌, List, [], ◌∷◌, ◌++◌, length, map, replicate, refl, ap, sym, arith, append_assoc}
use Rattle.std.proofs.lemmas.List.{map-append, length-append}
use Rattle.spec_value.specs.Tree.{Tree}
use Rattle.spec_lists.specs.Piece.{Piece, kept, updated, deleted, inserted}
use Rattle.spec_lists.specs.Changes.{changed_len}
use Rattle.spec_lists.proofs.ChangeCounts.{changed_len-append}
use Rattle.gl_fourcolour.specs.Colours.{Colours, HasRoom, inserted as put_in, removed as cut_out}
use Rattle.gl_fourcolour.proofs.Expansions.{inserted_at, removed_at}
use Rattle.gl_delta.specs.Listed.{Listed}
use Rattle.gl_delta.specs.Store.{colour_of, old_values, new_values, IsStored}
use Rattle.gl_delta.specs.Pieces.{AllInserted, AllDeleted, brought_forward, AreAfter}
use Rattle.gl_delta.proofs.Ranks.{fits}
use Rattle.gl_delta.proofs.Stores.{colours_len, old_values-append, new_values-append, length-colours}

-- insertions tell no old value, deletions no new one
none_old : (ins : List Piece) → AllInserted ins → old_values ins ≡ []
none_old [] i = refl
none_old (kept ∷ ins) i = absurd i
none_old (updated v w ∷ ins) i = absurd i
none_old (deleted v ∷ ins) i = absurd i
none_old (inserted w ∷ ins) i = none_old ins i

none_new : (dels : List Piece) → AllDeleted dels → new_values dels ≡ []
none_new [] d = refl
none_new (kept ∷ dels) d = absurd d
none_new (updated v w ∷ dels) d = absurd d
none_new (deleted v ∷ dels) d = none_new dels d
none_new (inserted w ∷ dels) d = absurd d

-- values of pieces of which one part tells none, wherever that part stands
none_between : (values : List Piece → List Tree) → ((b a : List Piece) → values (b ++ a) ≡ values b ++ values a) → (xs ys a : List Piece) → values xs ≡ [] → values (ys ++ (xs ++ a)) ≡ values (xs ++ (ys ++ a))
none_between values join xs ys a e =
    let inner : values (xs ++ a) ≡ values a = join xs a ∙ ap (λ vs. vs ++ values a) e in
    let outer : values (xs ++ (ys ++ a)) ≡ values (ys ++ a) = join xs (ys ++ a) ∙ ap (λ vs. vs ++ values (ys ++ a)) e in
    join ys (xs ++ a) ∙ (ap (λ vs. values ys ++ vs) inner ∙ (sym (join ys a) ∙ sym outer))

old_moved : (b ins dels a : List Piece) → AllInserted ins → old_values (b ++ (ins ++ (dels ++ a))) ≡ old_values (b ++ (dels ++ (ins ++ a)))
old_moved b ins dels a i =
    old_values-append b (ins ++ (dels ++ a))
    ∙ (ap (λ vs. old_values b ++ vs) (sym (none_between old_values old_values-append ins dels a (none_old ins i))) ∙ sym (old_values-append b (dels ++ (ins ++ a))))

new_moved : (b ins dels a : List Piece) → AllDeleted dels → new_values (b ++ (ins ++ (dels ++ a))) ≡ new_values (b ++ (dels ++ (ins ++ a)))
new_moved b ins dels a d =
    new_values-append b (ins ++ (dels ++ a))
    ∙ (ap (λ vs. new_values b ++ vs) (none_between new_values new_values-append dels ins a (none_new dels d)) ∙ sym (new_values-append b (dels ++ (ins ++ a))))

changed_moved : (b ins dels a : List Piece) → changed_len (b ++ (dels ++ (ins ++ a))) ≡ changed_len (b ++ (ins ++ (dels ++ a)))
changed_moved b ins dels a =
    omega (arith, changed_len-append b (dels ++ (ins ++ a)), changed_len-append dels (ins ++ a), changed_len-append ins a, changed_len-append b (ins ++ (dels ++ a)), changed_len-append ins (dels ++ a), changed_len-append dels a)

changed_insertions : (ins : List Piece) → AllInserted ins → changed_len ins ≡ length ins
changed_insertions [] i = refl
changed_insertions (kept ∷ ins) i = absurd i
changed_insertions (updated v w ∷ ins) i = absurd i
changed_insertions (deleted v ∷ ins) i = absurd i
changed_insertions (inserted w ∷ ins) i = ap suc (changed_insertions ins i)

-- the colours of moved deletions
colours_deleted : (dels : List Piece) → AllDeleted dels → map colour_of dels ≡ replicate (length dels) 2
colours_deleted [] d = refl
colours_deleted (kept ∷ dels) d = absurd d
colours_deleted (updated v w ∷ dels) d = absurd d
colours_deleted (deleted v ∷ dels) d = ap (λ xs. 2 ∷ xs) (colours_deleted dels d)
colours_deleted (inserted w ∷ dels) d = absurd d

colour_parts : (b xs ys a : List Piece) → map colour_of (b ++ (xs ++ (ys ++ a))) ≡ map colour_of b ++ (map colour_of xs ++ (map colour_of ys ++ map colour_of a))
colour_parts b xs ys a =
    map-append colour_of b (xs ++ (ys ++ a))
    ∙ ap (λ zs. map colour_of b ++ zs) (map-append colour_of xs (ys ++ a) ∙ ap (λ zs. map colour_of xs ++ zs) (map-append colour_of ys a))

-- without the deletions
colours_left : (b ins dels a : List Piece) (from n : ℕ) → from ≡ length b + length ins → n ≡ length dels → cut_out (map colour_of (b ++ (ins ++ (dels ++ a)))) from n ≡ map colour_of b ++ (map colour_of ins ++ map colour_of a)
colours_left b ins dels a from n e f =
    let cb = map colour_of b in
    let ci = map colour_of ins in
    let cd = map colour_of dels in
    let ca = map colour_of a in
    let position : from ≡ length (cb ++ ci) = omega (arith, e, length-append cb ci, length-colours b, length-colours ins) in
    ap (λ zs. cut_out zs from n) (colour_parts b ins dels a ∙ sym (append_assoc cb ci (cd ++ ca)))
    ∙ (removed_at (cb ++ ci) cd ca from n position (f ∙ sym (length-colours dels)) ∙ append_assoc cb ci ca)

colours_moved : (b ins dels a : List Piece) (to n : ℕ) → AllDeleted dels → to ≡ length b → n ≡ length dels → put_in (map colour_of b ++ (map colour_of ins ++ map colour_of a)) to 2 n ≡ map colour_of (b ++ (dels ++ (ins ++ a)))
colours_moved b ins dels a to n d e f =
    let cb = map colour_of b in
    let ci = map colour_of ins in
    let ca = map colour_of a in
    inserted_at cb (ci ++ ca) to 2 n (e ∙ sym (length-colours b))
    ∙ (ap (λ zs. cb ++ (zs ++ (ci ++ ca))) (ap (λ k. replicate k 2) f ∙ sym (colours_deleted dels d)) ∙ sym (colour_parts b dels ins a))

-- the store's colours without them, and with them moved
pub record Moves (cs : List ℕ) (ps : List Piece) (to from n : ℕ) : Type 0 where
  pub left : List ℕ
  pub left_is : cut_out cs from n ≡ left
  pub left_len : length left + n ≡ length ps
  pub left_far : to ≤ length left
  pub outcome : List Piece
  pub outcome_is : put_in left to 2 n ≡ map colour_of outcome
  pub changed_is : changed_len outcome ≡ changed_len ps

pub moves : (cs : List ℕ) (ps : List Piece) (to from end n : ℕ) → cs ≡ map colour_of ps → (b : AreAfter ps to from end) → n ≡ end - from → Moves cs ps to from n
moves cs ps to from end n e b f =
    let m : n ≡ length b.deletions = omega (arith, f, b.end_is) in
    let cb = map colour_of b.prefix in
    let ci = map colour_of b.insertions in
    let ca = map colour_of b.rest in
    let position : from ≡ length b.prefix + length b.insertions = omega (arith, b.to_is, b.from_is) in
    record {
      left = cb ++ (ci ++ ca);
      left_is = ap (λ xs. cut_out xs from n) (e ∙ ap (map colour_of) b.is) ∙ colours_left b.prefix b.insertions b.deletions b.rest from n position m;
      left_len = omega (arith, m, ap length b.is, length-append b.prefix (b.insertions ++ (b.deletions ++ b.rest)), length-append b.insertions (b.deletions ++ b.rest), length-append b.deletions b.rest, length-append cb (ci ++ ca), length-append ci ca, length-colours b.prefix, length-colours b.insertions, length-colours b.rest);
      left_far = omega (arith, b.to_is, length-append cb (ci ++ ca), length-colours b.prefix);
      outcome = brought_forward b;
      outcome_is = colours_moved b.prefix b.insertions b.deletions b.rest to n b.are_deleted b.to_is m;
      changed_is = changed_moved b.prefix b.insertions b.deletions b.rest ∙ ap changed_len (sym b.is);
    }

some_changed : (ps : List Piece) (to from end : ℕ) → AreAfter ps to from end → to < from → 1 ≤ changed_len ps
some_changed ps to from end b h =
    omega (arith, h, b.from_is, ap changed_len b.is, changed_len-append b.prefix (b.insertions ++ (b.deletions ++ b.rest)), changed_len-append b.insertions (b.deletions ++ b.rest), changed_insertions b.insertions b.are_inserted)

pub later_within : (ps : List Piece) (to from end : ℕ) → AreAfter ps to from end → (from ≤ end) × (end ≤ length ps)
later_within ps to from end b =
    (omega (arith, b.end_is), omega (arith, b.to_is, b.from_is, b.end_is, ap length b.is, length-append b.prefix (b.insertions ++ (b.deletions ++ b.rest)), length-append b.insertions (b.deletions ++ b.rest), length-append b.deletions b.rest))

-- the deletions' colours may be put in again
pub record CanMove (ds : Colours) (to n : ℕ) : Type 0 where
  pub in_range : to ≤ length ds.colours
  pub small : length ds.colours + n < 2 ^ 32
  pub has_room : HasRoom ds (put_in ds.colours to 2 n)

pub can_move : (cs ds : Colours) (vs ws : Listed) (room : ℕ) (ps : List Piece) (to from end n : ℕ) → IsStored cs vs ws room ps → AreAfter ps to from end → to < from → length ps ≤ 4294967294 → n ≡ end - from → ds.colours ≡ cut_out cs.colours from n → ds.room ≡ cs.room → CanMove ds to n
can_move cs ds vs ws room ps to from end n s b h few f colours same =
    let m = moves cs.colours ps to from end n s.colours_are b f in
    let is : ds.colours ≡ m.left = colours ∙ m.left_is in
    record {
      in_range = omega (arith, ap length is, m.left_far);
      small = omega (arith, ap length is, m.left_len, few);
      has_room = fits ds room (put_in ds.colours to 2 n) m.outcome (ap (λ xs. put_in xs to 2 n) is ∙ m.outcome_is) (omega (arith, m.changed_is, s.within)) (omega (arith, some_changed ps to from end b h, s.within)) (omega (arith, s.run_room, same));
    }

pub moved_stored : (cs ds es : Colours) (vs ws : Listed) (room : ℕ) (ps : List Piece) (to from end n : ℕ) → IsStored cs vs ws room ps → (b : AreAfter ps to from end) → n ≡ end - from → ds.colours ≡ cut_out cs.colours from n → ds.room ≡ cs.room → es.colours ≡ put_in ds.colours to 2 n → es.room ≡ ds.room → IsStored es vs ws room (brought_forward b)
unfolding moves
moved_stored cs ds es vs ws room ps to from end n s b f colours same colours_put same_put =
    let m = moves cs.colours ps to from end n s.colours_are b f in
    record {
      colours_are = colours_put ∙ (ap (λ xs. put_in xs to 2 n) (colours ∙ m.left_is) ∙ m.outcome_is);
      olds_are = s.olds_are ∙ (ap old_values b.is ∙ old_moved b.prefix b.insertions b.deletions b.rest b.are_inserted);
      news_are = s.news_are ∙ (ap new_values b.is ∙ new_moved b.prefix b.insertions b.deletions b.rest b.are_deleted);
      old_room = s.old_room;
      new_room = s.new_room;
      run_room = omega (arith, s.run_room, same, same_put);
      within = omega (arith, m.changed_is, s.within);
    }
