-- Edits of a store, and the pieces that they leave.
use Rattle.std.proofs.Common.{◌≡◌, ◌≢◌, ◌∙◌, ℕ, zero, suc, ◌+◌, ◌-◌, ◌*◌, ◌^◌, ◌<◌, ◌≤◌, List, [], ◌∷◌, ◌++◌, length, map, take, drop, refl, ap, sym, arith}
use Rattle.std.specs.List.{insert, remove, slice_get}
use Rattle.std.specs.Prelude.{Some, false, slice_index, Result, Ok, Err, OnOk, OnErr}
use Rattle.std.proofs.lemmas.List.{take-append-drop, append-nil, length-append}
use Rattle.std.proofs.lemmas.Option.{same_Some}
use Rattle.spec_value.specs.Tree.{Tree}
use Rattle.spec_lists.specs.Piece.{Piece, kept, updated, deleted, inserted, identity}
use Rattle.spec_lists.specs.Cells.{update, delete, insert as insert_cell, cells_of}
use Rattle.spec_lists.specs.Changes.{changed_len}
use Rattle.spec_lists.proofs.ChangeCounts.{changed_len-append, changed_len-identity}
use Rattle.gl_fourcolour.specs.Colours.{Colours, HasRoom, count_among, inserted as put_in, removed as cut_out}
use Rattle.gl_delta.specs.Listed.{Listed}
use Rattle.gl_delta.specs.Marks.{kind_of}
use Rattle.gl_delta.specs.declared.mark.Side.TheVariants.{Old, New}
use Rattle.gl_delta.specs.declared.mark.Kind.TheVariants as kind
use Rattle.gl_delta.specs.Store.{colour_of, kind_by, told_old, told_new, told_count, old_values, new_values, spliced, told_by, IsStored}
use Rattle.gl_delta.specs.Pieces.{is_kept_piece}
use Rattle.gl_delta.proofs.CellRuns.{changed_few}
use Rattle.gl_delta.proofs.Cuts.{cut_at}
use Rattle.gl_delta.proofs.Ranks.{counts_with_old, counts_with_new, ranked, kind_colour, colour_at, fits}
use Rattle.gl_delta.proofs.Stores.{stored_again, told_at, colours_put, colours_cut, colours_more, colours_len, old_splits, new_splits, old_values-append, new_values-append, values_put, values_cut, changed_put, changed_cut, old_few, new_few}

one_changed : (x : Piece) → changed_len (x ∷ []) ≤ 1
one_changed kept = omega arith
one_changed (updated v w) = omega arith
one_changed (deleted v) = omega arith
one_changed (inserted w) = omega arith

-- ranks of values within their lists
rank_old : (cs : List ℕ) (ps : List Piece) (at i : ℕ) → cs ≡ map colour_of ps → i ≡ count_among 6 (take at cs) → i ≡ length (old_values (take at ps))
rank_old cs ps at i e f = f ∙ ranked 6 (λ qs. length (old_values qs)) counts_with_old cs ps at e

rank_new : (cs : List ℕ) (ps : List Piece) (at j : ℕ) → cs ≡ map colour_of ps → j ≡ count_among 10 (take at cs) → j ≡ length (new_values (take at ps))
rank_new cs ps at j e f = f ∙ ranked 10 (λ qs. length (new_values qs)) counts_with_new cs ps at e

old_within : (ps : List Piece) (at : ℕ) → length (old_values (take at ps)) ≤ length (old_values ps)
old_within ps at = omega (arith, ap (λ qs. length (old_values qs)) (take-append-drop at ps), ap length (old_values-append (take at ps) (drop at ps)), length-append (old_values (take at ps)) (old_values (drop at ps)))

new_within : (ps : List Piece) (at : ℕ) → length (new_values (take at ps)) ≤ length (new_values ps)
new_within ps at = omega (arith, ap (λ qs. length (new_values qs)) (take-append-drop at ps), ap length (new_values-append (take at ps) (drop at ps)), length-append (new_values (take at ps)) (new_values (drop at ps)))

-- a changed piece may be put in
pub record CanPut (cs : Colours) (vs ws : Listed) (at i j c : ℕ) : Type 0 where
  pub in_range : at ≤ length cs.colours
  pub small : length cs.colours + 1 < 2 ^ 32
  pub has_room : HasRoom cs (put_in cs.colours at c 1)
  pub old : i ≤ length vs.values
  pub new : j ≤ length ws.values
  pub few_old : length vs.values + 1 < 2 ^ 32 - 1
  pub few_new : length ws.values + 1 < 2 ^ 32 - 1
  pub spare_old : length vs.values < vs.room
  pub spare_new : length ws.values < ws.room

pub can_put : (cs : Colours) (vs ws : Listed) (room : ℕ) (ps : List Piece) (at i j c : ℕ) (x : Piece) → IsStored cs vs ws room ps → c ≡ colour_of x → i ≡ count_among 6 (take at cs.colours) → j ≡ count_among 10 (take at cs.colours) → at ≤ length ps → length ps + 1 ≤ 4294967294 → changed_len ps < room → CanPut cs vs ws at i j c
can_put cs vs ws room ps at i j c x s e f g within few spare =
    let len = colours_len cs.colours ps s.colours_are in
    let outcome : put_in cs.colours at c 1 ≡ map colour_of (insert ps at x) = ap (λ xs. put_in xs at c 1) s.colours_are ∙ (ap (λ k. put_in (map colour_of ps) at k 1) e ∙ colours_put ps at x) in
    record {
      in_range = omega (arith, len, within);
      small = omega (arith, len, few);
      has_room = fits cs room (put_in cs.colours at c 1) (insert ps at x) outcome (omega (arith, changed_put ps at x, one_changed x, spare)) (omega (arith, spare)) s.run_room;
      old = omega (arith, rank_old cs.colours ps at i s.colours_are f, old_within ps at, ap length s.olds_are);
      new = omega (arith, rank_new cs.colours ps at j s.colours_are g, new_within ps at, ap length s.news_are);
      few_old = omega (arith, ap length s.olds_are, old_few ps, changed_few ps, few);
      few_new = omega (arith, ap length s.news_are, new_few ps, changed_few ps, few);
      spare_old = omega (arith, ap length s.olds_are, old_few ps, spare, s.old_room);
      spare_new = omega (arith, ap length s.news_are, new_few ps, spare, s.new_room);
    }

-- what a piece tells is put into the two lists of values, at these positions
pub record ArePut (vs ws xs ys : Listed) (i j : ℕ) (x : Piece) : Type 0 where
  pub olds : xs.values ≡ spliced vs.values i (told_old x)
  pub old_room : xs.room ≡ vs.room
  pub news : ys.values ≡ spliced ws.values j (told_new x)
  pub new_room : ys.room ≡ ws.room

pub put_stored : (cs ds : Colours) (vs ws xs ys : Listed) (room : ℕ) (ps : List Piece) (at i j c : ℕ) (x : Piece)
    → IsStored cs vs ws room ps → c ≡ colour_of x
    → i ≡ count_among 6 (take at cs.colours) → j ≡ count_among 10 (take at cs.colours)
    → changed_len ps < room
    → ds.colours ≡ put_in cs.colours at c 1 → ds.room ≡ cs.room
    → ArePut vs ws xs ys i j x
    → IsStored ds xs ys room (insert ps at x)
put_stored cs ds vs ws xs ys room ps at i j c x s e f g spare colours same put = record {
  colours_are = colours ∙ (ap (λ zs. put_in zs at c 1) s.colours_are ∙ (ap (λ k. put_in (map colour_of ps) at k 1) e ∙ colours_put ps at x));
  olds_are = put.olds ∙ values_put old_values told_old old_splits old_values-append vs.values ps at i x s.olds_are (rank_old cs.colours ps at i s.colours_are f);
  news_are = put.news ∙ values_put new_values told_new new_splits new_values-append ws.values ps at j x s.news_are (rank_new cs.colours ps at j s.colours_are g);
  old_room = omega (arith, s.old_room, put.old_room);
  new_room = omega (arith, s.new_room, put.new_room);
  run_room = omega (arith, s.run_room, same);
  within = omega (arith, changed_put ps at x, one_changed x, spare);
}

-- a piece taken out
count_old : (p : Piece) → length (told_old p) ≡ told_count Old (kind_of p)
count_old kept = refl
count_old (updated v w) = refl
count_old (deleted v) = refl
count_old (inserted w) = refl

count_new : (p : Piece) → length (told_new p) ≡ told_count New (kind_of p)
count_new kept = refl
count_new (updated v w) = refl
count_new (deleted v) = refl
count_new (inserted w) = refl

pub same_piece : (p q : Piece) → kind_of p ≡ kind_of q → told_old p ≡ told_old q → told_new p ≡ told_new q → p ≡ q
same_piece kept kept e f g = refl
same_piece kept (updated v w) e f g = cc
same_piece kept (deleted v) e f g = cc
same_piece kept (inserted w) e f g = cc
same_piece (updated v w) kept e f g = cc
same_piece (updated v w) (updated x y) e f g = cc
same_piece (updated v w) (deleted x) e f g = cc
same_piece (updated v w) (inserted y) e f g = cc
same_piece (deleted v) kept e f g = cc
same_piece (deleted v) (updated x y) e f g = cc
same_piece (deleted v) (deleted x) e f g = cc
same_piece (deleted v) (inserted y) e f g = cc
same_piece (inserted w) kept e f g = cc
same_piece (inserted w) (updated x y) e f g = cc
same_piece (inserted w) (deleted x) e f g = cc
same_piece (inserted w) (inserted y) e f g = cc

not_kept : (x : Piece) → is_kept_piece (Some x) ≡ false → kind_of x ≢ kind.Kept
not_kept kept e = cc
not_kept (updated v w) e = λ f. cc
not_kept (deleted v) e = λ f. cc
not_kept (inserted w) e = λ f. cc

one_whole : (x : Piece) → kind_of x ≢ kind.Kept → changed_len (x ∷ []) ≡ 1
one_whole kept h = absurd (h refl)
one_whole (updated v w) h = refl
one_whole (deleted v) h = refl
one_whole (inserted w) h = refl

-- what stands at a place, and where its values stand
pub record There (cs : List ℕ) (vs ws : List Tree) (ps : List Piece) (at i j : ℕ) : Type 0 where
  pub piece : Piece
  pub got : slice_get ps at ≡ Some piece
  pub colour : slice_index cs at ≡ colour_of piece
  pub kind_is : kind_by (slice_index cs at) ≡ kind_of piece
  pub rank_old : i ≡ length (old_values (take at ps))
  pub rank_new : j ≡ length (new_values (take at ps))
  pub old : i + told_count Old (kind_of piece) ≤ length vs
  pub new : j + told_count New (kind_of piece) ≤ length ws

value_room : (values : List Piece → List Tree) (told : Piece → List Tree) → ((b a : List Piece) (x : Piece) → values (b ++ x ∷ a) ≡ values b ++ (told x ++ values a)) → (ps : List Piece) (at : ℕ) (x : Piece) → slice_get ps at ≡ Some x → length (values (take at ps)) + length (told x) ≤ length (values ps)
value_room values told split ps at x got =
    let whole : values ps ≡ values (take at ps) ++ (told x ++ values (drop (suc at) ps)) = ap values (sym (cut_at ps at x got)) ∙ split (take at ps) (drop (suc at) ps) x in
    omega (arith, ap length whole, length-append (values (take at ps)) (told x ++ values (drop (suc at) ps)), length-append (told x) (values (drop (suc at) ps)))

pub there_is : (cs : Colours) (vs ws : Listed) (room : ℕ) (ps : List Piece) (at i j : ℕ) → IsStored cs vs ws room ps → at < length ps → i ≡ count_among 6 (take at cs.colours) → j ≡ count_among 10 (take at cs.colours) → There cs.colours vs.values ws.values ps at i j
there_is cs vs ws room ps at i j s within f g =
    let x = colour_at cs.colours ps at s.colours_are within in
    let ro = rank_old cs.colours ps at i s.colours_are f in
    let rn = rank_new cs.colours ps at j s.colours_are g in
    record {
      piece = x.0;
      got = x.1.0;
      colour = x.1.1;
      kind_is = ap kind_by x.1.1 ∙ kind_colour x.0;
      rank_old = ro;
      rank_new = rn;
      old = omega (arith, ro, value_room old_values told_old old_splits ps at x.0 x.1.0, count_old x.0, ap length s.olds_are);
      new = omega (arith, rn, value_room new_values told_new new_splits ps at x.0 x.1.0, count_new x.0, ap length s.news_are);
    }

pub there_changed : (ps : List Piece) (at : ℕ) (x : Piece) → slice_get ps at ≡ Some x → is_kept_piece (slice_get ps at) ≡ false → kind_of x ≢ kind.Kept
there_changed ps at x got e = not_kept x (ap is_kept_piece (sym got) ∙ e)

length-spliced : (vs ys : List Tree) (i : ℕ) → length (spliced vs i ys) ≡ length vs + length ys
length-spliced vs ys i = omega (arith, length-append (take i vs) (ys ++ drop i vs), length-append ys (drop i vs), ap length (take-append-drop i vs), length-append (take i vs) (drop i vs))

-- what taking out leaves
pub record Cut (ds : Colours) (xs ys : Listed) (room : ℕ) (ps : List Piece) (at : ℕ) (y : Piece) : Type 0 where
  pub piece : slice_get ps at ≡ Some y
  pub stored : IsStored ds xs ys room (remove ps at)
  pub fewer : changed_len (remove ps at) < room

pub cut_stored : (cs ds : Colours) (vs ws xs ys : Listed) (room : ℕ) (ps : List Piece) (at i j : ℕ) (y : Piece)
    → IsStored cs vs ws room ps
    → (t : There cs.colours vs.values ws.values ps at i j) → kind_of t.piece ≢ kind.Kept → kind_of y ≡ kind_of t.piece
    → ds.colours ≡ cut_out cs.colours at 1 → ds.room ≡ cs.room
    → ArePut xs ys vs ws i j y
    → Cut ds xs ys room ps at y
cut_stored cs ds vs ws xs ys room ps at i j y s t changed is colours same cut =
    let x = t.piece in
    let lo : length (told_old y) ≡ length (told_old x) = count_old y ∙ (ap (told_count Old) is ∙ sym (count_old x)) in
    let ln : length (told_new y) ≡ length (told_new x) = count_new y ∙ (ap (told_count New) is ∙ sym (count_new x)) in
    let io : i ≤ length xs.values = omega (arith, t.old, ap length cut.olds, length-spliced xs.values (told_old y) i, lo, count_old x) in
    let jn : j ≤ length ys.values = omega (arith, t.new, ap length cut.news, length-spliced ys.values (told_new y) j, ln, count_new x) in
    let o = values_cut old_values told_old old_splits old_values-append vs.values xs.values (told_old y) ps at i x s.olds_are t.got t.rank_old cut.olds io lo in
    let n = values_cut new_values told_new new_splits new_values-append ws.values ys.values (told_new y) ps at j x s.news_are t.got t.rank_new cut.news jn ln in
    let one = one_whole x changed in
    record {
      piece = t.got ∙ ap Some (sym (same_piece y x is o.1 n.1));
      stored = record {
        colours_are = colours ∙ (ap (λ zs. cut_out zs at 1) s.colours_are ∙ colours_cut ps at);
        olds_are = o.0;
        news_are = n.0;
        old_room = omega (arith, s.old_room, cut.old_room);
        new_room = omega (arith, s.new_room, cut.new_room);
        run_room = omega (arith, s.run_room, same);
        within = omega (arith, changed_cut ps at x t.got, s.within);
      };
      fewer = omega (arith, changed_cut ps at x t.got, one, s.within);
    }

-- a kept piece taken out
pub kept_cut : (cs ds : Colours) (vs ws : Listed) (room : ℕ) (ps : List Piece) (at : ℕ) → IsStored cs vs ws room ps → slice_get ps at ≡ Some kept → ds.colours ≡ cut_out cs.colours at 1 → ds.room ≡ cs.room → IsStored ds vs ws room (remove ps at)
kept_cut cs ds vs ws room ps at s got colours same =
    let whole = sym (cut_at ps at kept got) in
    record {
      colours_are = colours ∙ (ap (λ zs. cut_out zs at 1) s.colours_are ∙ colours_cut ps at);
      olds_are = s.olds_are ∙ (ap old_values whole ∙ (old_splits (take at ps) (drop (suc at) ps) kept ∙ sym (old_values-append (take at ps) (drop (suc at) ps))));
      news_are = s.news_are ∙ (ap new_values whole ∙ (new_splits (take at ps) (drop (suc at) ps) kept ∙ sym (new_values-append (take at ps) (drop (suc at) ps))));
      old_room = s.old_room;
      new_room = s.new_room;
      run_room = omega (arith, s.run_room, same);
      within = omega (arith, changed_cut ps at kept got, s.within);
    }

-- kept pieces at the end
none_old : (n : ℕ) → old_values (identity n) ≡ []
none_old zero = refl
none_old (suc n) = none_old n

none_new : (n : ℕ) → new_values (identity n) ≡ []
none_new zero = refl
none_new (suc n) = none_new n

pub more_kept : (cs ds : Colours) (vs ws : Listed) (room : ℕ) (ps : List Piece) (at n : ℕ) → IsStored cs vs ws room ps → at ≡ length cs.colours → ds.colours ≡ put_in cs.colours at 0 n → cs.room ≤ ds.room → IsStored ds vs ws room (ps ++ identity n)
more_kept cs ds vs ws room ps at n s e colours more = record {
  colours_are = colours ∙ (ap (λ zs. put_in zs at 0 n) s.colours_are ∙ colours_more ps at n (e ∙ colours_len cs.colours ps s.colours_are));
  olds_are = s.olds_are ∙ (sym (append-nil (old_values ps)) ∙ (ap (λ vs. old_values ps ++ vs) (sym (none_old n)) ∙ sym (old_values-append ps (identity n))));
  news_are = s.news_are ∙ (sym (append-nil (new_values ps)) ∙ (ap (λ vs. new_values ps ++ vs) (sym (none_new n)) ∙ sym (new_values-append ps (identity n))));
  old_room = s.old_room;
  new_room = s.new_room;
  run_room = omega (arith, s.run_room, more);
  within = omega (arith, changed_len-append ps (identity n), changed_len-identity n, s.within);
}

-- colours that are as they were, with more room
pub with_room : (cs ds : Colours) (vs ws xs ys : Listed) (room more : ℕ) (ps : List Piece) → IsStored cs vs ws room ps → ds.colours ≡ cs.colours → xs.values ≡ vs.values → ys.values ≡ ws.values → room ≤ more → more ≤ xs.room → more ≤ ys.room → 2 * more ≤ ds.room - 1 → IsStored ds xs ys more ps
with_room cs ds vs ws xs ys room more ps s colours old new le eo en er = record {
  colours_are = colours ∙ s.colours_are;
  olds_are = old ∙ s.olds_are;
  news_are = new ∙ s.news_are;
  old_room = eo;
  new_room = en;
  run_room = er;
  within = omega (arith, s.within, le);
}

pub kept_stored : {T E : Type 0} (cs ds : Colours) (vs ws : Listed) (room : ℕ) (ps : List Piece) (at n : ℕ) (result : Result T E) → IsStored cs vs ws room ps → at ≡ length cs.colours → OnOk result (ds.colours ≡ put_in cs.colours at 0 n) → OnErr result (ds.colours ≡ cs.colours) → cs.room ≤ ds.room → IsStored ds vs ws room (told_by ds.colours vs.values ws.values)
kept_stored cs ds vs ws room ps at n (Ok x) s e ok err more = stored_again ds vs ws room (ps ++ identity n) (more_kept cs ds vs ws room ps at n s e ok more)
kept_stored cs ds vs ws room ps at n (Err x) s e ok err more = stored_again ds vs ws room ps (with_room cs ds vs ws vs ws room room ps s err refl refl (omega arith) s.old_room s.new_room (omega (arith, s.run_room, more)))

-- the cell of a changed piece
cell_of_updated : (y : Piece) (v w : Tree) → told_old y ≡ v ∷ [] → told_new y ≡ w ∷ [] → kind_of y ≡ kind.Updated → cells_of (y ∷ []) ≡ update v w ∷ []
cell_of_updated kept v w e f g = cc
cell_of_updated (updated x z) v w e f g = let a : x ≡ v = cc in let b : z ≡ w = cc in cc
cell_of_updated (deleted x) v w e f g = cc
cell_of_updated (inserted z) v w e f g = cc

cell_of_deleted : (y : Piece) (v : Tree) → told_old y ≡ v ∷ [] → kind_of y ≡ kind.Deleted → cells_of (y ∷ []) ≡ delete v ∷ []
cell_of_deleted kept v e g = cc
cell_of_deleted (updated x z) v e g = cc
cell_of_deleted (deleted x) v e g = let a : x ≡ v = cc in cc
cell_of_deleted (inserted z) v e g = cc

cell_of_inserted : (y : Piece) (w : Tree) → told_new y ≡ w ∷ [] → kind_of y ≡ kind.Inserted → cells_of (y ∷ []) ≡ insert_cell w ∷ []
cell_of_inserted kept w f g = cc
cell_of_inserted (updated x z) w f g = cc
cell_of_inserted (deleted x) w f g = cc
cell_of_inserted (inserted z) w f g = let b : z ≡ w = cc in cc

-- a value found at a rank is the one that the piece tells
told_is : (values : List Piece → List Tree) (told : Piece → List Tree) → ((b a : List Piece) (x : Piece) → values (b ++ x ∷ a) ≡ values b ++ (told x ++ values a)) → (vs : List Tree) (ps : List Piece) (at i : ℕ) (x : Piece) (v : Tree) → vs ≡ values ps → slice_get ps at ≡ Some x → i ≡ length (values (take at ps)) → length (told x) ≡ 1 → slice_get vs i ≡ Some v → told x ≡ v ∷ []
told_is values told split vs ps at i x v e got f one found = by_told (told x) refl
  where
    by_told : (ts : List Tree) → told x ≡ ts → told x ≡ v ∷ []
    by_told [] g = absurd (omega (arith, one, ap length g))
    by_told (t ∷ []) g =
        let here : slice_get (values ps) (length (values (take at ps))) ≡ Some t = told_at values told split ps at x t got g in
        let same : slice_get vs i ≡ Some t = ap (λ zs. slice_get zs i) e ∙ (ap (slice_get (values ps)) f ∙ here) in
        g ∙ ap (λ y. y ∷ []) (same_Some t v (sym same ∙ found))
    by_told (t ∷ u ∷ ts) g = absurd (omega (arith, one, ap length g))

same_got : (ps : List Piece) (at : ℕ) (x y : Piece) → slice_get ps at ≡ Some x → slice_get ps at ≡ Some y → x ≡ y
same_got ps at x y e f = same_Some x y (sym e ∙ f)

pub updated_cell : (cs : Colours) (vs ws : Listed) (room : ℕ) (ps : List Piece) (at i j : ℕ) (v w : Tree) → IsStored cs vs ws room ps → (t : There cs.colours vs.values ws.values ps at i j) → kind_of t.piece ≡ kind.Updated → slice_get vs.values i ≡ Some v → slice_get ws.values j ≡ Some w → (x : Piece) → slice_get ps at ≡ Some x → cells_of (x ∷ []) ≡ update v w ∷ []
updated_cell cs vs ws room ps at i j v w s t is old new x got =
    let o = told_is old_values told_old old_splits vs.values ps at i t.piece v s.olds_are t.got t.rank_old (count_old t.piece ∙ ap (told_count Old) is) old in
    let n = told_is new_values told_new new_splits ws.values ps at j t.piece w s.news_are t.got t.rank_new (count_new t.piece ∙ ap (told_count New) is) new in
    ap (λ y. cells_of (y ∷ [])) (same_got ps at x t.piece got t.got) ∙ cell_of_updated t.piece v w o n is

pub deleted_cell : (cs : Colours) (vs ws : Listed) (room : ℕ) (ps : List Piece) (at i j : ℕ) (v : Tree) → IsStored cs vs ws room ps → (t : There cs.colours vs.values ws.values ps at i j) → kind_of t.piece ≡ kind.Deleted → slice_get vs.values i ≡ Some v → (x : Piece) → slice_get ps at ≡ Some x → cells_of (x ∷ []) ≡ delete v ∷ []
deleted_cell cs vs ws room ps at i j v s t is old x got =
    let o = told_is old_values told_old old_splits vs.values ps at i t.piece v s.olds_are t.got t.rank_old (count_old t.piece ∙ ap (told_count Old) is) old in
    ap (λ y. cells_of (y ∷ [])) (same_got ps at x t.piece got t.got) ∙ cell_of_deleted t.piece v o is

pub inserted_cell : (cs : Colours) (vs ws : Listed) (room : ℕ) (ps : List Piece) (at i j : ℕ) (w : Tree) → IsStored cs vs ws room ps → (t : There cs.colours vs.values ws.values ps at i j) → kind_of t.piece ≡ kind.Inserted → slice_get ws.values j ≡ Some w → (x : Piece) → slice_get ps at ≡ Some x → cells_of (x ∷ []) ≡ insert_cell w ∷ []
inserted_cell cs vs ws room ps at i j w s t is new x got =
    let n = told_is new_values told_new new_splits ws.values ps at j t.piece w s.news_are t.got t.rank_new (count_new t.piece ∙ ap (told_count New) is) new in
    ap (λ y. cells_of (y ∷ [])) (same_got ps at x t.piece got t.got) ∙ cell_of_inserted t.piece w n is
