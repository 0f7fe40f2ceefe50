-- The next change after a cursor.
use Rattle.std.proofs.Common.{◌≡◌, ◌∙◌, ℕ, zero, suc, ◌+◌, ◌<◌, ◌≤◌, List, [], ◌∷◌, ◌++◌, length, take, drop, Some, slice_get, true, false, refl, ap, sym, subst, arith, append_assoc}
use Rattle.std.specs.List.{remove}
use Rattle.std.proofs.lemmas.List.{take-append-drop, take_at, length-append, length-take-le}
use Rattle.std.proofs.lemmas.Option.{same_Some}
use Rattle.spec_lists.specs.Piece.{Piece, kept, updated, deleted, inserted, identity, old_len}
use Rattle.spec_lists.specs.Cells.{Cell, keep, update, delete, insert, keep_first, cells_of}
use Rattle.spec_lists.specs.Changes.{changed_len, after_changes}
use Rattle.spec_lists.proofs.DeltaChanges.{old_len-append}
use Rattle.spec_lists.proofs.ChangeCounts.{changed_len-append}
use Rattle.spec_lists.proofs.Lengths.{old_len-identity}
use Rattle.gl_delta.specs.declared.mark.Changed.{Changed}
use Rattle.gl_delta.specs.declared.mark.Changed.TheVariants.{Updated, Deleted, Inserted}
use Rattle.gl_delta.specs.declared.absorb.Cursor.{Cursor}
use Rattle.gl_delta.specs.Marks.{piece_of}
use Rattle.gl_delta.specs.Pieces.{is_deleted_piece, is_inserted_piece}
use Rattle.gl_delta.specs.Absorb.{NoneDeleted, kept_prefix, EndsChanged, IsCursor}

-- the number in the first cell, if that counts kept pieces
abbrev pub keeps_first : List Cell → ℕ
keeps_first [] = 0
keeps_first (keep n ∷ cs) = n
keeps_first (update v w ∷ cs) = 0
keeps_first (delete v ∷ cs) = 0
keeps_first (insert w ∷ cs) = 0

one_more : (cs : List Cell) → keeps_first (keep_first cs) ≡ suc (keeps_first cs)
one_more [] = refl
one_more (keep n ∷ cs) = refl
one_more (update v w ∷ cs) = refl
one_more (delete v ∷ cs) = refl
one_more (insert w ∷ cs) = refl

pub keeps_are : (ps : List Piece) → keeps_first (cells_of ps) ≡ kept_prefix ps
keeps_are [] = refl
keeps_are (kept ∷ ps) = one_more (cells_of ps) ∙ ap suc (keeps_are ps)
keeps_are (updated v w ∷ ps) = refl
keeps_are (deleted v ∷ ps) = refl
keeps_are (inserted w ∷ ps) = refl

ends_rest : (b a : List Piece) (k : ℕ) → EndsChanged k b → after_changes k (b ++ a) ≡ a
ends_rest [] a zero h = refl
ends_rest [] a (suc k) h = absurd h
ends_rest (p ∷ b) a zero h = absurd h
ends_rest (kept ∷ b) a (suc k) h = ends_rest b a (suc k) h
ends_rest (updated v w ∷ b) a (suc k) h = ends_rest b a k h
ends_rest (deleted v ∷ b) a (suc k) h = ends_rest b a k h
ends_rest (inserted w ∷ b) a (suc k) h = ends_rest b a k h

ends_count : (b : List Piece) (k : ℕ) → EndsChanged k b → changed_len b ≡ k
ends_count [] zero h = refl
ends_count [] (suc k) h = absurd h
ends_count (p ∷ b) zero h = absurd h
ends_count (kept ∷ b) (suc k) h = ends_count b (suc k) h
ends_count (updated v w ∷ b) (suc k) h = ap suc (ends_count b k h)
ends_count (deleted v ∷ b) (suc k) h = ap suc (ends_count b k h)
ends_count (inserted w ∷ b) (suc k) h = ap suc (ends_count b k h)

ends_next : (n : ℕ) (x : Changed) → EndsChanged 1 (identity n ++ piece_of x ∷ [])
ends_next zero (Updated v w) = tt
ends_next zero (Deleted v) = tt
ends_next zero (Inserted w) = tt
ends_next (suc n) x = ends_next n x

ends_more : (b : List Piece) (k n : ℕ) (x : Changed) → EndsChanged k b → EndsChanged (suc k) (b ++ (identity n ++ piece_of x ∷ []))
ends_more [] zero n x h = ends_next n x
ends_more [] (suc k) n x h = absurd h
ends_more (p ∷ b) zero n x h = absurd h
ends_more (kept ∷ b) (suc k) n x h = ends_more b (suc k) n x h
ends_more (updated v w ∷ b) (suc k) n x h = ends_more b k n x h
ends_more (deleted v ∷ b) (suc k) n x h = ends_more b k n x h
ends_more (inserted w ∷ b) (suc k) n x h = ends_more b k n x h

pub prefix_change : (ps : List Piece) → 0 < changed_len ps → (x : Changed) × (a : List Piece) × (ps ≡ identity (kept_prefix ps) ++ piece_of x ∷ a)
prefix_change [] h = absurd (omega (arith, h))
prefix_change (kept ∷ ps) h = let g = prefix_change ps h in (g.0, g.1, ap (λ qs. kept ∷ qs) g.2)
prefix_change (updated v w ∷ ps) h = (Updated v w, ps, refl)
prefix_change (deleted v ∷ ps) h = (Deleted v, ps, refl)
prefix_change (inserted w ∷ ps) h = (Inserted w, ps, refl)

-- some kept pieces after a place, and then a change
pub record IsNext (ps : List Piece) (position keeps : ℕ) : Type 0 where
  pub change : Changed
  pub rest : List Piece
  pub whole : ps ≡ (take position ps ++ identity keeps) ++ piece_of change ∷ rest
  pub len : length (take position ps ++ identity keeps) ≡ position + keeps

pub length-identity : (n : ℕ) → length (identity n) ≡ n
length-identity zero = refl
length-identity (suc n) = ap suc (length-identity n)

pub is_next : (ps : List Piece) (c : Cursor) (keeps : ℕ) → IsCursor ps c → c.changes < changed_len ps → keeps ≡ kept_prefix (after_changes c.changes ps) → IsNext ps c.position keeps
is_next ps c keeps h more e =
    let prefix = take c.position ps in
    let back = drop c.position ps in
    let whole : prefix ++ back ≡ ps = take-append-drop c.position ps in
    let rest : after_changes c.changes ps ≡ back = ap (after_changes c.changes) (sym whole) ∙ ends_rest prefix back c.changes h.later in
    let n : changed_len ps ≡ changed_len prefix + changed_len back = ap changed_len (sym whole) ∙ changed_len-append prefix back in
    let some : 0 < changed_len back = omega (arith, n, ends_count prefix c.changes h.later, more) in
    let g = prefix_change back some in
    let k : keeps ≡ kept_prefix back = e ∙ ap kept_prefix rest in
    record {
      change = g.0;
      rest = g.1;
      whole = sym whole ∙ (ap (λ qs. prefix ++ qs) (g.2 ∙ ap (λ m. identity m ++ piece_of g.0 ∷ g.1) (sym k)) ∙ sym (append_assoc prefix (identity keeps) (piece_of g.0 ∷ g.1)));
      len = length-append prefix (identity keeps) ∙ omega (arith, length-take-le c.position ps h.within, length-identity keeps);
    }

pub get_there : (b a : List Piece) (i : ℕ) (x : Piece) → length b ≡ i → slice_get (b ++ x ∷ a) i ≡ Some x
get_there [] a zero x e = refl
get_there [] a (suc i) x e = absurd (omega (arith, e))
get_there (p ∷ b) a zero x e = absurd (omega (arith, e))
get_there (p ∷ b) a (suc i) x e = get_there b a i x (omega (arith, e))

pub next_get : (ps : List Piece) (position keeps : ℕ) → (h : IsNext ps position keeps) → slice_get ps (position + keeps) ≡ Some (piece_of h.change)
next_get ps position keeps h = ap (λ qs. slice_get qs (position + keeps)) h.whole ∙ get_there (take position ps ++ identity keeps) h.rest (position + keeps) (piece_of h.change) h.len

pub keeps_from : (ps : List Piece) (cs rest : List Cell) (cell : Cell) → cs ≡ cells_of ps → cs ≡ cell ∷ rest → keeps_first (cell ∷ rest) ≡ kept_prefix ps
keeps_from ps cs rest cell e f = sym (ap keeps_first f) ∙ (ap keeps_first e ∙ keeps_are ps)

pub keeps_none : (ps : List Piece) (cs : List Cell) → cs ≡ cells_of ps → cs ≡ [] → 0 ≡ kept_prefix ps
keeps_none ps cs e f = sym (ap keeps_first f) ∙ (ap keeps_first e ∙ keeps_are ps)

pub remove_there : (b a : List Piece) (i : ℕ) (x : Piece) → length b ≡ i → remove (b ++ x ∷ a) i ≡ b ++ a
remove_there [] a zero x e = refl
remove_there [] a (suc i) x e = absurd (omega (arith, e))
remove_there (p ∷ b) a zero x e = absurd (omega (arith, e))
remove_there (p ∷ b) a (suc i) x e = ap (λ qs. p ∷ qs) (remove_there b a i x (omega (arith, e)))

pub next_within : (ps : List Piece) (position keeps : ℕ) → IsNext ps position keeps → position + keeps < length ps
next_within ps position keeps h =
    let n : length ps ≡ length (take position ps ++ identity keeps) + length (piece_of h.change ∷ h.rest) = ap length h.whole ∙ length-append (take position ps ++ identity keeps) (piece_of h.change ∷ h.rest) in
    omega (arith, n, h.len)

-- the old elements before the next change
pub next_olds : (ps : List Piece) (c : Cursor) (keeps : ℕ) → IsCursor ps c → IsNext ps c.position keeps → c.at + keeps ≡ old_len (take c.position ps ++ identity keeps)
next_olds ps c keeps k h = omega (arith, old_len-append (take c.position ps) (identity keeps), old_len-identity keeps, k.olds)

old_len_within : (ps : List Piece) → old_len ps ≤ length ps
old_len_within [] = omega arith
old_len_within (kept ∷ ps) = omega (arith, old_len_within ps)
old_len_within (updated v w ∷ ps) = omega (arith, old_len_within ps)
old_len_within (deleted v ∷ ps) = omega (arith, old_len_within ps)
old_len_within (inserted w ∷ ps) = omega (arith, old_len_within ps)

pub olds_within : (ps : List Piece) (c : Cursor) (keeps : ℕ) → IsCursor ps c → IsNext ps c.position keeps → c.at + keeps < length ps
olds_within ps c keeps k h =
    omega (arith, next_olds ps c keeps k h, old_len_within (take c.position ps ++ identity keeps), h.len, next_within ps c.position keeps h)

-- the next change by the one that was found there
pub next_whole : (ps : List Piece) (position keeps : ℕ) (y : Changed) → (h : IsNext ps position keeps) → slice_get ps (position + keeps) ≡ Some (piece_of y) → ps ≡ (take position ps ++ identity keeps) ++ piece_of y ∷ h.rest
next_whole ps position keeps y h e =
    let same : piece_of h.change ≡ piece_of y = same_Some _ _ (sym (next_get ps position keeps h) ∙ e) in
    h.whole ∙ ap (λ x. (take position ps ++ identity keeps) ++ x ∷ h.rest) same

pub next_removed : (ps : List Piece) (position keeps : ℕ) → (h : IsNext ps position keeps) → remove ps (position + keeps) ≡ (take position ps ++ identity keeps) ++ h.rest
next_removed ps position keeps h =
    ap (λ qs. remove qs (position + keeps)) h.whole ∙ remove_there (take position ps ++ identity keeps) h.rest (position + keeps) (piece_of h.change) h.len

none_append : (b a : List Piece) → NoneDeleted b → NoneDeleted a → NoneDeleted (b ++ a)
none_append [] a h k = k
none_append (kept ∷ b) a h k = none_append b a h k
none_append (updated v w ∷ b) a h k = none_append b a h k
none_append (deleted v ∷ b) a h k = absurd h
none_append (inserted w ∷ b) a h k = none_append b a h k

none_next : (n : ℕ) (x : Changed) → is_deleted_piece (Some (piece_of x)) ≡ false → NoneDeleted (identity n ++ piece_of x ∷ [])
none_next zero (Updated v w) e = tt
none_next zero (Deleted v) e = cc
none_next zero (Inserted w) e = tt
none_next (suc n) x e = none_next n x e

-- the cursor moves after the next change, which is no deletion
pub moved_on : (ps : List Piece) (c : Cursor) (keeps at : ℕ) → IsCursor ps c → (h : IsNext ps c.position keeps) → is_deleted_piece (slice_get ps (c.position + keeps)) ≡ false → at ≡ c.at + keeps + old_len (piece_of h.change ∷ []) → IsCursor ps (record { changes = c.changes + 1; position = c.position + keeps + 1; at = at })
moved_on ps c keeps at k h d o =
    let prefix = take c.position ps in
    let more = identity keeps ++ piece_of h.change ∷ [] in
    let parts : (prefix ++ identity keeps) ++ piece_of h.change ∷ h.rest ≡ (prefix ++ more) ++ h.rest =
    append_assoc prefix (identity keeps) (piece_of h.change ∷ h.rest) ∙ (ap (λ qs. prefix ++ qs) (sym (append_assoc (identity keeps) (piece_of h.change ∷ []) h.rest)) ∙ sym (append_assoc prefix more h.rest)) in
    let n : length (prefix ++ more) ≡ c.position + keeps + 1 = ap length (sym (append_assoc prefix (identity keeps) (piece_of h.change ∷ []))) ∙ (length-append (prefix ++ identity keeps) (piece_of h.change ∷ []) ∙ omega (arith, h.len)) in
    let cut : take (c.position + keeps + 1) ps ≡ prefix ++ more = ap (take (c.position + keeps + 1)) (h.whole ∙ parts) ∙ take_at (prefix ++ more) h.rest (c.position + keeps + 1) n in
    let E : List Piece → Type 0 = EndsChanged (c.changes + 1) in
    let N : List Piece → Type 0 = NoneDeleted in
    let F : ℕ → Type 0 = λ i. EndsChanged i (prefix ++ more) in
    let one : suc c.changes ≡ c.changes + 1 = omega arith in
    let test : is_deleted_piece (Some (piece_of h.change)) ≡ false = ap is_deleted_piece (sym (next_get ps c.position keeps h)) ∙ d in
    let there = next_within ps c.position keeps h in
    record {
      within = omega (arith, there);
      later = subst E (sym cut) (subst F one (ends_more prefix c.changes keeps h.change k.later));
      olds = omega (arith, ap old_len cut, old_len-append prefix more, old_len-append (identity keeps) (piece_of h.change ∷ []), old_len-identity keeps, k.olds, o);
      none_deleted = subst N (sym cut) (none_append prefix more k.none_deleted (none_next keeps h.change test));
    }

-- after the last change there is no deletion
kept_none : (ps : List Piece) → changed_len ps ≡ 0 → NoneDeleted ps
kept_none [] e = tt
kept_none (kept ∷ ps) e = kept_none ps e
kept_none (updated v w ∷ ps) e = absurd (omega (arith, e))
kept_none (deleted v ∷ ps) e = absurd (omega (arith, e))
kept_none (inserted w ∷ ps) e = absurd (omega (arith, e))

pub passed_all : (ps : List Piece) (c : Cursor) → IsCursor ps c → changed_len ps ≤ c.changes → NoneDeleted ps
passed_all ps c k h =
    let prefix = take c.position ps in
    let back = drop c.position ps in
    let whole : prefix ++ back ≡ ps = take-append-drop c.position ps in
    let n : changed_len ps ≡ changed_len prefix + changed_len back = ap changed_len (sym whole) ∙ changed_len-append prefix back in
    let none : changed_len back ≡ 0 = omega (arith, n, ends_count prefix c.changes k.later, h) in
    let N : List Piece → Type 0 = NoneDeleted in
    subst N whole (none_append prefix back k.none_deleted (kept_none back none))

pub no_cursor : (ps : List Piece) → IsCursor ps (record { changes = 0; position = 0; at = 0 })
no_cursor ps = record { within = omega arith; later = tt; olds = refl; none_deleted = tt }

-- an insertion is no element of the old list, another piece that isn't deleted is one
pub olds_inserted : (x : Changed) (n : ℕ) → is_inserted_piece (Some (piece_of x)) ≡ true → n ≡ n + old_len (piece_of x ∷ [])
olds_inserted (Updated v w) n e = cc
olds_inserted (Deleted v) n e = cc
olds_inserted (Inserted w) n e = omega arith

pub olds_other : (x : Changed) (n : ℕ) → is_inserted_piece (Some (piece_of x)) ≡ false → n + 1 ≡ n + old_len (piece_of x ∷ [])
olds_other (Updated v w) n e = omega arith
olds_other (Deleted v) n e = omega arith
olds_other (Inserted w) n e = cc

-- a cursor stays where it is when something after it is taken out
pub stayed : (ps qs : List Piece) (c : Cursor) (keeps : ℕ) → IsCursor ps c → (h : IsNext ps c.position keeps) → qs ≡ remove ps (c.position + keeps) → IsCursor qs c
stayed ps qs c keeps k h e =
    let prefix = take c.position ps in
    let n : length prefix ≡ c.position = length-take-le c.position ps k.within in
    let is : qs ≡ prefix ++ (identity keeps ++ h.rest) = e ∙ (next_removed ps c.position keeps h ∙ append_assoc prefix (identity keeps) h.rest) in
    let cut : take c.position qs ≡ prefix = ap (take c.position) is ∙ take_at prefix (identity keeps ++ h.rest) c.position n in
    let m : length qs ≡ length prefix + length (identity keeps ++ h.rest) = ap length is ∙ length-append prefix (identity keeps ++ h.rest) in
    let E : List Piece → Type 0 = EndsChanged c.changes in
    let N : List Piece → Type 0 = NoneDeleted in
    record {
      within = omega (arith, m, n);
      later = subst E (sym cut) k.later;
      olds = k.olds ∙ ap old_len (sym cut);
      none_deleted = subst N (sym cut) k.none_deleted;
    }
