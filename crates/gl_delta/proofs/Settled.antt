-- Deletions brought before the insertions before them.
use Rattle.std.proofs.Common.{◌≡◌, ◌∙◌, ℕ, zero, suc, ◌+◌, ◌-◌, ◌<◌, ◌≤◌, List, [], ◌∷◌, ◌++◌, length, take, drop, slice_get, false, refl, ap, sym, subst, arith, append_assoc}
use Rattle.std.proofs.lemmas.List.{take-append-drop, take_all, append-nil, length-drop, length-take-le, drop-drop}
use Rattle.spec_value.specs.Tree.{Tree}
use Rattle.spec_lists.specs.Piece.{Piece, kept, updated, deleted, inserted, old_len, new_len, normal, IsNormal, BeginsUndeleted}
use Rattle.spec_lists.proofs.Normal.{normal_is}
use Rattle.gl_delta.specs.declared.mark.Side.TheVariants.{Old, New}
use Rattle.gl_delta.specs.Marks.{BeginsOn, IsSelected}
use Rattle.gl_delta.specs.Pieces.{AllInserted, AllDeleted, EndsUninserted, is_inserted_piece, brought_forward, AreAfter, IsPushed}
use Rattle.gl_delta.proofs.Forms.{normal_take, normal_pass, normal_same, normal_ins, normal_back, normal_closed, ends_at}

-- Where the insertions begin that end at a place: after the last old element before it.

-- pieces of which none is an element of the old list
all_inserted : (ps : List Piece) → old_len ps ≡ 0 → AllInserted ps
all_inserted [] e = tt
all_inserted (kept ∷ ps) e = absurd (omega (arith, e))
all_inserted (updated v w ∷ ps) e = absurd (omega (arith, e))
all_inserted (deleted v ∷ ps) e = absurd (omega (arith, e))
all_inserted (inserted w ∷ ps) e = all_inserted ps e

as_many : (ps : List Piece) (k end : ℕ) → end ≡ k → old_len (take end ps) ≡ 0 → AllInserted (take k ps)
as_many ps k end h e = let P : ℕ → Type 0 = λ n. AllInserted (take n ps) in subst P h (all_inserted (take end ps) e)

last_old : (ps : List Piece) (last k end : ℕ) → end ≡ suc last + k → BeginsOn Old (drop last ps) → suc (old_len (take last ps)) ≡ old_len (take end ps) → AllInserted (take k (drop (suc last) ps))
last_old ps last k zero h on e = absurd (omega (arith, h))
last_old [] last k (suc end) h on e = absurd (omega (arith, e))
last_old (kept ∷ ps) zero k (suc end) h on e = as_many ps k end (omega (arith, h)) (omega (arith, e))
last_old (updated v w ∷ ps) zero k (suc end) h on e = as_many ps k end (omega (arith, h)) (omega (arith, e))
last_old (deleted v ∷ ps) zero k (suc end) h on e = as_many ps k end (omega (arith, h)) (omega (arith, e))
last_old (inserted w ∷ ps) zero k (suc end) h on e = absurd on
last_old (kept ∷ ps) (suc last) k (suc end) h on e = last_old ps last k end (omega (arith, h)) on (omega (arith, e))
last_old (updated v w ∷ ps) (suc last) k (suc end) h on e = last_old ps last k end (omega (arith, h)) on (omega (arith, e))
last_old (deleted v ∷ ps) (suc last) k (suc end) h on e = last_old ps last k end (omega (arith, h)) on (omega (arith, e))
last_old (inserted w ∷ ps) (suc last) k (suc end) h on e = last_old ps last k end (omega (arith, h)) on e

last_before : (ps : List Piece) (last end : ℕ) → suc (old_len (take last ps)) ≡ old_len (take end ps) → last < end
last_before ps last zero e = absurd (omega (arith, e))
last_before [] last (suc end) e = absurd (omega (arith, e))
last_before (p ∷ ps) zero (suc end) e = omega arith
last_before (kept ∷ ps) (suc last) (suc end) e = omega (arith, last_before ps last end (omega (arith, e)))
last_before (updated v w ∷ ps) (suc last) (suc end) e = omega (arith, last_before ps last end (omega (arith, e)))
last_before (deleted v ∷ ps) (suc last) (suc end) e = omega (arith, last_before ps last end (omega (arith, e)))
last_before (inserted w ∷ ps) (suc last) (suc end) e = omega (arith, last_before ps last end e)

old_there : (ps : List Piece) (at : ℕ) → BeginsOn Old (drop at ps) → is_inserted_piece (slice_get ps at) ≡ false
old_there [] at on = refl
old_there (kept ∷ ps) zero on = refl
old_there (updated v w ∷ ps) zero on = refl
old_there (deleted v ∷ ps) zero on = refl
old_there (inserted w ∷ ps) zero on = absurd on
old_there (p ∷ ps) (suc at) on = old_there ps at on

pub old_len-take : (ps : List Piece) (end : ℕ) → old_len (take end ps) ≤ old_len ps
old_len-take ps zero = omega arith
old_len-take [] (suc end) = omega arith
old_len-take (kept ∷ ps) (suc end) = omega (arith, old_len-take ps end)
old_len-take (updated v w ∷ ps) (suc end) = omega (arith, old_len-take ps end)
old_len-take (deleted v ∷ ps) (suc end) = omega (arith, old_len-take ps end)
old_len-take (inserted w ∷ ps) (suc end) = omega (arith, old_len-take ps end)

-- the insertions from one place up to another, which a deletion may follow where they begin
pub record IsRun (ps : List Piece) (start end : ℕ) : Type 0 where
  pub within : start ≤ end
  pub run : AllInserted (take (end - start) (drop start ps))
  pub before : EndsUninserted (take start ps)

pub run_from_start : (ps : List Piece) (end : ℕ) → old_len (take end ps) ≡ 0 → IsRun ps 0 end
run_from_start ps end e =
    let n : end ≡ end - 0 = omega arith in
    let P : ℕ → Type 0 = λ k. AllInserted (take k ps) in
    record { within = omega arith; run = subst P n (all_inserted (take end ps) e); before = λ v. tt }

pub run_after : (ps : List Piece) (last olds end : ℕ) → end ≤ length ps → IsNormal (take end ps) → 0 < olds → olds ≡ old_len (take end ps) → IsSelected Old ps (olds - 1) last → IsRun ps (suc last) end
run_after ps last olds end within prefix some e s =
    let counts : suc (old_len (take last ps)) ≡ old_len (take end ps) = omega (arith, e, s.before, some) in
    let less : last < end = last_before ps last end counts in
    let whole : end ≡ suc last + (end - suc last) = omega (arith, less) in
    record {
      within = omega (arith, less);
      run = last_old ps last (end - suc last) end whole s.here counts;
      before = ends_at ps last (omega (arith, less, within)) (normal_take ps (suc last) end (omega (arith, less)) prefix) (old_there ps last s.here);
    }

-- Where the deletions end that begin at a place: at the next new element.

all_deleted : (ps : List Piece) → new_len ps ≡ 0 → AllDeleted ps
all_deleted [] e = tt
all_deleted (kept ∷ ps) e = absurd (omega (arith, e))
all_deleted (updated v w ∷ ps) e = absurd (omega (arith, e))
all_deleted (deleted v ∷ ps) e = all_deleted ps e
all_deleted (inserted w ∷ ps) e = absurd (omega (arith, e))

next_new : (ps : List Piece) (at k end : ℕ) → end ≡ at + k → new_len (take end ps) ≡ new_len (take at ps) → AllDeleted (take k (drop at ps))
next_new ps zero k end h e =
    let n : end ≡ k = omega (arith, h) in
    let P : ℕ → Type 0 = λ j. AllDeleted (take j ps) in
    subst P n (all_deleted (take end ps) e)
next_new ps (suc at) k zero h e = absurd (omega (arith, h))
next_new [] (suc at) zero (suc end) h e = tt
next_new [] (suc at) (suc k) (suc end) h e = tt
next_new (kept ∷ ps) (suc at) k (suc end) h e = next_new ps at k end (omega (arith, h)) (omega (arith, e))
next_new (updated v w ∷ ps) (suc at) k (suc end) h e = next_new ps at k end (omega (arith, h)) (omega (arith, e))
next_new (deleted v ∷ ps) (suc at) k (suc end) h e = next_new ps at k end (omega (arith, h)) e
next_new (inserted w ∷ ps) (suc at) k (suc end) h e = next_new ps at k end (omega (arith, h)) (omega (arith, e))

pub new_len-take : (ps : List Piece) (end : ℕ) → new_len (take end ps) ≤ new_len ps
new_len-take ps zero = omega arith
new_len-take [] (suc end) = omega arith
new_len-take (kept ∷ ps) (suc end) = omega (arith, new_len-take ps end)
new_len-take (updated v w ∷ ps) (suc end) = omega (arith, new_len-take ps end)
new_len-take (deleted v ∷ ps) (suc end) = omega (arith, new_len-take ps end)
new_len-take (inserted w ∷ ps) (suc end) = omega (arith, new_len-take ps end)

-- the next new element, selected by how many stand before a place
pub next_is : (ps : List Piece) (at k end : ℕ) → k ≡ new_len (take at ps) → IsSelected New ps k end → IsSelected New ps (new_len (take at ps)) end
next_is ps at k end e s = let P : ℕ → Type 0 = λ n. IsSelected New ps n end in subst P e s

next_after : (ps : List Piece) (at end : ℕ) → at ≤ length ps → new_len (take end ps) ≡ new_len (take at ps) → BeginsOn New (drop end ps) → at ≤ end
next_after ps zero end h e on = omega arith
next_after [] (suc at) end h e on = absurd (omega (arith, h))
next_after (kept ∷ ps) (suc at) zero h e on = absurd (omega (arith, e))
next_after (updated v w ∷ ps) (suc at) zero h e on = absurd (omega (arith, e))
next_after (deleted v ∷ ps) (suc at) zero h e on = absurd on
next_after (inserted w ∷ ps) (suc at) zero h e on = absurd (omega (arith, e))
next_after (kept ∷ ps) (suc at) (suc end) h e on = omega (arith, next_after ps at end (omega (arith, h)) (omega (arith, e)) on)
next_after (updated v w ∷ ps) (suc at) (suc end) h e on = omega (arith, next_after ps at end (omega (arith, h)) (omega (arith, e)) on)
next_after (deleted v ∷ ps) (suc at) (suc end) h e on = omega (arith, next_after ps at end (omega (arith, h)) e on)
next_after (inserted w ∷ ps) (suc at) (suc end) h e on = omega (arith, next_after ps at end (omega (arith, h)) (omega (arith, e)) on)

new_there : (ps : List Piece) → BeginsOn New ps → BeginsUndeleted ps
new_there [] on = tt
new_there (kept ∷ ps) on = tt
new_there (updated v w ∷ ps) on = tt
new_there (deleted v ∷ ps) on = absurd on
new_there (inserted w ∷ ps) on = tt

-- a list cut at a place after another
cut_after : (ps : List Piece) (to from : ℕ) → to ≤ from → drop to ps ≡ take (from - to) (drop to ps) ++ drop from ps
cut_after ps to from h =
    let n : to + (from - to) ≡ from = omega (arith, h) in
    sym (take-append-drop (from - to) (drop to ps)) ∙ ap (λ qs. take (from - to) (drop to ps) ++ qs) (drop-drop (from - to) to ps ∙ ap (λ i. drop i ps) n)

-- what stands after the run of insertions, and the new element after it
pub after_run : (ps : List Piece) (to at end : ℕ) → at ≤ length ps → IsRun ps to at → IsSelected New ps (new_len (take at ps)) end → AreAfter ps to at end
after_run ps to at end inside r s =
    let within : at ≤ end = next_after ps at end inside s.before s.here in
    let whole : end ≡ at + (end - at) = omega (arith, within) in
    record {
      prefix = take to ps;
      insertions = take (at - to) (drop to ps);
      deletions = take (end - at) (drop at ps);
      rest = drop end ps;
      is = sym (take-append-drop to ps) ∙ ap (λ qs. take to ps ++ qs) (cut_after ps to at r.within ∙ ap (λ qs. take (at - to) (drop to ps) ++ qs) (cut_after ps at end within));
      to_is = sym (length-take-le to ps (omega (arith, r.within, inside)));
      from_is = omega (arith, r.within, length-take-le (at - to) (drop to ps) (omega (arith, length-drop to ps, inside)));
      end_is = omega (arith, within, length-take-le (end - at) (drop at ps) (omega (arith, length-drop at ps, s.within)));
      are_inserted = r.run;
      are_deleted = next_new ps at (end - at) end whole s.before;
    }

-- Deletions after insertions, brought forward: the normal form is the same.

normal_passes : (ins dels a : List Piece) → AllInserted ins → AllDeleted dels → normal (ins ++ (dels ++ a)) ≡ normal (dels ++ (ins ++ a))
normal_passes ins [] a i d = refl
normal_passes ins (kept ∷ dels) a i d = absurd d
normal_passes ins (updated v w ∷ dels) a i d = absurd d
normal_passes ins (deleted v ∷ dels) a i d = normal_pass ins (dels ++ a) v i ∙ ap (λ qs. deleted v ∷ qs) (normal_passes ins dels a i d)
normal_passes ins (inserted w ∷ dels) a i d = absurd d

normal_deletions : (dels a : List Piece) → AllDeleted dels → IsNormal a → IsNormal (dels ++ a)
normal_deletions [] a d n = n
normal_deletions (kept ∷ dels) a d n = absurd d
normal_deletions (updated v w ∷ dels) a d n = absurd d
normal_deletions (deleted v ∷ dels) a d n = normal_deletions dels a d n
normal_deletions (inserted w ∷ dels) a d n = absurd d

normal_undeletions : (dels a : List Piece) → AllDeleted dels → IsNormal (dels ++ a) → IsNormal a
normal_undeletions [] a d n = n
normal_undeletions (kept ∷ dels) a d n = absurd d
normal_undeletions (updated v w ∷ dels) a d n = absurd d
normal_undeletions (deleted v ∷ dels) a d n = normal_undeletions dels a d n
normal_undeletions (inserted w ∷ dels) a d n = absurd d

forward_is : (ps b ins dels a : List Piece) → ps ≡ b ++ (ins ++ (dels ++ a)) → AllInserted ins → AllDeleted dels → EndsUninserted b → IsNormal (dels ++ a) → BeginsUndeleted a → b ++ (dels ++ (ins ++ a)) ≡ normal ps
forward_is ps b ins dels a is i d e n u =
    let form : IsNormal (b ++ (dels ++ (ins ++ a))) = normal_closed b _ e (normal_deletions dels (ins ++ a) d (normal_ins ins a i u (normal_undeletions dels a d n)).1) in
    sym (normal_is _ form) ∙ (normal_same b _ _ (sym (normal_passes ins dels a i d)) ∙ ap normal (sym is))

pub settled : (ps : List Piece) (to at end : ℕ) (inside : at ≤ length ps) (r : IsRun ps to at) (s : IsSelected New ps (new_len (take at ps)) end) → IsNormal (drop at ps) → brought_forward (after_run ps to at end inside r s) ≡ normal ps
unfolding after_run
settled ps to at end inside r s back =
    let b = after_run ps to at end inside r s in
    let N : List Piece → Type 0 = IsNormal in
    let within : at ≤ end = next_after ps at end inside s.before s.here in
    forward_is ps b.prefix b.insertions b.deletions b.rest b.is b.are_inserted b.are_deleted r.before (subst N (cut_after ps at end within) back) (new_there (drop end ps) s.here)

-- a deletion put in where the insertions at the right end begin
pub deleted_before_run : (ps : List Piece) (to : ℕ) (v : Tree) → IsNormal ps → IsRun ps to (length ps) → IsPushed ps (deleted v) (take to ps ++ deleted v ∷ drop to ps)
deleted_before_run ps to v n r =
    let N : List Piece → Type 0 = IsNormal in
    let A : List Piece → Type 0 = AllInserted in
    let back : IsNormal (drop to ps) = normal_back (take to ps) (drop to ps) (subst N (sym (take-append-drop to ps)) n) in
    let form : IsNormal (take to ps ++ deleted v ∷ drop to ps) = normal_closed (take to ps) (deleted v ∷ drop to ps) r.before back in
    let ins : AllInserted (drop to ps) = subst A (take_all (length ps - to) (drop to ps) (omega (arith, length-drop to ps))) r.run in
    let whole : normal (take to ps ++ (drop to ps ++ deleted v ∷ [])) ≡ normal (ps ++ deleted v ∷ []) =
    ap normal (sym (append_assoc (take to ps) (drop to ps) (deleted v ∷ [])) ∙ ap (λ qs. qs ++ deleted v ∷ []) (take-append-drop to ps)) in
    let passed : normal (take to ps ++ (deleted v ∷ drop to ps)) ≡ normal (take to ps ++ (drop to ps ++ deleted v ∷ [])) =
    ap (λ qs. normal (take to ps ++ (deleted v ∷ qs))) (sym (append-nil (drop to ps))) ∙ normal_same (take to ps) _ _ (sym (normal_pass (drop to ps) [] v ins)) in
    record { value = sym (normal_is _ form) ∙ (passed ∙ whole); normal = form }

-- all is in normal form where the front part may be followed by a deletion
pub settled_already : (ps : List Piece) (to at : ℕ) → to ≡ at → EndsUninserted (take to ps) → IsNormal (drop at ps) → ps ≡ normal ps
settled_already ps to at e h n =
    let E : ℕ → Type 0 = λ k. EndsUninserted (take k ps) in
    let N : List Piece → Type 0 = IsNormal in
    let form : IsNormal ps = subst N (take-append-drop at ps) (normal_closed (take at ps) (drop at ps) (subst E e h) n) in
    sym (normal_is ps form)
