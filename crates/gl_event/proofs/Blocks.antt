-- The changes that are left of an event, and where they stand.
use Rattle.std.proofs.Common.{◌≡◌, ◌∙◌, ℕ, zero, suc, ◌+◌, ◌≤◌, List, [], ◌∷◌, length, drop, min, Bool, true, false, ◌&&◌, ◌==◌, if◌then◌else◌, Some, None, slice_get, refl, ap, sym, arith}
use Rattle.std.proofs.lemmas.List.{length-drop}
use Rattle.spec_lists.specs.Piece.{Piece, kept, updated, deleted, inserted, new_len}
use Rattle.spec_lists.specs.Changes.{Change, changes, changes_from, changed_len, after_changes, standing}
use Rattle.gl_event.specs.declared.block.ChangeKind.{ChangeKind}
use Rattle.gl_event.specs.Heard.{Heard, IsAt, further}
use Rattle.gl_event.specs.Blocks.{is_kind, kind_of, index_of, index_after, run, run_end}

pub new_len-standing : (ps : List Piece) (k : ℕ) → k ≤ changed_len ps → new_len ps ≡ standing k ps + new_len (after_changes k ps)
new_len-standing ps zero h = omega arith
new_len-standing [] (suc k) h = absurd (omega (arith, h))
new_len-standing (kept ∷ ps) (suc k) h = omega (arith, new_len-standing ps (suc k) h)
new_len-standing (updated v w ∷ ps) (suc k) h = omega (arith, new_len-standing ps k (omega (arith, h)))
new_len-standing (deleted v ∷ ps) (suc k) h = omega (arith, new_len-standing ps k (omega (arith, h)))
new_len-standing (inserted w ∷ ps) (suc k) h = omega (arith, new_len-standing ps k (omega (arith, h)))

at_these : (i j : ℕ) (ps : List Piece) → i ≡ j → changes_from i ps ≡ changes_from j ps
at_these i j ps e = ap (λ k. changes_from k ps) e

-- the changes after so many are those of the pieces after them
changes_after : (ps : List Piece) (k i : ℕ) → k ≤ changed_len ps → changes_from (i + standing k ps) (after_changes k ps) ≡ drop k (changes_from i ps)
changes_after ps zero i h = at_these (i + 0) i ps (omega arith)
changes_after [] (suc k) i h = absurd (omega (arith, h))
changes_after (kept ∷ ps) (suc k) i h = at_these (i + suc (standing (suc k) ps)) (suc i + standing (suc k) ps) (after_changes (suc k) ps) (omega arith) ∙ changes_after ps (suc k) (suc i) h
changes_after (updated v w ∷ ps) (suc k) i h = at_these (i + suc (standing k ps)) (suc i + standing k ps) (after_changes k ps) (omega arith) ∙ changes_after ps k (suc i) (omega (arith, h))
changes_after (deleted v ∷ ps) (suc k) i h = changes_after ps k i (omega (arith, h))
changes_after (inserted w ∷ ps) (suc k) i h = at_these (i + suc (standing k ps)) (suc i + standing k ps) (after_changes k ps) (omega arith) ∙ changes_after ps k (suc i) (omega (arith, h))

pub changes_left : (ps : List Piece) (k at : ℕ) → at ≡ standing k ps → k ≤ changed_len ps → changes_from at (after_changes k ps) ≡ drop k (changes ps)
changes_left ps k at e h = at_these at (0 + standing k ps) (after_changes k ps) (omega (arith, e)) ∙ changes_after ps k 0 h

abbrev first_index : List Change → ℕ
first_index [] = 0
first_index (c ∷ cs) = index_after c

-- the index after a change is where the changes after it begin
index_follows : (ps : List Piece) (k i : ℕ) (c : Change) (cs : List Change) → drop k (changes_from i ps) ≡ c ∷ cs → index_after c ≡ i + standing (suc k) ps
index_follows [] zero i c cs e = cc
index_follows [] (suc k) i c cs e = cc
index_follows (kept ∷ ps) k i c cs e = omega (arith, index_follows ps k (suc i) c cs e)
index_follows (updated v w ∷ ps) zero i c cs e = sym (ap first_index e) ∙ omega arith
index_follows (updated v w ∷ ps) (suc k) i c cs e = omega (arith, index_follows ps k (suc i) c cs e)
index_follows (deleted v ∷ ps) zero i c cs e = sym (ap first_index e) ∙ omega arith
index_follows (deleted v ∷ ps) (suc k) i c cs e = index_follows ps k i c cs e
index_follows (inserted w ∷ ps) zero i c cs e = sym (ap first_index e) ∙ omega arith
index_follows (inserted w ∷ ps) (suc k) i c cs e = omega (arith, index_follows ps k (suc i) c cs e)

pub index_next : (ps : List Piece) (k : ℕ) (c : Change) (cs : List Change) → drop k (changes ps) ≡ c ∷ cs → index_after c ≡ standing (suc k) ps
index_next ps k c cs e = index_follows ps k 0 c cs e ∙ omega arith

drop_more : (xs : List Change) (k : ℕ) (c : Change) (cs : List Change) → drop k xs ≡ c ∷ cs → drop (suc k) xs ≡ cs
drop_more [] zero c cs e = cc
drop_more [] (suc k) c cs e = cc
drop_more (x ∷ xs) zero c cs e = cc
drop_more (x ∷ xs) (suc k) c cs e = drop_more xs k c cs e

-- where the changes that go on end
pub end_is : (ps : List Piece) (kind : ChangeKind) (cs : List Change) (k at : ℕ) → drop k (changes ps) ≡ cs → at ≡ standing k ps → run_end kind at cs ≡ standing (k + run kind at cs) ps
end_is ps kind [] k at e f = f ∙ ap (λ i. standing i ps) (omega arith)
end_is ps kind (c ∷ cs) k at e f = by_test (is_kind (kind_of c) kind && (index_of c == at)) (end_is ps kind cs (suc k) (index_after c) (drop_more (changes ps) k c cs e) (index_next ps k c cs e))
  where
    by_test : (b : Bool) → run_end kind (index_after c) cs ≡ standing (suc k + run kind (index_after c) cs) ps → (if b then run_end kind (index_after c) cs else at) ≡ standing (k + (if b then suc (run kind (index_after c) cs) else 0)) ps
    by_test true h = h ∙ ap (λ i. standing i ps) (omega arith)
    by_test false h = f ∙ ap (λ i. standing i ps) (omega arith)

pub run_few : (kind : ChangeKind) (cs : List Change) (at : ℕ) → run kind at cs ≤ length cs
run_few kind [] at = omega arith
run_few kind (c ∷ cs) at = by_test (is_kind (kind_of c) kind && (index_of c == at)) (run_few kind cs (index_after c))
  where
    by_test : (b : Bool) → run kind (index_after c) cs ≤ length cs → (if b then suc (run kind (index_after c) cs) else 0) ≤ suc (length cs)
    by_test true h = omega (arith, h)
    by_test false h = omega arith

pub length_changes : (ps : List Piece) (i : ℕ) → length (changes_from i ps) ≡ changed_len ps
length_changes [] i = refl
length_changes (kept ∷ ps) i = length_changes ps (suc i)
length_changes (updated v w ∷ ps) i = ap suc (length_changes ps (suc i))
length_changes (deleted v ∷ ps) i = ap suc (length_changes ps i)
length_changes (inserted w ∷ ps) i = ap suc (length_changes ps (suc i))

pub get_first : (xs : List Change) (k : ℕ) (c : Change) (cs : List Change) → drop k xs ≡ c ∷ cs → Some c ≡ slice_get xs k
get_first [] zero c cs e = cc
get_first [] (suc k) c cs e = cc
get_first (x ∷ xs) zero c cs e = cc
get_first (x ∷ xs) (suc k) c cs e = get_first xs k c cs e

pub get_none : (xs : List Change) (k : ℕ) → drop k xs ≡ [] → None ≡ slice_get xs k
get_none [] zero e = refl
get_none [] (suc k) e = refl
get_none (x ∷ xs) zero e = cc
get_none (x ∷ xs) (suc k) e = get_none xs k e

-- how many changes are left
pub left_few : (ps : List Piece) (k : ℕ) (c : Change) (cs : List Change) → drop k (changes ps) ≡ c ∷ cs → k + suc (length cs) ≤ changed_len ps
left_few ps k c cs e =
    let n : length (drop k (changes ps)) ≡ suc (length cs) = ap length e in
    omega (arith, n, length-drop k (changes ps), length_changes ps 0)

-- one more change is given
pub next_at : (ps : List Piece) (k at end : ℕ) (c : Change) (cs : List Change) → drop k (changes ps) ≡ c ∷ cs → end ≡ index_after c → IsAt ps k at → IsAt ps (k + 1) end
next_at ps k at end c cs e f h =
    let n : suc k ≡ k + 1 = omega arith in
    record {
      within = omega (arith, left_few ps k c cs e);
      stands = f ∙ (index_next ps k c cs e ∙ ap (λ i. standing i ps) n);
      few = h.few;
    }

-- a block is given
pub block_at : (ps : List Piece) (k at count end : ℕ) (kind : ChangeKind) (c : Change) (cs : List Change) (start : ℕ) → drop k (changes ps) ≡ c ∷ cs → count ≡ run kind start cs → end ≡ run_end kind start cs → start ≡ index_after c → IsAt ps k at → IsAt ps (k + (count + 1)) end
block_at ps k at count end kind c cs start e f g b h =
    let on : start ≡ standing (suc k) ps = b ∙ index_next ps k c cs e in
    let n : suc k + run kind start cs ≡ k + (count + 1) = omega (arith, f) in
    record {
      within = omega (arith, left_few ps k c cs e, run_few kind cs start, f);
      stands = g ∙ (end_is ps kind cs (suc k) start (drop_more (changes ps) k c cs e) on ∙ ap (λ i. standing i ps) n);
      few = h.few;
    }

heard_from : (ps : List Piece) (i j : ℕ) → i ≡ j → let h : Heard = record { pieces = ps; given = i } in let g : Heard = record { pieces = ps; given = j } in h ≡ g
heard_from ps i j e = cc

-- what is seen of the event after its last change, and after one more
pub left_none : (ps : List Piece) (k : ℕ) (h : Heard) → drop k (changes ps) ≡ [] → (let g : Heard = record { pieces = ps; given = k } in g ≡ h) → k ≤ changed_len ps → (let g : Heard = record { pieces = ps; given = k } in g ≡ further h)
left_none ps k h e v w =
    let n : length (drop k (changes ps)) ≡ 0 = ap length e in
    let m : k ≡ min (k + 1) (changed_len ps) = omega (arith, n, length-drop k (changes ps), length_changes ps 0, w) in
    heard_from ps k _ m ∙ ap further v

pub left_more : (ps : List Piece) (k : ℕ) (h : Heard) (c : Change) (cs : List Change) → drop k (changes ps) ≡ c ∷ cs → (let g : Heard = record { pieces = ps; given = k } in g ≡ h) → (let g : Heard = record { pieces = ps; given = k + 1 } in g ≡ further h)
left_more ps k h c cs e v =
    let m : k + 1 ≡ min (k + 1) (changed_len ps) = omega (arith, left_few ps k c cs e) in
    heard_from ps (k + 1) _ m ∙ ap further v
