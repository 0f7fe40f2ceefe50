-- What the cells of a delta tell and make.
use Rattle.std.proofs.Common.{◌≡◌, ◌∙◌, ℕ, suc, ◌+◌, List, [], ◌∷◌, ◌++◌, drop, refl, ap, sym, arith}
use Rattle.spec_value.specs.Tree.{Tree}
use Rattle.spec_lists.specs.Piece.{Piece, kept, updated, deleted, inserted, old_len, new_len}
use Rattle.spec_lists.specs.Leads.{LeadsFrom, applied}
use Rattle.spec_lists.specs.Cells.{Cell, keep, update, delete, insert, keep_first, cells_of}
use Rattle.std.proofs.Common.{append_assoc}
use Rattle.std.proofs.lemmas.List.{drop-drop}
use Rattle.spec_lists.proofs.Replay.{replay_gives_new_list}
use Rattle.spec_lists.specs.Changes.{Change, changes_from, changes, replay, insertion, update as update_at}
use Rattle.gl_event.specs.Changes.{changes_in, new_count}
use Rattle.gl_event.specs.Replay.{applied_cells, old_count}

changes_first : (at : ℕ) (cs : List Cell) → changes_in at (keep_first cs) ≡ changes_in (suc at) cs
changes_first at [] = refl
changes_first at (keep n ∷ cs) = let e : at + suc n ≡ suc at + n = omega arith in ap (λ k. changes_in k cs) e
changes_first at (update v w ∷ cs) = let e : at + 1 ≡ suc at = omega arith in ap (λ k. changes_in k (update v w ∷ cs)) e
changes_first at (delete v ∷ cs) = let e : at + 1 ≡ suc at = omega arith in ap (λ k. changes_in k (delete v ∷ cs)) e
changes_first at (insert w ∷ cs) = let e : at + 1 ≡ suc at = omega arith in ap (λ k. changes_in k (insert w ∷ cs)) e

-- the changes of cells are those of the pieces
pub changes_cells : (ps : List Piece) (at : ℕ) → changes_in at (cells_of ps) ≡ changes_from at ps
changes_cells [] at = refl
changes_cells (kept ∷ ps) at = changes_first at (cells_of ps) ∙ changes_cells ps (suc at)
changes_cells (updated v w ∷ ps) at = let e : at + 1 ≡ suc at = omega arith in ap (λ k. update_at at v w ∷ changes_in k (cells_of ps)) e ∙ told _ _ _ (changes_cells ps (suc at))
  where
    told : (c : Change) (cs ds : List Change) → cs ≡ ds → c ∷ cs ≡ c ∷ ds
    told c cs ds f = ap (λ es. c ∷ es) f
changes_cells (deleted v ∷ ps) at = told _ _ _ (changes_cells ps at)
  where
    told : (c : Change) (cs ds : List Change) → cs ≡ ds → c ∷ cs ≡ c ∷ ds
    told c cs ds f = ap (λ es. c ∷ es) f
changes_cells (inserted w ∷ ps) at = let e : at + 1 ≡ suc at = omega arith in ap (λ k. insertion at w ∷ changes_in k (cells_of ps)) e ∙ told _ _ _ (changes_cells ps (suc at))
  where
    told : (c : Change) (cs ds : List Change) → cs ≡ ds → c ∷ cs ≡ c ∷ ds
    told c cs ds f = ap (λ es. c ∷ es) f

old_first : (cs : List Cell) → old_count (keep_first cs) ≡ suc (old_count cs)
old_first [] = refl
old_first (keep n ∷ cs) = omega arith
old_first (update v w ∷ cs) = omega arith
old_first (delete v ∷ cs) = omega arith
old_first (insert w ∷ cs) = omega arith

pub old_count-cells : (ps : List Piece) → old_count (cells_of ps) ≡ old_len ps
old_count-cells [] = refl
old_count-cells (kept ∷ ps) = old_first (cells_of ps) ∙ ap suc (old_count-cells ps)
old_count-cells (updated v w ∷ ps) = omega (arith, old_count-cells ps)
old_count-cells (deleted v ∷ ps) = omega (arith, old_count-cells ps)
old_count-cells (inserted w ∷ ps) = old_count-cells ps

applied_first : (x : Tree) (xs : List Tree) (cs : List Cell) → applied_cells (keep_first cs) (x ∷ xs) ≡ x ∷ applied_cells cs xs
applied_first x xs [] = refl
applied_first x xs (keep n ∷ cs) = refl
applied_first x xs (update v w ∷ cs) = refl
applied_first x xs (delete v ∷ cs) = refl
applied_first x xs (insert w ∷ cs) = refl

-- cells make of a list what the delta makes of it
pub applied_is : (ps : List Piece) (xs : List Tree) → LeadsFrom ps xs → applied_cells (cells_of ps) xs ≡ applied ps xs
applied_is [] xs h = refl
applied_is (kept ∷ ps) [] h = absurd h
applied_is (kept ∷ ps) (x ∷ xs) h = applied_first x xs (cells_of ps) ∙ ap (λ ys. x ∷ ys) (applied_is ps xs h)
applied_is (updated v w ∷ ps) [] h = absurd h
applied_is (updated v w ∷ ps) (x ∷ xs) h = ap (λ ys. w ∷ ys) (applied_is ps xs h.1)
applied_is (deleted v ∷ ps) [] h = absurd h
applied_is (deleted v ∷ ps) (x ∷ xs) h = applied_is ps xs h.1
applied_is (inserted w ∷ ps) xs h = ap (λ ys. w ∷ ys) (applied_is ps xs h)

drop_one : (xs : List Tree) (from : ℕ) → drop 1 (drop from xs) ≡ drop (from + 1) xs
drop_one xs from = drop-drop 1 from xs

-- one more cell is done: an updated or a deleted element
pub updated_more : (made more xs whole : List Tree) (from : ℕ) (cs rest : List Cell) (v w : Tree) → made ++ applied_cells cs (drop from xs) ≡ whole → cs ≡ update v w ∷ rest → more ≡ made ++ w ∷ [] → more ++ applied_cells rest (drop (from + 1) xs) ≡ whole
updated_more made more xs whole from cs rest v w e f g =
    ap (λ ys. ys ++ applied_cells rest (drop (from + 1) xs)) g
    ∙ (append_assoc made (w ∷ []) (applied_cells rest (drop (from + 1) xs))
    ∙ (ap (λ ys. made ++ w ∷ applied_cells rest ys) (sym (drop_one xs from)) ∙ (ap (λ ds. made ++ applied_cells ds (drop from xs)) (sym f) ∙ e)))

pub deleted_more : (made xs whole : List Tree) (from : ℕ) (cs rest : List Cell) (v : Tree) → made ++ applied_cells cs (drop from xs) ≡ whole → cs ≡ delete v ∷ rest → made ++ applied_cells rest (drop (from + 1) xs) ≡ whole
deleted_more made xs whole from cs rest v e f =
    ap (λ ys. made ++ applied_cells rest ys) (sym (drop_one xs from)) ∙ (ap (λ ds. made ++ applied_cells ds (drop from xs)) (sym f) ∙ e)

-- replay is what the delta makes of the list
pub replay_is : (ps : List Piece) (xs : List Tree) → LeadsFrom ps xs → applied_cells (cells_of ps) xs ≡ replay (changes ps) xs
replay_is ps xs h = applied_is ps xs h ∙ sym (replay_gives_new_list ps xs (applied ps xs) (record { starts = h; ends = refl }))

new_first : (cs : List Cell) → new_count (keep_first cs) ≡ suc (new_count cs)
new_first [] = refl
new_first (keep n ∷ cs) = omega arith
new_first (update v w ∷ cs) = omega arith
new_first (delete v ∷ cs) = omega arith
new_first (insert w ∷ cs) = omega arith

-- the new list has as many elements as its cells
pub new_count-cells : (ps : List Piece) → new_count (cells_of ps) ≡ new_len ps
new_count-cells [] = refl
new_count-cells (kept ∷ ps) = new_first (cells_of ps) ∙ ap suc (new_count-cells ps)
new_count-cells (updated v w ∷ ps) = omega (arith, new_count-cells ps)
new_count-cells (deleted v ∷ ps) = new_count-cells ps
new_count-cells (inserted w ∷ ps) = omega (arith, new_count-cells ps)
