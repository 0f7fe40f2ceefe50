-- What a delta changes, read cell by cell.
use Rattle.std.proofs.Common.{◌≡◌, ◌+◌, ◌++◌, ℕ, zero, suc, List, [], ◌∷◌, map, Some, None, refl, sym, ap, ◌∙◌, arith, append_assoc}
use Rattle.std.proofs.lemmas.List.{map-append, append-nil}
use Rattle.spec_sorting.specs.Piece.{Piece, kept, updated, deleted, inserted, inverted, old_len, new_len, identity}
use Rattle.spec_sorting.specs.Sides.{olds}
use Rattle.spec_sorting.proofs.Normal.{inverted-inverted}
use Rattle.spec_sorting.proofs.Lengths.{old_len-identity, new_len-identity}
use Rattle.gl_arranged.specs.declared.changed.Changed.{Changed}
use Rattle.gl_arranged.specs.declared.collected.Collected.{Collected}
use Rattle.gl_arranged.specs.Changes.{changed_of}
use Rattle.gl_arranged.specs.Notes.{Notes}

-- kept elements aren't changed
pub none_kept : (n i j : ℕ) → changed_of i (olds j (identity n)) ≡ []
none_kept zero i j = refl
none_kept (suc n) i j = none_kept n (suc i) (suc j)

keeps_turned : (n : ℕ) → map inverted (identity n) ≡ identity n
keeps_turned zero = refl
keeps_turned (suc n) = ap (λ ps. kept ∷ ps) (keeps_turned n)

-- after kept elements the same were changed
pub kept_noted : (n : ℕ) (ps : List Piece) (a b : Collected) → ps ≡ identity n → b.gone.items ≡ a.gone.items → b.came.items ≡ a.came.items → b.olds ≡ a.olds + n → b.news ≡ a.news + n → Notes ps a b
kept_noted n ps a b are gone came old new = record {
  gone = gone ∙ (sym (append-nil a.gone.items) ∙ ap (λ cs. a.gone.items ++ cs) (sym (ap (λ qs. changed_of a.olds (olds a.news qs)) are ∙ none_kept n a.olds a.news)));
  came = came ∙ (sym (append-nil a.came.items) ∙ ap (λ cs. a.came.items ++ cs) (sym (ap (λ qs. changed_of a.news (olds a.olds (map inverted qs))) are ∙ (ap (λ qs. changed_of a.news (olds a.olds qs)) (keeps_turned n) ∙ none_kept n a.news a.olds))));
  old_is = omega (arith, old, ap old_len are, old_len-identity n);
  new_is = omega (arith, new, ap new_len are, new_len-identity n);
}

moved : (qs : List Piece) (i k j l : ℕ) → i ≡ k → j ≡ l → changed_of i (olds j qs) ≡ changed_of k (olds l qs)
moved qs i k j l e f = ap (λ n. changed_of n (olds j qs)) e ∙ ap (λ n. changed_of k (olds n qs)) f

-- the changed elements of some pieces, and then those of the others
read_more : (ps qs : List Piece) (i j : ℕ) → changed_of i (olds j (ps ++ qs)) ≡ changed_of i (olds j ps) ++ changed_of (i + old_len ps) (olds (j + new_len ps) qs)
read_more [] qs i j = moved qs i (i + 0) j (j + 0) (omega arith) (omega arith)
read_more (kept ∷ ps) qs i j = read_more ps qs (suc i) (suc j) ∙ ap (λ cs. changed_of (suc i) (olds (suc j) ps) ++ cs) (moved qs (suc i + old_len ps) (i + suc (old_len ps)) (suc j + new_len ps) (j + suc (new_len ps)) (omega arith) (omega arith))
read_more (updated v w ∷ ps) qs i j = ap (λ cs. record { source = i; partner = Some j } ∷ cs) (read_more ps qs (suc i) (suc j) ∙ ap (λ cs. changed_of (suc i) (olds (suc j) ps) ++ cs) (moved qs (suc i + old_len ps) (i + suc (old_len ps)) (suc j + new_len ps) (j + suc (new_len ps)) (omega arith) (omega arith)))
read_more (deleted v ∷ ps) qs i j = ap (λ cs. record { source = i; partner = None } ∷ cs) (read_more ps qs (suc i) j ∙ ap (λ cs. changed_of (suc i) (olds j ps) ++ cs) (moved qs (suc i + old_len ps) (i + suc (old_len ps)) (j + new_len ps) (j + new_len ps) (omega arith) refl))
read_more (inserted w ∷ ps) qs i j = read_more ps qs i (suc j) ∙ ap (λ cs. changed_of i (olds (suc j) ps) ++ cs) (moved qs (i + old_len ps) (i + old_len ps) (suc j + new_len ps) (j + suc (new_len ps)) refl (omega arith))

-- what is changed by what was read, and by what is left, is the whole
pub record Reads (gone came : List Changed) (a : Collected) (rest : List Piece) : Type 0 where
  pub gone_is : a.gone.items ++ changed_of a.olds (olds a.news rest) ≡ gone
  pub came_is : a.came.items ++ changed_of a.news (olds a.olds (map inverted rest)) ≡ came

step : (whole had now : List Changed) (ps qs : List Piece) (i j k l : ℕ) → had ++ changed_of i (olds j (ps ++ qs)) ≡ whole → now ≡ had ++ changed_of i (olds j ps) → k ≡ i + old_len ps → l ≡ j + new_len ps → now ++ changed_of k (olds l qs) ≡ whole
step whole had now ps qs i j k l all made e f =
    ap (λ cs. cs ++ changed_of k (olds l qs)) made
    ∙ (append_assoc had (changed_of i (olds j ps)) (changed_of k (olds l qs))
    ∙ (ap (λ cs. had ++ (changed_of i (olds j ps) ++ cs)) (moved qs k (i + old_len ps) l (j + new_len ps) e f)
    ∙ (ap (λ cs. had ++ cs) (sym (read_more ps qs i j)) ∙ all)))

pub reads_more : (gone came : List Changed) (a b : Collected) (ps qs : List Piece) → Reads gone came a (ps ++ qs) → Notes ps a b → Reads gone came b qs
reads_more gone came a b ps qs r n = record {
  gone_is = step gone a.gone.items b.gone.items ps qs a.olds a.news b.olds b.news r.gone_is n.gone n.old_is n.new_is;
  came_is = step came a.came.items b.came.items (map inverted ps) (map inverted qs) a.news a.olds b.news b.olds
      (ap (λ ts. a.came.items ++ changed_of a.news (olds a.olds ts)) (sym (map-append inverted ps qs)) ∙ r.came_is) n.came n.new_is (n.old_is ∙ ap (λ ts. a.olds + old_len ts) (sym (inverted-inverted ps)));
}
