-- All groups deleted, and all inserted, one after another.
use Rattle.std.proofs.Common.{◌≡◌, ◌∙◌, ◌+◌, ◌≤◌, ◌++◌, ℕ, List, [], ◌∷◌, length, map, drop, refl, ap, sym, arith}
use Rattle.std.specs.Prelude.{Some, slice_get}
use Rattle.std.proofs.lemmas.List.{drop_all}
use Rattle.spec_sorting.specs.Tree.{Tree}
use Rattle.spec_sorting.specs.Piece.{Piece, deleted, inserted, old_len, new_len, normal, IsNormal}
use Rattle.spec_sorting.specs.Making.{replaced}
use Rattle.spec_sorting.proofs.Normal.{normal_is}
use Rattle.spec_sorting.proofs.DeltaLeads.{length_from, length-applied}
use Rattle.spec_sorting.proofs.Made.{replaced_leads, replaced_normal}
use Rattle.gl_kernel.specs.Plans.{CanTell}
use Rattle.gl_kernel.proofs.Made.{append_nothing}
use Rattle.gl_kernel.proofs.ReadValues.{drop_at}
use Rattle.gl_kernel.proofs.Spreads.{told_more, can_tell_part}

-- what was told so far and what is left, each by a piece, are the whole: with one value more too
module _ (f : Tree → Piece) (vs : List Tree) (start out : List Piece) (place : ℕ) (so_far : normal (out ++ map f (drop place vs)) ≡ normal (start ++ map f vs)) where
  left : (v w : Tree) → slice_get vs place ≡ Some v → w ≡ v → normal (out ++ f w ∷ map f (drop (place + 1) vs)) ≡ normal (start ++ map f vs)
  left v w at copied =
      ap (λ u. normal (out ++ f u ∷ map f (drop (place + 1) vs))) copied ∙ (sym (ap (λ us. normal (out ++ map f us)) (drop_at vs place v at)) ∙ so_far)

  pub can_one : (v w : Tree) → slice_get vs place ≡ Some v → w ≡ v → CanTell (map f vs) start → CanTell (f w ∷ []) out
  can_one v w at copied can = can_tell_part start out (map f vs) (f w ∷ []) (map f (drop (place + 1) vs)) can (left v w at copied)

  pub one_told : (v w : Tree) (more : List Piece) → slice_get vs place ≡ Some v → w ≡ v → more ≡ normal (out ++ f w ∷ [])
      → normal (more ++ map f (drop (place + 1) vs)) ≡ normal (start ++ map f vs)
  one_told v w more at copied told = told_more (normal (start ++ map f vs)) out more (f w ∷ []) (map f (drop (place + 1) vs)) (left v w at copied) told

  pub all_told : length vs ≤ place → IsNormal out → out ≡ normal (start ++ map f vs)
  all_told all n =
      sym (normal_is out n) ∙ (ap normal (sym (append_nothing out)) ∙ (ap (λ us. normal (out ++ map f us)) (sym (drop_all place vs all)) ∙ so_far))

module _ (olds news : List Tree) (few : length olds ≤ 2147483647) (few_too : length news ≤ 2147483647) where
  can_both : CanTell (replaced olds news) []
  can_both =
      let h = replaced_leads olds news in
      record {
        olds = omega (arith, few, length_from (replaced olds news) olds h.starts);
        news = omega (arith, few_too, ap length h.ends, length-applied (replaced olds news) olds h.starts);
      }

  pub can_delete : CanTell (map deleted olds) []
  can_delete = can_tell_part [] [] (replaced olds news) (map deleted olds) (map inserted news) can_both refl

  both : (out : List Piece) → out ≡ normal (map deleted olds) → normal (out ++ map inserted news) ≡ normal (replaced olds news)
  both out told = told_more (normal (replaced olds news)) [] out (map deleted olds) (map inserted news) refl told

  pub can_insert : (out : List Piece) → out ≡ normal (map deleted olds) → CanTell (map inserted news) out
  can_insert out told =
      can_tell_part [] out (replaced olds news) (map inserted news) [] can_both (ap (λ ps. normal (out ++ ps)) (append_nothing (map inserted news)) ∙ both out told)

  pub both_told : (out more : List Piece) → out ≡ normal (map deleted olds) → more ≡ normal (out ++ map inserted news) → more ≡ replaced olds news
  both_told out more deletes inserts = inserts ∙ (both out deletes ∙ normal_is (replaced olds news) (replaced_normal olds news))
