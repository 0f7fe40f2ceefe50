-- All elements deleted, and all inserted.
use Rattle.std.proofs.Common.{◌≡◌, ◌∙◌, ◌+◌, ◌≤◌, ◌++◌, ℕ, suc, Bool, true, false, List, [], ◌∷◌, length, map, take, drop, refl, ap, sym, arith, append_assoc, append-nil}
use Rattle.std.specs.Prelude.{Some, slice_get, unwrap_or}
use Rattle.std.proofs.lemmas.List.{map-append, take_more, take_all, take-append-drop}
use Rattle.std.proofs.lemmas.Option.{slice_get_within, unwrap_or-slice_get}
use Rattle.spec_sorting.specs.Tree.{Tree}
use Rattle.spec_sorting.specs.Piece.{normal, old_len, new_len}
use Rattle.spec_sorting.specs.Delta.{Delta}
use Rattle.spec_sorting.specs.Making.{replaced}
use Rattle.spec_sorting.proofs.DeltaLeads.{length_from, length-applied}
use Rattle.spec_sorting.proofs.Made.{replaced_leads, replaced_normal}
use Rattle.spec_sorting.proofs.Normal.{normal_is}
use Rattle.spec_classes.proofs.Steps.{drop_here}
use Rattle.gl_kernel.specs.Plans.{CanTell}
use Rattle.gl_kernel.proofs.Spreads.{normal-append, can_tell_whole, can_tell_part}
use Rattle.gl_unique.specs.Replacing.{turned}

-- one element more, where those before a place are told
module _ (were : Bool) (vs : List Tree) (start out : Delta) (place : ℕ) (v : Tree) (told : out ≡ normal (start ++ map (turned were) (take place vs)))
    (at : slice_get vs place ≡ Some v) where
  parts : map (turned were) (take place vs) ++ turned were v ∷ map (turned were) (drop (suc place) vs) ≡ map (turned were) vs
  parts =
      sym (map-append (turned were) (take place vs) (v ∷ drop (suc place) vs))
      ∙ ap (map (turned were)) (ap (λ us. take place vs ++ us) (sym (drop_here vs place v at)) ∙ take-append-drop place vs)

  left : normal (out ++ turned were v ∷ map (turned were) (drop (suc place) vs)) ≡ normal (start ++ map (turned were) vs)
  left =
      ap (λ ps. normal (ps ++ turned were v ∷ map (turned were) (drop (suc place) vs))) told
      ∙ (normal-append (start ++ map (turned were) (take place vs)) (turned were v ∷ map (turned were) (drop (suc place) vs))
      ∙ ap normal (append_assoc start (map (turned were) (take place vs)) (turned were v ∷ map (turned were) (drop (suc place) vs)) ∙ ap (λ ps. start ++ ps) parts))

  pub can_one : CanTell (map (turned were) vs) start → CanTell (turned were v ∷ []) out
  can_one can = can_tell_part start out (map (turned were) vs) (turned were v ∷ []) (map (turned were) (drop (suc place) vs)) can left

  pub told_one : (more : Delta) → more ≡ normal (out ++ turned were v ∷ []) → more ≡ normal (start ++ map (turned were) (take (place + 1) vs))
  told_one more is =
      is ∙ (ap (λ ps. normal (ps ++ turned were v ∷ [])) told
      ∙ (normal-append (start ++ map (turned were) (take place vs)) (turned were v ∷ [])
      ∙ ap normal (append_assoc start (map (turned were) (take place vs)) (turned were v ∷ [])
      ∙ ap (λ ps. start ++ ps) (sym (map-append (turned were) (take place vs) (v ∷ [])) ∙ ap (map (turned were)) (sym (take_one vs place v at))))))
    where
      take_one : (us : List Tree) (k : ℕ) (u : Tree) → slice_get us k ≡ Some u → take (k + 1) us ≡ take k us ++ u ∷ []
      take_one us k u e = take_more us k u (slice_get_within us k u e) ∙ ap (λ w. take k us ++ w ∷ []) (sym (unwrap_or-slice_get us k u) ∙ ap (λ t. unwrap_or t u) e)

-- once all are told
pub told_last : (were : Bool) (vs : List Tree) (start out : Delta) (place : ℕ) → length vs ≤ place → out ≡ normal (start ++ map (turned were) (take place vs))
    → out ≡ normal (start ++ map (turned were) vs)
told_last were vs start out place past told = told ∙ ap (λ us. normal (start ++ map (turned were) us)) (take_all place vs past)

module _ (us vs : List Tree) (few : length us ≤ 2147483647) (few_too : length vs ≤ 2147483647) where
  old_few : old_len (replaced us vs) ≤ 2147483647
  old_few = omega (arith, few, length_from (replaced us vs) us (replaced_leads us vs).starts)

  new_few : new_len (replaced us vs) ≤ 2147483647
  new_few = omega (arith, few_too, length-applied (replaced us vs) us (replaced_leads us vs).starts, ap length (replaced_leads us vs).ends)

  pub can_delete : CanTell (map (turned true) us) []
  can_delete = can_tell_whole (replaced us vs) [] (map (turned true) us) (map (turned false) vs) old_few new_few refl

  pub can_insert : (out : Delta) → out ≡ normal (map (turned true) us) → CanTell (map (turned false) vs) out
  can_insert out is =
      can_tell_whole (replaced us vs) out (map (turned false) vs) [] old_few new_few
      (ap (λ ps. normal (ps ++ (map (turned false) vs ++ []))) is ∙ (normal-append (map (turned true) us) (map (turned false) vs ++ []) ∙ ap (λ ps. normal (map (turned true) us ++ ps)) (append-nil (map (turned false) vs))))

pub told_both : (us vs : List Tree) (out more : Delta) → out ≡ normal (map (turned true) us) → more ≡ normal (out ++ map (turned false) vs) → more ≡ replaced us vs
told_both us vs out more is then =
    then ∙ (ap (λ ps. normal (ps ++ map (turned false) vs)) is ∙ (normal-append (map (turned true) us) (map (turned false) vs) ∙ normal_is (replaced us vs) (replaced_normal us vs)))
