-- The elements that a delta keeps, by its sides.
use Rattle.std.proofs.Common.{◌≡◌, ◌∙◌, ℕ, ◌==◌, ◌&&◌, ◌||◌, Bool, true, false, List, [], ◌∷◌, map, refl, ap, sym, eq-eqb}
use Rattle.std.specs.Prelude.{not, Option, Some, None, slice_get}
use Rattle.std.specs.List.{list_any}
use Rattle.spec_sorting.specs.Piece.{inverted}
use Rattle.spec_sorting.specs.Pairs.{Pair, pairs}
use Rattle.spec_sorting.specs.Sides.{Item, plain, changed, lone, sides}
use Rattle.spec_sorting.specs.Delta.{Delta}
use Rattle.spec_sorting.proofs.Items.{swapped}
use Rattle.spec_sorting.proofs.Follow.{pairs_turned}
use Rattle.spec_classes.specs.Classes.{is_kept_old, is_kept_new}
use Rattle.spec_classes.specs.Slots.{read_by, read_after}
use Rattle.spec_classes.specs.Told.{is_still}
use Rattle.spec_classes.proofs.PlainPairs.{partner_of_old, kept_by_old, still_plain}
use Rattle.gl_classes.proofs.TouchedClasses.{KeepsBy}

false_true : false ≡ true → ⊥
false_true e = absurd cc

pub keeps_old : (d : Delta) → KeepsBy (is_kept_old (pairs d)) (sides d).old
keeps_old d = record {
  plain_kept = λ i j e. kept_by_old (pairs d) i j (sym (still_plain d i j) ∙ (ap (λ t. is_still (read_by i t) j) e ∙ eq-eqb j j refl));
  kept_plain = λ i h. let p = partner_of_old (pairs d) i h in by i p.0 (slice_get (sides d).old i) refl (still_plain d i p.0 ∙ p.1);
}
  where
    by : (i j : ℕ) (t : Option Item) → slice_get (sides d).old i ≡ t → is_still (read_after d i) j ≡ true → (k : ℕ) × (slice_get (sides d).old i ≡ Some (plain k))
    by i j None e still = absurd (false_true (sym (ap (λ t. is_still (read_by i t) j) e) ∙ still))
    by i j (Some (plain k)) e still = (k, e)
    by i j (Some (changed k v)) e still = absurd (false_true (sym (ap (λ t. is_still (read_by i t) j) e) ∙ still))
    by i j (Some (lone v)) e still = absurd (false_true (sym (ap (λ t. is_still (read_by i t) j) e) ∙ still))

any_turned : (test : Pair → Bool) (ps : List Pair) → list_any test (map swapped ps) ≡ list_any (λ p. test (swapped p)) ps
any_turned test [] = refl
any_turned test (p ∷ ps) = ap (λ t. test (swapped p) || t) (any_turned test ps)

pub kept_turned : (d : Delta) (j : ℕ) → is_kept_old (pairs (map inverted d)) j ≡ is_kept_new (pairs d) j
kept_turned d j =
    ap (λ ps. is_kept_old ps j) (pairs_turned 0 0 d) ∙ any_turned (λ p. (p.old == j) && not p.updated) (pairs d)

pub keeps_new : (d : Delta) → KeepsBy (is_kept_new (pairs d)) (sides d).new
keeps_new d =
    let k = keeps_old (map inverted d) in
    record {
      plain_kept = λ i j e. sym (kept_turned d i) ∙ k.plain_kept i j e;
      kept_plain = λ i h. k.kept_plain i (kept_turned d i ∙ h);
    }
