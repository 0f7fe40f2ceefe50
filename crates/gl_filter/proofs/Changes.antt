-- What is told of another matcher.
use Rattle.std.specs.Prelude.{◌≡◌, ℕ, suc, ◌+◌, ◌-◌, ◌≤◌, Bool, true, false, List, [], ◌∷◌, ◌++◌, length, take, drop, slice_get, Some, refl}
use Rattle.std.proofs.Common.{ap, sym, ◌∙◌, arith}
use Rattle.std.proofs.lemmas.List.{drop-drop, length-drop, length-take-le, take-append-drop}
use Rattle.spec_views.specs.Tree.{Tree}
use Rattle.spec_views.specs.Piece.{Piece, kept, identity, old_len, new_len, normal}
use Rattle.spec_views.specs.EditKind.{EditKind}
use Rattle.spec_views.specs.EditKind.TheVariants as kind_is
use Rattle.spec_views.specs.Matcher.{Matcher, accepts}
use Rattle.spec_views.specs.Kind.{Says}
use Rattle.spec_views.specs.Chosen.{told_of_pair, told_from}
use Rattle.spec_views.specs.Filter.{by_value, filter_change}
use Rattle.gl_barcode.specs.Bars.{count_shown}
use Rattle.gl_kernel.specs.declared.log_step.LogStep.{LogStep}
use Rattle.gl_kernel.specs.Fates.{edits_of}
use Rattle.gl_kernel.specs.Plans.{CanTell}
use Rattle.gl_kernel.proofs.Pairs.{pair-append, pair_olds, pair_news}
use Rattle.gl_kernel.proofs.ReadValues.{drop_at}
use Rattle.gl_kernel.proofs.Spreads.{can_tell_whole, told_more, steps_more}
use Rattle.gl_filter.specs.Told.{told_change, switch, switches, SaysHere, questions, change_cost}
use Rattle.gl_filter.proofs.Shown.{count-cons, count-none}
use Rattle.gl_filter.proofs.ShownMarks.{spoken-switches}

change_told : (before after : Tree → Bool) (i j : ℕ) (xs : List Tree) → told_from (by_value before) (by_value after) i j xs (identity (length xs)) ≡ told_change before after xs
change_told before after i j [] = refl
change_told before after i j (x ∷ xs) = ap (told_of_pair (before x) (after x) kept x x) (change_told before after (suc i) (suc j) xs)

pub change_is : (before after : Tree → Bool) (xs : List Tree) → normal (told_change before after xs) ≡ filter_change before after xs
change_is before after xs = ap normal (sym (change_told before after 0 0 xs))

change_olds : (before after : Tree → Bool) (xs : List Tree) → old_len (told_change before after xs) ≤ length xs
change_olds before after [] = omega arith
change_olds before after (x ∷ xs) = omega (arith, pair_olds (before x) (after x) kept x x (told_change before after xs), change_olds before after xs)

change_news : (before after : Tree → Bool) (xs : List Tree) → new_len (told_change before after xs) ≤ length xs
change_news before after [] = omega arith
change_news before after (x ∷ xs) = omega (arith, pair_news (before x) (after x) kept x x (told_change before after xs), change_news before after xs)

-- what is told of some elements, and then of the others
change-append : (before after : Tree → Bool) (xs ys : List Tree) → told_change before after (xs ++ ys) ≡ told_change before after xs ++ told_change before after ys
change-append before after [] ys = refl
change-append before after (x ∷ xs) ys =
    ap (told_of_pair (before x) (after x) kept x x) (change-append before after xs ys) ∙ pair-append (before x) (after x) kept x x (told_change before after xs) (told_change before after ys)

switches-append : (before after : Tree → Bool) (xs ys : List Tree) → switches before after (xs ++ ys) ≡ switches before after xs ++ switches before after ys
switches-append before after [] ys = refl
switches-append before after (x ∷ xs) ys = ap (λ fs. switch (before x) (after x) ∷ fs) (switches-append before after xs ys)

questions-append : (kind : EditKind) (bs cs : List Bool) → questions kind (bs ++ cs) ≡ questions kind bs + questions kind cs
questions-append kind [] cs = omega arith
questions-append kind (b ∷ bs) cs = omega (arith, questions-append kind bs cs)

-- n elements from a place on, and then the others
parts : {T : Type 0} (xs : List T) (position n : ℕ) → drop position xs ≡ take n (drop position xs) ++ drop (position + n) xs
parts xs position n = sym (take-append-drop n (drop position xs)) ∙ ap (λ ys. take n (drop position xs) ++ ys) (drop-drop n position xs)

pub first_of : {T : Type 0} (xs : List T) (position : ℕ) (x : T) → slice_get xs position ≡ Some x → take 1 (drop position xs) ≡ x ∷ []
first_of xs position x e = ap (take 1) (drop_at xs position x e)

-- what is left to tell after n elements more, and that these can be told
module _ (before after : Tree → Bool) (xs : List Tree) (position n : ℕ) where
  told_split : (out whole : List Piece) → normal (out ++ told_change before after (drop position xs)) ≡ whole
      → normal (out ++ (told_change before after (take n (drop position xs)) ++ told_change before after (drop (position + n) xs))) ≡ whole
  told_split out whole h =
      ap (λ ps. normal (out ++ ps)) (sym (ap (told_change before after) (parts xs position n) ∙ change-append before after (take n (drop position xs)) (drop (position + n) xs))) ∙ h

  pub walk_told : (out more whole : List Piece) (j : ℕ) → normal (out ++ told_change before after (drop position xs)) ≡ whole → more ≡ normal (out ++ told_change before after (take n (drop position xs))) → j ≡ position + n
      → normal (more ++ told_change before after (drop j xs)) ≡ whole
  walk_told out more whole j h g e =
      ap (λ k. normal (more ++ told_change before after (drop k xs))) e
      ∙ told_more whole out more (told_change before after (take n (drop position xs))) (told_change before after (drop (position + n) xs)) (told_split out whole h) g

  pub walk_can : (out : List Piece) → length xs ≤ 2147483647 → normal (out ++ told_change before after (drop position xs)) ≡ normal (told_change before after xs)
      → CanTell (told_change before after (take n (drop position xs))) out
  walk_can out h e =
      can_tell_whole (told_change before after xs) out (told_change before after (take n (drop position xs))) (told_change before after (drop (position + n) xs))
      (omega (arith, change_olds before after xs, h)) (omega (arith, change_news before after xs, h)) (told_split out (normal (told_change before after xs)) e)

  pub walk_edits : (log more whole : List (LogStep Bool)) (j : ℕ) → position + n ≤ length xs → log ++ edits_of position (switches before after (drop position xs)) ≡ whole
      → more ≡ log ++ edits_of position (switches before after (take n (drop position xs))) → j ≡ position + n → more ++ edits_of j (switches before after (drop j xs)) ≡ whole
  walk_edits log more whole j inside h g e =
      let first = switches before after (take n (drop position xs)) in
      let last = switches before after (drop (position + n) xs) in
      let all = ap (switches before after) (parts xs position n) ∙ switches-append before after (take n (drop position xs)) (drop (position + n) xs) in
      let count = length-take-le n (drop position xs) (omega (arith, inside, length-drop position xs)) in
      ap (λ k. more ++ edits_of j (switches before after (drop k xs))) e
      ∙ steps_more whole log more first last position j (ap (λ fs. log ++ edits_of position fs) (sym all) ∙ h) g
      (e ∙ ap (λ k. position + k) (sym (spoken-switches before after (take n (drop position xs)) ∙ count)))

pub walk_asked : (kind : EditKind) (bs : List Bool) (position n : ℕ) → questions kind (drop position bs) ≡ questions kind (take n (drop position bs)) + questions kind (drop (position + n) bs)
walk_asked kind bs position n = ap (questions kind) (parts bs position n) ∙ questions-append kind (take n (drop position bs)) (drop (position + n) bs)

-- what a kind says of all values it says of one
pub says_here : (kind : EditKind) (old new : Matcher) (v : Tree) (was : Bool) → Says kind old new → was ≡ accepts old v → SaysHere kind was (accepts new v)
says_here kind_is.All old new v was h e = h v
says_here kind_is.Nothing old new v was h e = h v
says_here kind_is.Constrained old new v was h e = λ now. e ∙ h v now
says_here kind_is.Relaxed old new v was h e = λ shown. h v (sym e ∙ shown)
says_here kind_is.Changed old new v was h e = tt

-- how often is asked in all
pub questions_are : (kind : EditKind) (bs : List Bool) → questions kind bs ≡ change_cost kind bs
questions_are kind_is.All [] = refl
questions_are kind_is.All (b ∷ bs) = omega (arith, questions_are kind_is.All bs)
questions_are kind_is.Nothing [] = refl
questions_are kind_is.Nothing (b ∷ bs) = omega (arith, questions_are kind_is.Nothing bs)
questions_are kind_is.Constrained [] = sym count-none
questions_are kind_is.Constrained (b ∷ bs) = omega (arith, questions_are kind_is.Constrained bs, count-cons b bs)
questions_are kind_is.Relaxed bs = hidden bs
  where
    few : (cs : List Bool) → count_shown cs ≤ length cs
    few [] = omega (arith, count-none)
    few (true ∷ cs) = omega (arith, count-cons true cs, few cs)
    few (false ∷ cs) = omega (arith, count-cons false cs, few cs)

    hidden : (cs : List Bool) → questions kind_is.Relaxed cs ≡ length cs - count_shown cs
    hidden [] = omega (arith, count-none)
    hidden (true ∷ cs) = omega (arith, count-cons true cs, few cs, hidden cs)
    hidden (false ∷ cs) = omega (arith, count-cons false cs, few cs, hidden cs)
questions_are kind_is.Changed [] = refl
questions_are kind_is.Changed (b ∷ bs) = omega (arith, questions_are kind_is.Changed bs)
