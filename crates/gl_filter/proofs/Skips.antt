-- The elements that a kind of change leaves as they are, and the next one that it doesn't.
use Rattle.std.specs.Prelude.{◌≡◌, ◌↔◌, ℕ, zero, suc, ◌+◌, ◌-◌, ◌<◌, ◌≤◌, Bool, true, false, not, cond, List, [], ◌∷◌, length, take, drop, map, slice_get, Option, Some, None, IsSome, IfSome, refl}
use Rattle.std.proofs.Common.{ap, sym, ◌∙◌, arith, subst}
use Rattle.std.proofs.lemmas.Option.{slice_get_within}
use Rattle.std.proofs.lemmas.List.{length-take-le}
use Rattle.spec_views.specs.Tree.{Tree}
use Rattle.spec_views.specs.Piece.{kept, identity}
use Rattle.spec_views.specs.EditKind.{EditKind}
use Rattle.spec_views.specs.EditKind.TheVariants as kind_is
use Rattle.spec_views.specs.Chosen.{told_of_pair}
use Rattle.gl_barcode.specs.Bars.{count_shown, count_hidden, same, IsKthShown, IsKthHidden}
use Rattle.gl_kernel.specs.declared.log_step.LogStep.{LogStep}
use Rattle.gl_kernel.specs.Fates.{Fate, edits_of}
use Rattle.gl_filter.specs.Told.{told_change, switch, switches, SaysHere, question, questions, left_mark, AreAll, shown_among, IsNext}

-- how many marks are this one
abbrev counts : Bool → List Bool → ℕ
counts true bs = count_shown bs
counts false bs = count_hidden bs

counts-none : (m : Bool) → counts m [] ≡ 0
unfolding count_shown count_hidden
counts-none true = refl
counts-none false = refl

counts-cons : (m b : Bool) (bs : List Bool) → counts m (b ∷ bs) ≡ cond (same m b) 1 0 + counts m bs
unfolding count_shown count_hidden
counts-cons true b bs = refl
counts-cons false true bs = refl
counts-cons false false bs = refl

counts-cut : (m : Bool) (bs : List Bool) (n : ℕ) → counts m bs ≡ counts m (take n bs) + counts m (drop n bs)
counts-cut m bs zero = omega (arith, counts-none m)
counts-cut m [] (suc n) = omega (arith, counts-none m)
counts-cut m (b ∷ bs) (suc n) = omega (arith, counts-cons m b bs, counts-cons m b (take n bs), counts-cut m bs n)

-- where none are this one, all are the other one
all_other : (m : Bool) (bs : List Bool) → counts m bs ≡ 0 → AreAll (Some (not m)) bs
all_other m [] h = tt
all_other true (true ∷ bs) h = absurd (omega (arith, h, counts-cons true true bs))
all_other true (false ∷ bs) h = (refl, all_other true bs (omega (arith, h, counts-cons true false bs)))
all_other false (true ∷ bs) h = (refl, all_other false bs (omega (arith, h, counts-cons false true bs)))
all_other false (false ∷ bs) h = absurd (omega (arith, h, counts-cons false false bs))

one_more : (m b : Bool) (bs : List Bool) → Some b ≡ Some m → counts m (b ∷ bs) ≡ suc (counts m bs)
one_more true true bs e = omega (arith, counts-cons true true bs)
one_more true false bs e = cc
one_more false true bs e = cc
one_more false false bs e = omega (arith, counts-cons false false bs)

none_at : (at : ℕ) (m : Bool) → slice_get {X = Bool} [] at ≡ Some m → ⊥
none_at zero m e = cc
none_at (suc at) m e = cc

-- of those with this mark, the one that as many others stand before as before a place is the next one from there on
next_marked : (m : Bool) (bs : List Bool) (position at : ℕ) → slice_get bs at ≡ Some m → counts m (take at bs) ≡ counts m (take position bs) → IsNext (Some (not m)) bs position at
next_marked m bs zero at e h =
    let none : counts m (take at bs) ≡ 0 = h ∙ counts-none m in
    let all : at ≡ at - 0 = omega arith in
    let Between : ℕ → Type 0 = λ n. AreAll (Some (not m)) (take n bs) in
    record { from = omega arith; within = slice_get_within bs at m e; between = subst Between all (all_other m (take at bs) none) }
next_marked m [] (suc position) at e h = absurd (none_at at m e)
next_marked m (b ∷ bs) (suc position) zero e h = absurd (omega (arith, h, counts-none m, one_more m b (take position bs) e))
next_marked m (b ∷ bs) (suc position) (suc at) e h =
    let later = next_marked m bs position at e (omega (arith, h, counts-cons m b (take at bs), counts-cons m b (take position bs))) in
    let fewer : at - position ≡ suc at - suc position = omega arith in
    let Between : ℕ → Type 0 = λ n. AreAll (Some (not m)) (take n (drop position bs)) in
    record { from = omega (arith, later.from); within = omega (arith, later.within); between = subst Between fewer later.between }

-- a filter asks its barcode for it
pub next_shown : (mark : Option Bool) (bs : List Bool) (position k : ℕ) (result : Option ℕ) → mark ≡ Some false → k ≡ count_shown (take position bs) → IfSome result (IsKthShown k bs) → IfSome result (IsNext mark bs position)
next_shown mark bs position k None is e h = tt
next_shown mark bs position k (Some at) is e h =
    let ByMark : Option Bool → Type 0 = λ m. IsNext m bs position at in
    subst ByMark (sym is) (next_marked true bs position at h.shown (h.before ∙ e))

pub next_hidden : (mark : Option Bool) (bs : List Bool) (position k : ℕ) (result : Option ℕ) → mark ≡ Some true → k ≡ count_hidden (take position bs) → IfSome result (IsKthHidden k bs) → IfSome result (IsNext mark bs position)
next_hidden mark bs position k None is e h = tt
next_hidden mark bs position k (Some at) is e h =
    let ByMark : Option Bool → Type 0 = λ m. IsNext m bs position at in
    subst ByMark (sym is) (next_marked false bs position at h.hidden (h.before ∙ e))

-- and where there is none, those from the place on are all left as they are
none_left : (m : Bool) (mark : Option Bool) (bs : List Bool) (position k : ℕ) (result : Option ℕ) → mark ≡ Some (not m) → k ≡ counts m (take position bs) → (IsSome result ↔ (k < counts m bs)) → result ≡ None → AreAll mark (drop position bs)
none_left m mark bs position k (Some at) is e h none = cc
none_left m mark bs position k None is e h none =
    let past : counts m bs ≤ k = grind (arith, h.1) in
    let ByMark : Option Bool → Type 0 = λ o. AreAll o (drop position bs) in
    subst ByMark (sym is) (all_other m (drop position bs) (omega (arith, e, past, counts-cut m bs position)))

pub none_shown : (mark : Option Bool) (bs : List Bool) (position k : ℕ) (result : Option ℕ) → mark ≡ Some false → k ≡ count_shown (take position bs) → (IsSome result ↔ (k < count_shown bs)) → result ≡ None → AreAll mark (drop position bs)
none_shown = none_left true

pub none_hidden : (mark : Option Bool) (bs : List Bool) (position k : ℕ) (result : Option ℕ) → mark ≡ Some true → k ≡ count_hidden (take position bs) → (IsSome result ↔ (k < count_hidden bs)) → result ≡ None → AreAll mark (drop position bs)
none_hidden = none_left false

-- each place is shown or hidden
both_counts : (bs : List Bool) → count_shown bs + count_hidden bs ≡ length bs
both_counts [] = omega (arith, counts-none true, counts-none false)
both_counts (true ∷ bs) = omega (arith, counts-cons true true bs, counts-cons false true bs, both_counts bs)
both_counts (false ∷ bs) = omega (arith, counts-cons true false bs, counts-cons false false bs, both_counts bs)

pub before_hidden : (bs : List Bool) (position r : ℕ) → position ≤ length bs → r ≡ count_shown (take position bs) → (r ≤ position) × (position - r ≡ count_hidden (take position bs))
before_hidden bs position r h e =
    let len = length-take-le position bs h in
    (omega (arith, len, e, both_counts (take position bs)), omega (arith, len, e, both_counts (take position bs)))

-- with no such mark each place is the next one from itself on
pub next_itself : (mark : Option Bool) (bs : List Bool) (position : ℕ) → position < length bs → IsNext mark bs position position
next_itself mark bs position h =
    let none : 0 ≡ position - position = omega arith in
    let Between : ℕ → Type 0 = λ n. AreAll mark (take n (drop position bs)) in
    record { from = omega arith; within = h; between = subst Between none tt }

unsome : (a b : Bool) → Some a ≡ Some b → a ≡ b
unsome a b e = cc

-- an element with the mark that a kind leaves keeps it
pub left_one : (kind : EditKind) (was now : Bool) → left_mark kind ≡ Some was → SaysHere kind was now → now ≡ was
left_one kind_is.All was now l h = h ∙ unsome true was l
left_one kind_is.Nothing was now l h = h ∙ unsome false was l
left_one kind_is.Constrained was now l h = stays was now (unsome false was l) h
  where
    stays : (a b : Bool) → false ≡ a → (b ≡ true → a ≡ true) → b ≡ a
    stays a true e g = sym (g refl)
    stays a false e g = e
left_one kind_is.Relaxed was now l h = h (sym (unsome true was l)) ∙ unsome true was l
left_one kind_is.Changed was now l h = cc

left_pair : (mark : Option Bool) (was now : Bool) (x : Tree) (k : ℕ) → mark ≡ Some was → now ≡ was → told_of_pair was now kept x x (identity (shown_among mark k)) ≡ identity (shown_among mark (suc k))
left_pair (Some true) was now x k l e =
    let is = sym (unsome true was l) in
    ap (λ b. told_of_pair b now kept x x (identity k)) is ∙ ap (λ b. told_of_pair true b kept x x (identity k)) (e ∙ is)
left_pair (Some false) was now x k l e =
    let is = sym (unsome false was l) in
    ap (λ b. told_of_pair b now kept x x (identity 0)) is ∙ ap (λ b. told_of_pair false b kept x x (identity 0)) (e ∙ is)
left_pair None was now x k l e = cc

none_among : (mark : Option Bool) → shown_among mark 0 ≡ 0
none_among (Some true) = refl
none_among (Some false) = refl
none_among None = refl

-- elements that are left as they are are told as kept ones, need no edit, and aren't asked about
pub left_told : (mark : Option Bool) (before after : Tree → Bool) (ys : List Tree) → ((x : Tree) → mark ≡ Some (before x) → after x ≡ before x) → AreAll mark (map before ys)
    → told_change before after ys ≡ identity (shown_among mark (length ys))
left_told mark before after [] same all = sym (ap identity (none_among mark))
left_told mark before after (x ∷ ys) same all =
    ap (told_of_pair (before x) (after x) kept x x) (left_told mark before after ys same all.1) ∙ left_pair mark (before x) (after x) x (length ys) all.0 (same x all.0)

switch_same : (was now : Bool) (i : ℕ) (fs : List (Fate Bool)) → now ≡ was → edits_of i (switch was now ∷ fs) ≡ edits_of (suc i) fs
switch_same true true i fs e = refl
switch_same true false i fs e = cc
switch_same false true i fs e = cc
switch_same false false i fs e = refl

pub left_edits : (mark : Option Bool) (before after : Tree → Bool) (ys : List Tree) (i : ℕ) → ((x : Tree) → mark ≡ Some (before x) → after x ≡ before x) → AreAll mark (map before ys)
    → let none : List (LogStep Bool) = [] in edits_of i (switches before after ys) ≡ none
left_edits mark before after [] i same all = refl
left_edits mark before after (x ∷ ys) i same all =
    switch_same (before x) (after x) i (switches before after ys) (same x all.0) ∙ left_edits mark before after ys (suc i) same all.1

left_question : (kind : EditKind) (b : Bool) → left_mark kind ≡ Some b → question kind b ≡ 0
left_question kind_is.All b l = refl
left_question kind_is.Nothing b l = refl
left_question kind_is.Constrained b l = ap (λ c. question kind_is.Constrained c) (sym (unsome false b l))
left_question kind_is.Relaxed b l = ap (λ c. question kind_is.Relaxed c) (sym (unsome true b l))
left_question kind_is.Changed b l = cc

pub left_questions : (kind : EditKind) (bs : List Bool) → AreAll (left_mark kind) bs → questions kind bs ≡ 0
left_questions kind [] all = refl
left_questions kind (b ∷ bs) all = omega (arith, left_question kind b all.0, left_questions kind bs all.1)
