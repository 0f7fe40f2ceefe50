-- Members side by side: their elements, their changes and their lengths.
use Rattle.std.specs.Prelude.{◌≡◌, ℕ, zero, suc, ◌+◌, ◌<◌, ◌≤◌, List, [], ◌∷◌, ◌++◌, length, map, flat_map, sum, drop, slice_get, slice_index_or, Option, Some, None, Contains, refl}
use Rattle.std.proofs.Common.{ap, sym, ◌∙◌, arith, subst}
use Rattle.std.proofs.lemmas.List.{drop_all}
use Rattle.gl_joined.specs.Tree.{Tree}
use Rattle.gl_joined.specs.Piece.{old_len, new_len}
use Rattle.gl_joined.specs.Leads.{IsDelta}
use Rattle.gl_joined.proofs.DeltaChanges.{old_len-append, new_len-append}
use Rattle.gl_joined.proofs.DeltaLeads.{length-applied}
use Rattle.gl_joined.proofs.Lengths.{new_len-identity}
use Rattle.spec_views.specs.Composite.{composite_view}
use Rattle.gl_delta.specs.Model.{DeltaModel}
use Rattle.gl_joined.proofs.Entries.{sum-first}
use Rattle.gl_joined.proofs.Joined.{joined_len, joined_found, joined_past}
use Rattle.gl_kernel.specs.declared.log_step.LogStep.{LogStep}
use Rattle.gl_kernel.specs.Edits.{insertions, Makes}
use Rattle.gl_kernel.specs.Fates.{Fate, outcome, spoken, edits_of}
use Rattle.gl_kernel.proofs.Fates.{fates_make}
use Rattle.gl_kernel.proofs.ReadValues.{drop_at}
use Rattle.gl_joined.specs.Located.{IsLocated}
use Rattle.gl_composite.specs.Stands.{found_in}
use Rattle.gl_composite.specs.Told.{put_or_same, told_of, deltas_of, told_by, AreOf, new_lens, put_fate, fate_of, fates}

-- how many elements the members show
pub shown_is : (shows : ℕ → List Tree) (lists lens : List ℕ) → lens ≡ map (λ list. length (shows list)) lists → sum lens ≡ length (composite_view lists shows)
shown_is shows lists lens e = ap sum e ∙ joined_len shows lists

-- what is told of the members from an index on, and of one of them
pub told_split : (deltas : List (Option DeltaModel)) (lists lens : List ℕ) (i list len : ℕ) → slice_get lists i ≡ Some list → slice_get lens i ≡ Some len
    → told_by deltas (drop i lists) (drop i lens) ≡ told_of deltas list len ++ told_by deltas (drop (i + 1) lists) (drop (i + 1) lens)
told_split deltas lists lens i list len e f =
    ap (λ ms. told_by deltas ms (drop i lens)) (drop_at lists i list e) ∙ ap (λ ns. told_by deltas (list ∷ drop (i + 1) lists) ns) (drop_at lens i len f)

pub told_none : (deltas : List (Option DeltaModel)) (lists lens : List ℕ) (i : ℕ) → length lists ≤ i → told_by deltas (drop i lists) (drop i lens) ≡ []
told_none deltas lists lens i h = ap (λ ms. told_by deltas ms (drop i lens)) (drop_all i lists h)

pub fates_split : (deltas : List (Option DeltaModel)) (lists : List ℕ) (i list : ℕ) → slice_get lists i ≡ Some list
    → fates deltas (drop i lists) ≡ (fate_of deltas list ∷ []) ++ fates deltas (drop (i + 1) lists)
fates_split deltas lists i list e = ap (fates deltas) (drop_at lists i list e)

pub fates_none : (deltas : List (Option DeltaModel)) (lists : List ℕ) (i : ℕ) → length lists ≤ i → fates deltas (drop i lists) ≡ []
fates_none deltas lists i h = ap (fates deltas) (drop_all i lists h)

pub same_number : (a b : ℕ) → Some a ≡ Some b → a ≡ b
same_number a b e = cc

-- what the deltas owe to one member
pub of_member : (deltas : List (Option DeltaModel)) (lists lens : List ℕ) (i list len : ℕ) → AreOf deltas lists lens → slice_get lists i ≡ Some list → slice_get lens i ≡ Some len
    → (list < length deltas) × (old_len (told_of deltas list len) ≡ len)
of_member deltas [] lens i list len h e f = absurd cc
of_member deltas (m ∷ lists) [] i list len h e f = absurd cc
of_member deltas (m ∷ lists) (n ∷ lens) zero list len h e f =
    let P : ℕ → ℕ → Type 0 = λ a b. (a < length deltas) × (old_len (told_of deltas a b) ≡ b) in
    let Q : ℕ → Type 0 = λ a. P a n in
    subst (P list) (same_number n len f) (subst Q (same_number m list e) (h.0, h.1))
of_member deltas (m ∷ lists) (n ∷ lens) (suc i) list len h e f = of_member deltas lists lens i list len h.2 e f

-- how many elements the members had, and have
pub told_olds : (deltas : List (Option DeltaModel)) (lists lens : List ℕ) → length lists ≡ length lens → AreOf deltas lists lens → old_len (told_by deltas lists lens) ≡ sum lens
told_olds deltas [] [] p h = refl
told_olds deltas [] (n ∷ lens) p h = absurd (omega (arith, p))
told_olds deltas (m ∷ lists) [] p h = absurd (omega (arith, p))
told_olds deltas (m ∷ lists) (n ∷ lens) p h =
    let shorter : length lists ≡ length lens = omega (arith, p) in
    omega (arith, old_len-append (told_of deltas m n) (told_by deltas lists lens), h.1, told_olds deltas lists lens shorter h.2, sum-first n lens)

pub told_news : (deltas : List (Option DeltaModel)) (lists lens : List ℕ) → new_len (told_by deltas lists lens) ≡ sum (new_lens deltas lists lens)
told_news deltas [] lens = refl
told_news deltas (m ∷ lists) [] = refl
told_news deltas (m ∷ lists) (n ∷ lens) =
    omega (arith, new_len-append (told_of deltas m n) (told_by deltas lists lens), told_news deltas lists lens, sum-first (new_len (told_of deltas m n)) (new_lens deltas lists lens))

pub length-new_lens : (deltas : List (Option DeltaModel)) (lists lens : List ℕ) → length lists ≡ length lens → length (new_lens deltas lists lens) ≡ length lists
length-new_lens deltas [] lens p = refl
length-new_lens deltas (m ∷ lists) [] p = absurd (omega (arith, p))
length-new_lens deltas (m ∷ lists) (n ∷ lens) p = let shorter : length lists ≡ length lens = omega (arith, p) in ap suc (length-new_lens deltas lists lens shorter)

-- the edits of the lengths make the new ones
pub spoken-one : (d : Option DeltaModel) → spoken (put_fate d ∷ []) ≡ 1
spoken-one None = refl
spoken-one (Some d) = refl

spoken-put : (d : Option DeltaModel) (fs : List (Fate ℕ)) → spoken (put_fate d ∷ fs) ≡ suc (spoken fs)
spoken-put None fs = refl
spoken-put (Some d) fs = refl

spoken-fates : (deltas : List (Option DeltaModel)) (lists : List ℕ) → spoken (fates deltas lists) ≡ length lists
spoken-fates deltas [] = refl
spoken-fates deltas (m ∷ lists) = spoken-put (slice_index_or deltas m None) (fates deltas lists) ∙ ap suc (spoken-fates deltas lists)

outcome-put : (d : Option DeltaModel) (fs : List (Fate ℕ)) (n : ℕ) (ns : List ℕ) → outcome (put_fate d ∷ fs) (n ∷ ns) ≡ new_len (put_or_same d n) ∷ outcome fs ns
outcome-put None fs n ns = ap (λ k. k ∷ outcome fs ns) (sym (new_len-identity n))
outcome-put (Some d) fs n ns = refl

outcome-fates : (deltas : List (Option DeltaModel)) (lists lens : List ℕ) → length lists ≡ length lens → outcome (fates deltas lists) lens ≡ new_lens deltas lists lens
outcome-fates deltas [] lens p = refl
outcome-fates deltas (m ∷ lists) [] p = absurd (omega (arith, p))
outcome-fates deltas (m ∷ lists) (n ∷ lens) p =
    let shorter : length lists ≡ length lens = omega (arith, p) in
    outcome-put (slice_index_or deltas m None) (fates deltas lists) n lens ∙ ap (λ ns. new_len (told_of deltas m n) ∷ ns) (outcome-fates deltas lists lens shorter)

insertions-put : (d : Option DeltaModel) (fs : List (Fate ℕ)) (i : ℕ) → insertions (edits_of i (put_fate d ∷ fs)) ≡ insertions (edits_of (suc i) fs)
insertions-put None fs i = refl
insertions-put (Some d) fs i = refl

no_insertions : (deltas : List (Option DeltaModel)) (lists : List ℕ) (i : ℕ) → insertions (edits_of i (fates deltas lists)) ≡ 0
no_insertions deltas [] i = refl
no_insertions deltas (m ∷ lists) i = insertions-put (slice_index_or deltas m None) (fates deltas lists) i ∙ no_insertions deltas lists (suc i)

pub lens_make : (deltas : List (Option DeltaModel)) (lists lens : List ℕ) (log : List (LogStep ℕ)) → length lists ≡ length lens → length lens ≤ 4294967294 → log ≡ edits_of 0 (fates deltas lists)
    → Makes log lens (new_lens deltas lists lens)
lens_make deltas lists lens log p few e =
    fates_make (fates deltas lists) log lens (new_lens deltas lists lens) e (spoken-fates deltas lists ∙ p) (omega (arith, few, no_insertions deltas lists 0)) (outcome-fates deltas lists lens p)

-- where the composite stands for what the lists show, its members' changes are those of the lists
pub told_is : (deltas : List (Option DeltaModel)) (shows : ℕ → List Tree) (lists lens : List ℕ) → lens ≡ map (λ list. length (shows list)) lists
    → told_by deltas lists lens ≡ flat_map (deltas_of deltas shows) lists
told_is deltas shows lists lens e = ap (told_by deltas lists) e ∙ by_list lists
  where
    by_list : (ms : List ℕ) → told_by deltas ms (map (λ list. length (shows list)) ms) ≡ flat_map (deltas_of deltas shows) ms
    by_list [] = refl
    by_list (m ∷ ms) = ap (λ ps. deltas_of deltas shows m ++ ps) (by_list ms)

first_of : (m : ℕ) (ms : List ℕ) → Contains (m ∷ ms) m
first_of m ms = (0, omega arith, refl)

later_of : (m n : ℕ) (ms : List ℕ) → Contains ms n → Contains (m ∷ ms) n
later_of m n ms h = (suc h.0, (let lt = h.1 in omega arith), h.2)

-- and lead to what they show then
pub new_lens_are : (deltas : List (Option DeltaModel)) (shows after : ℕ → List Tree) (lists lens : List ℕ) → lens ≡ map (λ list. length (shows list)) lists
    → ((list : ℕ) → Contains lists list → IsDelta (deltas_of deltas shows list) (shows list) (after list))
    → new_lens deltas lists lens ≡ map (λ list. length (after list)) lists
new_lens_are deltas shows after lists lens e leads = ap (new_lens deltas lists) e ∙ by_list lists leads
  where
    both : (a b : ℕ) (ms ns : List ℕ) → a ≡ b → ms ≡ ns → a ∷ ms ≡ b ∷ ns
    both a b ms ns f g = cc

    by_list : (ms : List ℕ) → ((list : ℕ) → Contains ms list → IsDelta (deltas_of deltas shows list) (shows list) (after list))
        → new_lens deltas ms (map (λ list. length (shows list)) ms) ≡ map (λ list. length (after list)) ms
    by_list [] h = refl
    by_list (m ∷ ms) h =
        let d = h m (first_of m ms) in
        both _ _ _ _ (sym (ap length d.ends ∙ length-applied (deltas_of deltas shows m) (shows m) d.starts)) (by_list ms (λ n k. h n (later_of m n ms k)))

-- the element at a position is that of the member where the position was found
pub found_there : (shows : ℕ → List Tree) (lists lens : List ℕ) (position : ℕ) (at : Option (ℕ × ℕ)) → lens ≡ map (λ list. length (shows list)) lists
    → IsLocated lens position at → found_in lists shows at ≡ slice_get (composite_view lists shows) position
found_there shows lists lens position None e h = joined_past shows lists lens position e h
found_there shows lists lens position (Some at) e h = joined_found shows lists lens position at.0 at.1 0 e h
