-- Playing a log of edits, and taking it back.
use Rattle.std.specs.Prelude.{◌≡◌, ℕ, zero, suc, ◌+◌, ◌*◌, ◌<◌, ◌≤◌, List, [], ◌∷◌, ◌++◌, length, insert, remove, slice_get, slice_set, Some, refl}
use Rattle.std.proofs.Common.{ap, sym, ◌∙◌, arith, subst}
use Rattle.std.proofs.lemmas.List.Edits.{length-insert, length-remove}
use Rattle.std.proofs.lemmas.List.{length-set}
use Rattle.gl_kernel.specs.declared.log_step.LogStep.{LogStep}
use Rattle.gl_kernel.specs.declared.log_step.LogStep.TheVariants.{Insert, Remove, Set}
use Rattle.gl_kernel.specs.Edits.{edited, IsWithin, played, insertions, AreWithin, Fits, CanMake, CanPlay}

module _ {T : Type 0} where
  pub remove-insert : (xs : List T) (at : ℕ) (x : T) → at ≤ length xs → remove (insert xs at x) at ≡ xs
  remove-insert xs zero x h = refl
  remove-insert [] (suc at) x h = absurd (omega (arith, h))
  remove-insert (y ∷ xs) (suc at) x h = ap (λ ys. y ∷ ys) (remove-insert xs at x (omega (arith, h)))

  pub insert-remove : (xs : List T) (at : ℕ) (x : T) → slice_get xs at ≡ Some x → insert (remove xs at) at x ≡ xs
  insert-remove [] zero x e = cc
  insert-remove [] (suc at) x e = cc
  insert-remove (y ∷ xs) zero x e = cons y x xs e
    where
      cons : (a b : T) (zs : List T) → Some a ≡ Some b → b ∷ zs ≡ a ∷ zs
      cons a b zs f = cc
  insert-remove (y ∷ xs) (suc at) x e = ap (λ ys. y ∷ ys) (insert-remove xs at x e)

  pub set-back : (xs : List T) (at : ℕ) (x y : T) → slice_get xs at ≡ Some x → slice_set (slice_set xs at y) at x ≡ xs
  set-back [] zero x y e = cc
  set-back [] (suc at) x y e = cc
  set-back (z ∷ xs) zero x y e = cons z x xs e
    where
      cons : (a b : T) (zs : List T) → Some a ≡ Some b → b ∷ zs ≡ a ∷ zs
      cons a b zs f = cc
  set-back (z ∷ xs) (suc at) x y e = ap (λ ys. z ∷ ys) (set-back xs at x y e)

  -- a list that fits does so in more room
  pub fits_more : (need : List T → ℕ) (room more : ℕ) (xs ys : List T) → ys ≡ xs → room ≤ more → Fits need room xs → Fits need more ys
  fits_more need room more xs ys e h f =
      let P : List T → Type 0 = λ zs. Fits need more zs in
      subst P (sym e) (record { fits = omega (arith, f.fits, h); few = f.few })

  -- the edit that takes one back can be made where the list fitted before
  pub can_go_back : (need : List T → ℕ) (room more : ℕ) (xs ys : List T) (e : LogStep T) → edited e ys ≡ xs → IsWithin e ys → room ≤ more → Fits need room xs → CanMake need more e ys
  can_go_back need room more xs ys e back within h f = record { within = within; fits = fits_more need room more xs (edited e ys) back h f }

  pub played-append : (es : List (LogStep T)) (e : LogStep T) (xs : List T) → played (es ++ e ∷ []) xs ≡ played es (edited e xs)
  played-append [] e xs = refl
  played-append (d ∷ es) e xs = ap (edited d) (played-append es e xs)

  -- the list that a log is played on fits
  pub fits_first : (need : List T → ℕ) (room : ℕ) (es : List (LogStep T)) (xs : List T) → CanPlay need room es xs → Fits need room xs
  fits_first need room [] xs h = h
  fits_first need room (e ∷ es) xs h = fits_first need room es xs h.0

  -- the last edit of a log can be made, and then the others
  pub can_make_last : (need : List T → ℕ) (room : ℕ) (es : List (LogStep T)) (e : LogStep T) (xs : List T) → CanPlay need room (es ++ e ∷ []) xs → CanMake need room e xs × CanPlay need room es (edited e xs)
  can_make_last need room [] e xs h = (h.1, h.1.fits)
  can_make_last need room (d ∷ es) e xs h =
      let rest = can_make_last need room es e xs h.0 in
      let P : List T → Type 0 = λ zs. CanMake need room d zs in
      (rest.0, (rest.1, subst P (played-append es e xs) h.1))

  -- and the other way round
  pub can_play_last : (need : List T → ℕ) (room : ℕ) (es : List (LogStep T)) (e : LogStep T) (xs : List T) → Fits need room xs → CanMake need room e xs → CanPlay need room es (edited e xs) → CanPlay need room (es ++ e ∷ []) xs
  can_play_last need room [] e xs f m h = (f, m)
  can_play_last need room (d ∷ es) e xs f m h =
      let P : List T → Type 0 = λ zs. CanMake need room d zs in
      (can_play_last need room es e xs f m h.0, subst P (sym (played-append es e xs)) h.1)

  -- in more room too
  pub can_play_more : (need : List T → ℕ) (room more : ℕ) (es : List (LogStep T)) (xs : List T) → room ≤ more → CanPlay need room es xs → CanPlay need more es xs
  can_play_more need room more [] xs h f = fits_more need room more xs xs refl h f
  can_play_more need room more (e ∷ es) xs h f =
      (can_play_more need room more es xs h f.0, record { within = f.1.within; fits = fits_more need room more _ _ refl h f.1.fits })

  -- how much room so many edits may take
  abbrev grown : ℕ → List (LogStep T) → ℕ
  grown growth [] = 0
  grown growth (e ∷ es) = growth + grown growth es

  abbrev Grows : (List T → ℕ) → ℕ → Type 0
  Grows need growth = (e : LogStep T) (xs : List T) → IsWithin e xs → need (edited e xs) ≤ need xs + growth

  need_after : (need : List T → ℕ) (growth : ℕ) → Grows need growth → (es : List (LogStep T)) (xs : List T) → AreWithin es xs → need (played es xs) ≤ need xs + grown growth es
  need_after need growth law [] xs h = omega arith
  need_after need growth law (e ∷ es) xs h = omega (arith, need_after need growth law es xs h.0, law e (played es xs) h.1)

  length_edited : (e : LogStep T) (es : List (LogStep T)) (xs : List T) → IsWithin e xs → length (edited e xs) + insertions es ≤ length xs + insertions (e ∷ es)
  length_edited (Insert at x) es xs h = omega (arith, length-insert xs at x h)
  length_edited (Remove at) es xs h = omega (arith, length-remove xs at h)
  length_edited (Set at x) es xs h = omega (arith, length-set xs at x)

  length_after : (es : List (LogStep T)) (xs : List T) → AreWithin es xs → length (played es xs) ≤ length xs + insertions es
  length_after [] xs h = omega arith
  length_after (e ∷ es) xs h = omega (arith, length_after es xs h.0, length_edited e es (played es xs) h.1)

  few_first : (e : LogStep T) (es : List (LogStep T)) → insertions es ≤ insertions (e ∷ es)
  few_first (Insert at x) es = omega arith
  few_first (Remove at) es = omega arith
  few_first (Set at x) es = omega arith

  -- with room for so many edits, a log whose edits find their places can be played
  with_room : (need : List T → ℕ) (growth room : ℕ) → Grows need growth → (es : List (LogStep T)) (xs : List T) → AreWithin es xs → need xs + grown growth es ≤ room → length xs + insertions es ≤ 4294967294 → CanPlay need room es xs
  with_room need growth room law [] xs h r f = record { fits = omega (arith, r); few = omega (arith, f) }
  with_room need growth room law (e ∷ es) xs h r f = (
    with_room need growth room law es xs h.0 (omega (arith, r)) (omega (arith, f, few_first e es)),
    record {
      within = h.1;
      fits = record {
        fits = omega (arith, r, need_after need growth law es xs h.0, law e (played es xs) h.1);
        few = omega (arith, f, length_after es xs h.0, length_edited e es (played es xs) h.1);
      };
    },
  )

  grown-times : (growth : ℕ) (es : List (LogStep T)) → grown growth es ≡ length es * growth
  grown-times growth [] = omega arith
  grown-times growth (e ∷ es) = ap (λ n. growth + n) (grown-times growth es) ∙ sym (suc-times (length es) growth)
    where
      suc-times : (n g : ℕ) → suc n * g ≡ g + n * g
      suc-times n g = grind arith

  pub can_play_reserved : (need : List T → ℕ) (growth room : ℕ) → Grows need growth → (es : List (LogStep T)) (xs : List T) → AreWithin es xs → need xs + length es * growth ≤ room → length xs + insertions es ≤ 4294967294 → CanPlay need room es xs
  can_play_reserved need growth room law es xs h r f = with_room need growth room law es xs h (omega (arith, r, grown-times growth es)) f
