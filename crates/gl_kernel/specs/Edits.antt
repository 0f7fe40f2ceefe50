-- Edits of a list, one after another.
use Rattle.std.specs.Prelude.{◌≡◌, ◌+◌, ℕ, suc, ◌<◌, ◌≤◌, List, [], ◌∷◌, length, insert, remove, slice_set}
use Rattle.gl_kernel.specs.declared.log_step.LogStep.{LogStep}
use Rattle.gl_kernel.specs.declared.log_step.LogStep.TheVariants.{Insert, Remove, Set}

module _ {T : Type 0} where
  -- a list with one edit made to it
  abbrev pub edited : LogStep T → List T → List T
  edited (Insert at x) xs = insert xs at x
  edited (Remove at) xs = remove xs at
  edited (Set at x) xs = slice_set xs at x

  -- the place of an edit is one of the list
  abbrev pub IsWithin : LogStep T → List T → Type 0
  IsWithin (Insert at x) xs = at ≤ length xs
  IsWithin (Remove at) xs = at < length xs
  IsWithin (Set at x) xs = at < length xs

  -- a log's edits made to a list, the last one first
  abbrev pub played : List (LogStep T) → List T → List T
  played [] xs = xs
  played (e ∷ es) xs = edited e (played es xs)

  -- each edit of a log finds its place in the list as the edits before it leave it
  abbrev pub AreWithin : List (LogStep T) → List T → Type 0
  AreWithin [] xs = Unit {0}
  AreWithin (e ∷ es) xs = AreWithin es xs × IsWithin e (played es xs)

  -- how many items the edits of a log put in
  abbrev pub insertions : List (LogStep T) → ℕ
  insertions [] = 0
  insertions (Insert at x ∷ es) = suc (insertions es)
  insertions (Remove at ∷ es) = insertions es
  insertions (Set at x ∷ es) = insertions es

  -- the edits of a log can all be made to a list, of which they make another one
  pub record Makes (log : List (LogStep T)) (xs ys : List T) : Type 0 where
    pub within : AreWithin log xs
    pub few : length xs + insertions log ≤ 4294967294
    pub made : played log xs ≡ ys

  -- a list has a place in the room that there is
  pub record Fits (need : List T → ℕ) (room : ℕ) (xs : List T) : Type 0 where
    pub fits : need xs ≤ room
    pub few : length xs ≤ 4294967294

  -- an edit can be made to a list
  pub record CanMake (need : List T → ℕ) (room : ℕ) (e : LogStep T) (xs : List T) : Type 0 where
    pub within : IsWithin e xs
    pub fits : Fits need room (edited e xs)

  -- all edits of a log can be made in turn, from a list that fits
  abbrev pub CanPlay : (List T → ℕ) → ℕ → List (LogStep T) → List T → Type 0
  CanPlay need room [] xs = Fits need room xs
  CanPlay need room (e ∷ es) xs = CanPlay need room es xs × CanMake need room e (played es xs)
