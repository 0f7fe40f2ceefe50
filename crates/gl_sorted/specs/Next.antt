-- How far a sorted list has told its changed elements, and what it tells next.
use Rattle.std.specs.Prelude.{◌≡◌, ◌⊎◌, ◌==◌, ◌≤◌, ◌++◌, ℕ, Bool, true, false, List, [], ◌∷◌, length, drop}
use Rattle.spec_sorting.specs.Tree.{Tree}
use Rattle.spec_sorting.specs.Piece.{Piece, normal}
use Rattle.spec_sorting.specs.Delta.{Delta}
use Rattle.spec_sorting.specs.Ranked.{is_some_position}
use Rattle.gl_kernel.specs.Plans.{CanTell}
use Rattle.gl_arranged.specs.declared.changed.Ranked.{Ranked}
use Rattle.gl_sorted.specs.declared.leaving.Leaving.{Leaving}
use Rattle.gl_sorted.specs.declared.merged.Told.{Told}
use Rattle.gl_sorted.specs.declared.merged.Turn.{Turn}
use Rattle.gl_sorted.specs.declared.merged.Turn.TheVariants.{Delete, Update, Insert}
use Rattle.gl_sorted.specs.Merging.{AreLeft, merged_from, is_kept_at}

-- where the next changed element stands; the end, where there is none
abbrev pub next_leaving : ℕ → List Leaving → ℕ
next_leaving n [] = n
next_leaving n (l ∷ ls) = l.place

abbrev pub next_ranked : ℕ → List Ranked → ℕ
next_ranked n [] = n
next_ranked n (r ∷ rs) = r.place

-- what is told next at these places
abbrev pub turn_of : Bool → Bool → Bool → Turn
turn_of false stays partner = Insert
turn_of true false partner = Delete
turn_of true true true = Update
turn_of true true false = Insert

abbrev pub next_turn : ℕ → ℕ → List Leaving → Turn
next_turn old new [] = Insert
next_turn old new (l ∷ ls) = turn_of (l.place == old) l.stays (is_some_position new l.new)

-- what there is left to tell
abbrev pub rest_of : List Tree → List Tree → List Leaving → List Ranked → Told → Delta
rest_of xs ys gone came t =
    merged_from xs ys gone t.olds (drop t.gone gone) t.news (drop t.came came)

-- so much was told, and the rest can be
pub record IsLeft (xs ys : List Tree) (gone : List Leaving) (came : List Ranked) (out : List Piece)
    (t : Told) : Type 0 where
  pub left : AreLeft xs ys gone t.olds (drop t.gone gone) t.news (drop t.came came)
  pub can : CanTell (rest_of xs ys gone came t) out
  pub gone_in : t.gone ≤ length gone
  pub came_in : t.came ≤ length came

-- more was told, and what was told and what is left are the same in one
pub record GoesOn (xs ys : List Tree) (gone : List Leaving) (came : List Ranked) (out : List Piece)
    (t : Told) (more : List Piece) (u : Told) : Type 0 where
  pub told : normal (more ++ rest_of xs ys gone came u) ≡ normal (out ++ rest_of xs ys gone came t)
  pub left : IsLeft xs ys gone came more u

-- no more elements are kept before a change of the one list or of the other
abbrev pub AtChange : List Tree → List Tree → List Leaving → List Ranked → Told → Type 0
AtChange xs ys gone came t =
    (t.olds ≡ next_leaving (length xs) (drop t.gone gone)) ⊎ (t.news
    ≡ next_ranked (length ys) (drop t.came came))

-- an element of the old list is next, and goes
pub record IsDeleteNext (gone : List Leaving) (t : Told) : Type 0 where
  pub one : Leaving
  pub rest : List Leaving
  pub are : drop t.gone gone ≡ one ∷ rest
  pub at : one.place ≡ t.olds
  pub goes : one.stays ≡ false

-- an element of the new list is next that comes, and no element of the old list that goes
pub record IsInsertNext (gone : List Leaving) (came : List Ranked) (t : Told) : Type 0 where
  pub one : Ranked
  pub rest : List Ranked
  pub are : drop t.came came ≡ one ∷ rest
  pub at : one.place ≡ t.news
  pub comes : is_kept_at gone one.place ≡ false
  pub no_delete : (l : Leaving) (ls : List Leaving) → drop t.gone gone ≡ l ∷ ls → l.place ≡ t.olds
      → l.stays ≡ true

-- the elements of an updated pair are next that stays
pub record IsUpdateNext (gone : List Leaving) (came : List Ranked) (t : Told) : Type 0 where
  pub old : Leaving
  pub old_rest : List Leaving
  pub olds_are : drop t.gone gone ≡ old ∷ old_rest
  pub old_at : old.place ≡ t.olds
  pub old_stays : old.stays ≡ true
  pub old_new : is_some_position t.news old.new ≡ true
  pub new : Ranked
  pub new_rest : List Ranked
  pub news_are : drop t.came came ≡ new ∷ new_rest
  pub new_at : new.place ≡ t.news
  pub new_stays : is_kept_at gone new.place ≡ true
