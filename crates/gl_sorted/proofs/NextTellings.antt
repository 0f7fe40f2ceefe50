-- What a sorted list tells next.
use Rattle.std.proofs.Common.{◌≡◌, ◌⊎◌, ◌∙◌, ◌+◌, ◌<◌, ◌==◌, ◌&&◌, ℕ, zero, suc, Bool, true, false, List, [], ◌∷◌, length, map, drop, Some, refl, sym, ap, subst, inl, inr, arith, eq-eqb}
use Rattle.std.specs.List.{slice_get}
use Rattle.std.proofs.lemmas.Bool.{cases_Bool, cases_eq, eqb-true}
use Rattle.std.proofs.lemmas.List.{length-drop}
use Rattle.spec_sorting.specs.Tree.{Tree}
use Rattle.spec_sorting.specs.Piece.{Piece}
use Rattle.spec_sorting.specs.Source.{element_at}
use Rattle.spec_sorting.specs.Ranked.{is_some_position}
use Rattle.spec_sorting.specs.Merged.{Spot, PairFirst, next_position}
use Rattle.spec_sorting.proofs.Steps.{ended_or_both, BothStay}
use Rattle.gl_arranged.specs.declared.changed.Ranked.{Ranked}
use Rattle.gl_sorted.specs.declared.leaving.Leaving.{Leaving}
use Rattle.gl_sorted.specs.declared.merged.Told.{Told}
use Rattle.gl_sorted.specs.declared.merged.Turn.TheVariants.{Delete, Update, Insert}
use Rattle.gl_sorted.specs.Leaves.{ranks}
use Rattle.gl_sorted.specs.Merging.{old_spot, new_spot, old_spots_of, new_spots_of, is_kept_at, kept_positions, positions_kept, AreLeft}
use Rattle.gl_sorted.specs.Next.{next_leaving, next_ranked, turn_of, next_turn, IsLeft, AtChange, IsInsertNext, IsUpdateNext}
use Rattle.gl_sorted.proofs.Merges.{next_old_is, next_new_is, head_same, any_left}

-- what a turn says of the next element of the old list
record IsUpdate (x y : ℕ) (l : Leaving) : Type 0 where
  at : l.place ≡ x
  stays : l.stays ≡ true
  partner : is_some_position y l.new ≡ true

update_is : (x y : ℕ) (l : Leaving) → turn_of (l.place == x) l.stays (is_some_position y l.new) ≡ Update → IsUpdate x y l
update_is x y l e = by (l.place == x) l.stays (is_some_position y l.new) refl refl refl e
  where
    by : (a b c : Bool) → (l.place == x) ≡ a → l.stays ≡ b → is_some_position y l.new ≡ c → turn_of a b c ≡ Update → IsUpdate x y l
    by false b c p q r e = absurd cc
    by true false c p q r e = absurd cc
    by true true false p q r e = absurd cc
    by true true true p q r e = record { at = eqb-true l.place x p; stays = q; partner = r }

-- an insertion is next: the next element of the old list isn't at its place, or it stays and its partner isn't at its own
insert_stays : (x y : ℕ) (l : Leaving) → turn_of (l.place == x) l.stays (is_some_position y l.new) ≡ Insert → l.place ≡ x → l.stays ≡ true
insert_stays x y l e at = by l.stays refl
  where
    by : (b : Bool) → l.stays ≡ b → l.stays ≡ true
    by true q = q
    by false q = absurd (delete_is (sym (turn_is q) ∙ e))
      where
        turn_is : l.stays ≡ false → turn_of (l.place == x) l.stays (is_some_position y l.new) ≡ Delete
        turn_is q = rw (eq-eqb l.place x at, q) refl

        delete_is : Delete ≡ Insert → ⊥
        delete_is f = absurd cc

insert_apart : (x y : ℕ) (l : Leaving) → turn_of (l.place == x) l.stays (is_some_position y l.new) ≡ Insert → l.place ≡ x → l.stays ≡ true → is_some_position y l.new ≡ true → ⊥
insert_apart x y l e at stays partner = update_not (sym turn_is ∙ e)
  where
    turn_is : turn_of (l.place == x) l.stays (is_some_position y l.new) ≡ Update
    turn_is = rw (eq-eqb l.place x at, stays, partner) refl

    update_not : Update ≡ Insert → ⊥
    update_not f = absurd cc

no_spot : (s : Spot) (ss : List Spot) → [] ≡ s ∷ ss → ⊥
no_spot s ss e = absurd cc

some_spot : (s : Spot) (ss : List Spot) → s ∷ ss ≡ [] → ⊥
some_spot s ss e = absurd cc

head_spot : (s u : Spot) (ss us : List Spot) → s ∷ ss ≡ u ∷ us → s ≡ u
head_spot s u ss us e = cc

module _ (xs ys : List Tree) (all : List Leaving) (x y : ℕ) where
  abbrev Change : List Leaving → List Ranked → Type 0
  Change gs cs = (x ≡ next_leaving (length xs) gs) ⊎ (y ≡ next_ranked (length ys) cs)

  at_next : (gs : List Leaving) (cs : List Ranked) → Change gs cs → (x ≡ next_position (length xs) (old_spots_of xs gs)) ⊎ (y ≡ next_position (length ys) (new_spots_of all ys cs))
  at_next gs cs (inl e) = inl (e ∙ sym (next_old_is xs (length xs) gs))
  at_next gs cs (inr e) = inr (e ∙ sym (next_new_is all ys (length ys) cs))

  -- the next elements of both lists are those of an updated pair that stays
  pub record Both (l : Leaving) (r : Ranked) : Type 0 where
    pub old_at : l.place ≡ x
    pub old_stays : l.stays ≡ true
    pub new_at : r.place ≡ y
    pub new_stays : is_kept_at all r.place ≡ true

  both_are : (l : Leaving) (ls : List Leaving) (r : Ranked) (rs : List Ranked) → BothStay x (old_spots_of xs (l ∷ ls)) y (new_spots_of all ys (r ∷ rs)) → Both l r
  both_are l ls r rs b =
      let old : old_spot xs l ≡ b.old = head_spot _ _ _ _ b.gone_is in
      let new : new_spot all ys r ≡ b.new = head_spot _ _ _ _ b.come_is in
      record {
        old_at = ap (λ (s : Spot). s.place) old ∙ b.old_at;
        old_stays = ap (λ (s : Spot). s.stays) old ∙ b.old_stays;
        new_at = ap (λ (s : Spot). s.place) new ∙ b.new_at;
        new_stays = ap (λ (s : Spot). s.stays) new ∙ b.new_stays;
      }

  -- an update is next: the next element of the new list is the partner
  pub partner_next : (l : Leaving) (ls : List Leaving) (cs : List Ranked) → AreLeft xs ys all x (l ∷ ls) y cs → Change (l ∷ ls) cs → l.place ≡ x → l.stays ≡ true → is_kept_at all y ≡ true
      → (r : Ranked) × (rs : List Ranked) × (cs ≡ r ∷ rs) × Both l r
  partner_next l ls [] left at here stays there =
      elim (ended_or_both x (length xs) (old_spots_of xs (l ∷ ls)) y (length ys) [] left.aligned (at_next (l ∷ ls) [] at) (λ e. stays) tt) [
        | inl ended ↦ absurd (some_spot _ _ ended.2)
        | inr b ↦ absurd (no_spot _ _ b.come_is)
      ]
  partner_next l ls (r ∷ rs) left at here stays there =
      elim (ended_or_both x (length xs) (old_spots_of xs (l ∷ ls)) y (length ys) (new_spots_of all ys (r ∷ rs)) left.aligned (at_next (l ∷ ls) (r ∷ rs) at) (λ e. stays) (λ e. ap (is_kept_at all) e ∙ there)) [
        | inl ended ↦ absurd (some_spot _ _ ended.2)
        | inr b ↦ (r, rs, refl, both_are l ls r rs b)
      ]

  no_deletion : (gs : List Leaving) → next_turn x y gs ≡ Insert → PairFirst x (old_spots_of xs gs)
  no_deletion [] e = tt
  no_deletion (l ∷ ls) e = insert_stays x y l e

  -- both next elements are of a pair that stays: then it is one pair
  one_pair : (l : Leaving) (ls : List Leaving) (r : Ranked) (rs : List Ranked) → AreLeft xs ys all x (l ∷ ls) y (r ∷ rs) → Both l r → is_some_position y l.new ≡ true
  one_pair l ls r rs left b =
      let first : kept_positions (l ∷ ls) ≡ l.new ∷ kept_positions ls = old_first b.old_stays in
      let first_too : positions_kept all (ranks (r ∷ rs)) ≡ r.place ∷ positions_kept all (ranks rs) = new_first b.new_stays in
      let same : l.new ≡ Some r.place = (head_same _ _ _ _ (sym first ∙ (left.kept ∙ ap (map Some) first_too))).0 in
      ap (is_some_position y) same ∙ eq-eqb r.place y b.new_at
    where
      old_first : l.stays ≡ true → kept_positions (l ∷ ls) ≡ l.new ∷ kept_positions ls
      old_first e = rw e refl

      new_first : is_kept_at all r.place ≡ true → positions_kept all (ranks (r ∷ rs)) ≡ r.place ∷ positions_kept all (ranks rs)
      new_first e = rw e refl

  -- an insertion is next: the next element of the new list is one that comes
  pub insert_here : (gs : List Leaving) (cs : List Ranked) → AreLeft xs ys all x gs y cs → Change gs cs → next_turn x y gs ≡ Insert → 0 < length gs + length cs
      → (r : Ranked) × (rs : List Ranked) × (cs ≡ r ∷ rs) × (r.place ≡ y) × (is_kept_at all r.place ≡ false)
  insert_here [] [] left at e more = absurd (omega (arith, more))
  insert_here (l ∷ ls) [] left at e more =
      elim (ended_or_both x (length xs) (old_spots_of xs (l ∷ ls)) y (length ys) [] left.aligned (at_next (l ∷ ls) [] at) (no_deletion (l ∷ ls) e) tt) [
        | inl ended ↦ absurd (some_spot _ _ ended.2)
        | inr b ↦ absurd (no_spot _ _ b.come_is)
      ]
  insert_here [] (r ∷ rs) left at e more =
      elim (cases_eq r.place y) [
        | inl here ↦
            elim (cases_Bool (is_kept_at all r.place)) [
              | inr comes ↦ (r, rs, refl, here, comes)
              | inl stays ↦ absurd (neither (λ _. stays))
            ]
        | inr other ↦ absurd (neither (λ here. absurd (other here)))
      ]
    where
      neither : PairFirst y (new_spots_of all ys (r ∷ rs)) → ⊥
      neither first = elim (ended_or_both x (length xs) [] y (length ys) (new_spots_of all ys (r ∷ rs)) left.aligned (at_next [] (r ∷ rs) at) tt first) [
        | inl ended ↦ some_spot _ _ ended.3
        | inr b ↦ no_spot _ _ b.gone_is
      ]
  insert_here (l ∷ ls) (r ∷ rs) left at e more =
      elim (cases_eq r.place y) [
        | inl here ↦
            elim (cases_Bool (is_kept_at all r.place)) [
              | inr comes ↦ (r, rs, refl, here, comes)
              | inl stays ↦ absurd (neither (λ _. stays))
            ]
        | inr other ↦ absurd (neither (λ here. absurd (other here)))
      ]
    where
      neither : PairFirst y (new_spots_of all ys (r ∷ rs)) → ⊥
      neither first = elim (ended_or_both x (length xs) (old_spots_of xs (l ∷ ls)) y (length ys) (new_spots_of all ys (r ∷ rs)) left.aligned (at_next (l ∷ ls) (r ∷ rs) at) (no_deletion (l ∷ ls) e) first) [
        | inl ended ↦ some_spot _ _ ended.2
        | inr b ↦ let both = both_are l ls r rs b in insert_apart x y l e both.old_at both.old_stays (one_pair l ls r rs left both)
      ]

module _ (xs ys : List Tree) (gone : List Leaving) (came : List Ranked) (out : List Piece) (t : Told) (left : IsLeft xs ys gone came out t) (at : AtChange xs ys gone came t) where
  pub update_next : next_turn t.olds t.news (drop t.gone gone) ≡ Update → IsUpdateNext gone came t
  update_next turn = by (drop t.gone gone) refl
    where
      by : (gs : List Leaving) → drop t.gone gone ≡ gs → IsUpdateNext gone came t
      by [] e = absurd (insert_is (sym (ap (next_turn t.olds t.news) e) ∙ turn))
        where
          insert_is : Insert ≡ Update → ⊥
          insert_is f = absurd cc
      by (l ∷ ls) e =
          let is = update_is t.olds t.news l (sym (ap (next_turn t.olds t.news) e) ∙ turn) in
          let mine : AreLeft xs ys gone t.olds (l ∷ ls) t.news (drop t.came came) = subst (λ us. AreLeft xs ys gone t.olds us t.news (drop t.came came)) e left.left in
          let here : (t.olds ≡ next_leaving (length xs) (l ∷ ls)) ⊎ (t.news ≡ next_ranked (length ys) (drop t.came came)) = subst (λ us. (t.olds ≡ next_leaving (length xs) us) ⊎ (t.news ≡ next_ranked (length ys) (drop t.came came))) e at in
          let there : is_kept_at gone t.news ≡ true = any_left (λ m. m.stays && is_some_position t.news m.new) gone t.gone l ls e (both l.stays (is_some_position t.news l.new) is.stays is.partner) in
          let p = partner_next xs ys gone t.olds t.news l ls (drop t.came came) mine here is.at is.stays there in
          record { old = l; old_rest = ls; olds_are = e; old_at = is.at; old_stays = is.stays; old_new = is.partner; new = p.0; new_rest = p.1; news_are = p.2; new_at = p.3.new_at; new_stays = p.3.new_stays }
        where
          both : (a b : Bool) → a ≡ true → b ≡ true → (a && b) ≡ true
          both a b p q = rw (p, q) refl

  pub insert_next : t.gone + t.came < length gone + length came → next_turn t.olds t.news (drop t.gone gone) ≡ Insert → IsInsertNext gone came t
  insert_next more turn =
      let p = insert_here xs ys gone t.olds t.news (drop t.gone gone) (drop t.came came) left.left at turn (omega (arith, more, length-drop t.gone gone, length-drop t.came came, left.gone_in, left.came_in)) in
      record { one = p.0; rest = p.1; are = p.2; at = p.3; comes = p.4; no_delete = λ l ls e here. insert_stays t.olds t.news l (sym (ap (next_turn t.olds t.news) e) ∙ turn) here }

pub value_here : (ys : List Tree) (i : ℕ) (v : Tree) → slice_get ys i ≡ Some v → v ≡ element_at ys i
value_here [] i v e = absurd cc
value_here (y ∷ ys) zero v e = cc
value_here (y ∷ ys) (suc i) v e = value_here ys i v e
