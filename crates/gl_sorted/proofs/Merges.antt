-- The steps in which a sorted list tells its changed elements.
use Rattle.std.proofs.Common.{◌≡◌, ◌∙◌, ◌+◌, ◌-◌, ◌<◌, ◌≤◌, ◌++◌, ℕ, zero, suc, Bool, true, false, List, [], ◌∷◌, length, map, drop, Option, Some, refl, sym, ap, subst, inl, inr, arith}
use Rattle.std.specs.List.{list_any, slice_index_or}
use Rattle.std.proofs.lemmas.Bool.{cases_Bool}
use Rattle.spec_sorting.specs.Tree.{Tree}
use Rattle.spec_sorting.specs.Piece.{Piece, updated, deleted, inserted, old_len, new_len, normal, identity}
use Rattle.spec_sorting.proofs.Normal.{old_len-normal, new_len-normal}
use Rattle.spec_sorting.proofs.DeltaChanges.{old_len-append, new_len-append}
use Rattle.spec_sorting.specs.Source.{element_at}
use Rattle.spec_sorting.specs.Merged.{PairFirst, next_position}
use Rattle.spec_sorting.proofs.Steps.{kept_run, deleted_step, inserted_step, updated_step, kept_end}
use Rattle.gl_kernel.specs.Plans.{CanTell}
use Rattle.gl_kernel.proofs.Spreads.{told_more}
use Rattle.gl_arranged.specs.declared.changed.Ranked.{Ranked}
use Rattle.gl_sorted.specs.declared.leaving.Leaving.{Leaving}
use Rattle.gl_sorted.specs.declared.merged.Told.{Told}
use Rattle.gl_sorted.specs.Leaves.{ranks}
use Rattle.gl_sorted.specs.Merging.{old_spot, new_spot, old_spots_of, new_spots_of, is_kept_at, kept_positions, positions_kept, AreLeft, merged_from}
use Rattle.gl_sorted.specs.Next.{next_leaving, next_ranked, rest_of, IsLeft, GoesOn, IsDeleteNext, IsInsertNext, IsUpdateNext}

-- what was told and what is left are the same in one, and the rest can be told
pub record WentOn (rest out rest_now now : List Piece) : Type 0 where
  pub told : normal (now ++ rest_now) ≡ normal (out ++ rest)
  pub can : CanTell rest_now now

pub went_on : (rest told rest_now out now : List Piece) → rest ≡ told ++ rest_now → now ≡ normal (out ++ told) → CanTell rest out → WentOn rest out rest_now now
went_on rest told rest_now out now are is can = record {
  told = told_more (normal (out ++ rest)) out now told rest_now (ap (λ ps. normal (out ++ ps)) (sym are)) is;
  can = record {
    olds = omega (arith, can.olds, ap old_len are, old_len-append told rest_now, ap old_len is, old_len-normal (out ++ told), old_len-append out told);
    news = omega (arith, can.news, ap new_len are, new_len-append told rest_now, ap new_len is, new_len-normal (out ++ told), new_len-append out told);
  };
}

pub can_prefix : (rest told rest_now out : List Piece) → rest ≡ told ++ rest_now → CanTell rest out → CanTell told out
can_prefix rest told rest_now out are can = record {
  olds = omega (arith, can.olds, ap old_len are, old_len-append told rest_now);
  news = omega (arith, can.news, ap new_len are, new_len-append told rest_now);
}

pub next_old_is : (xs : List Tree) (n : ℕ) (ls : List Leaving) → next_position n (old_spots_of xs ls) ≡ next_leaving n ls
next_old_is xs n [] = refl
next_old_is xs n (l ∷ ls) = refl

pub next_new_is : (all : List Leaving) (ys : List Tree) (n : ℕ) (rs : List Ranked) → next_position n (new_spots_of all ys rs) ≡ next_ranked n rs
next_new_is all ys n [] = refl
next_new_is all ys n (r ∷ rs) = refl

pub drop_rest : {X : Type 0} (xs : List X) (k : ℕ) (x : X) (rest : List X) → drop k xs ≡ x ∷ rest → (drop (k + 1) xs ≡ rest) × (k < length xs) × ((d : X) → slice_index_or xs k d ≡ x)
drop_rest [] zero x rest e = absurd cc
drop_rest [] (suc k) x rest e = absurd cc
drop_rest (y ∷ xs) zero x rest e = (cc, omega arith, λ d. cc)
drop_rest (y ∷ xs) (suc k) x rest e = let h = drop_rest xs k x rest e in let n : suc k + 1 ≡ suc (k + 1) = omega arith in (ap (λ j. drop j (y ∷ xs)) n ∙ h.0, let low = h.1 in omega (arith, low), h.2)

pub head_same : {X : Type 0} (x y : X) (xs ys : List X) → x ∷ xs ≡ y ∷ ys → (x ≡ y) × (xs ≡ ys)
head_same x y xs ys e = (cc, cc)

some_same : (m n : ℕ) → Some m ≡ Some n → m ≡ n
some_same m n e = cc

-- where one of the rest passes a test, one of all does
pub any_left : (test : Leaving → Bool) (all : List Leaving) (k : ℕ) (l : Leaving) (ls : List Leaving) → drop k all ≡ l ∷ ls → test l ≡ true → list_any test all ≡ true
any_left test [] zero l ls e here = absurd cc
any_left test [] (suc k) l ls e here = absurd cc
any_left test (m ∷ all) zero l ls e here = let same : m ≡ l = cc in let first = ap test same ∙ here in rw first refl
any_left test (m ∷ all) (suc k) l ls e here =
    let later = any_left test all k l ls e here in
    elim (cases_Bool (test m)) [
      | inl passes ↦ rw passes refl
      | inr fails ↦ rw fails later
    ]

module _ (xs ys : List Tree) (gone : List Leaving) (came : List Ranked) (out : List Piece) (t : Told) (l : IsLeft xs ys gone came out t) where
  -- a run of elements that are kept
  pub passed : (k : ℕ) (now : List Piece) → t.olds + k ≤ next_leaving (length xs) (drop t.gone gone) → t.news + k ≤ next_ranked (length ys) (drop t.came came) → now ≡ normal (out ++ identity k)
      → GoesOn xs ys gone came out t now (record { olds = t.olds + k; news = t.news + k; gone = t.gone; came = t.came })
  passed k now low high is =
      let gs = drop t.gone gone in
      let cs = drop t.came came in
      let run = kept_run k t.olds (length xs) (old_spots_of xs gs) t.news (length ys) (new_spots_of gone ys cs) l.left.aligned (omega (arith, low, next_old_is xs (length xs) gs)) (omega (arith, high, next_new_is gone ys (length ys) cs)) in
      let on = went_on _ (identity k) _ out now run.0 is l.can in
      record { told = on.told; left = record { left = record { aligned = run.1; kept = l.left.kept }; can = on.can; gone_in = l.gone_in; came_in = l.came_in } }

  pub can_pass : (k : ℕ) → t.olds + k ≤ next_leaving (length xs) (drop t.gone gone) → t.news + k ≤ next_ranked (length ys) (drop t.came came) → CanTell (identity k) out
  can_pass k low high =
      let gs = drop t.gone gone in
      let cs = drop t.came came in
      let run = kept_run k t.olds (length xs) (old_spots_of xs gs) t.news (length ys) (new_spots_of gone ys cs) l.left.aligned (omega (arith, low, next_old_is xs (length xs) gs)) (omega (arith, high, next_new_is gone ys (length ys) cs)) in
      can_prefix _ (identity k) _ out run.0 l.can

  -- the changed elements that are left, by their names
  lefts : (gs : List Leaving) (cs : List Ranked) → drop t.gone gone ≡ gs → drop t.came came ≡ cs → AreLeft xs ys gone t.olds gs t.news cs
  lefts gs cs e f = subst (λ us. AreLeft xs ys gone t.olds us t.news cs) e (subst (AreLeft xs ys gone t.olds (drop t.gone gone) t.news) f l.left)

  rest_is : (gs : List Leaving) (cs : List Ranked) → drop t.gone gone ≡ gs → drop t.came came ≡ cs → rest_of xs ys gone came t ≡ merged_from xs ys gone t.olds gs t.news cs
  rest_is gs cs e f = ap (λ us. merged_from xs ys gone t.olds us t.news (drop t.came came)) e ∙ ap (merged_from xs ys gone t.olds gs t.news) f

  -- from what is left to what is left then, at places that are one further
  goes : (u : Told) (told now : List Piece) (x y : ℕ) (gs : List Leaving) (cs : List Ranked) → rest_of xs ys gone came t ≡ told ++ merged_from xs ys gone x gs y cs → AreLeft xs ys gone x gs y cs
      → x ≡ u.olds → y ≡ u.news → drop u.gone gone ≡ gs → drop u.came came ≡ cs → u.gone ≤ length gone → u.came ≤ length came → now ≡ normal (out ++ told) → GoesOn xs ys gone came out t now u
  goes u told now x y gs cs are left at_x at_y at_gs at_cs gone_in came_in is =
      let on = went_on _ told (merged_from xs ys gone x gs y cs) out now are is l.can in
      let same : merged_from xs ys gone x gs y cs ≡ rest_of xs ys gone came u =
      ap (λ a. merged_from xs ys gone a gs y cs) at_x ∙ (ap (λ b. merged_from xs ys gone u.olds gs b cs) at_y
      ∙ (ap (λ us. merged_from xs ys gone u.olds us u.news cs) (sym at_gs) ∙ ap (merged_from xs ys gone u.olds (drop u.gone gone) u.news) (sym at_cs))) in
      let left_now : AreLeft xs ys gone u.olds (drop u.gone gone) u.news (drop u.came came) =
      subst (AreLeft xs ys gone u.olds (drop u.gone gone) u.news) (sym at_cs) (subst (λ us. AreLeft xs ys gone u.olds us u.news cs) (sym at_gs)
      (subst (λ b. AreLeft xs ys gone u.olds gs b cs) at_y (subst (λ a. AreLeft xs ys gone a gs y cs) at_x left))) in
      record {
        told = ap (λ ps. normal (now ++ ps)) (sym same) ∙ on.told;
        left = record { left = left_now; can = subst (λ ps. CanTell ps now) same on.can; gone_in = gone_in; came_in = came_in };
      }

  pub deleted_goes : (n : IsDeleteNext gone t) (now : List Piece) → now ≡ normal (out ++ deleted (element_at xs n.one.source) ∷ [])
      → GoesOn xs ys gone came out t now (record { olds = t.olds + 1; news = t.news; gone = t.gone + 1; came = t.came })
  deleted_goes n now is =
      let cs = drop t.came came in
      let left = lefts (n.one ∷ n.rest) cs n.are refl in
      let h = drop_rest gone t.gone n.one n.rest n.are in
      let within = h.1 in
      let step = deleted_step t.olds (length xs) (old_spot xs n.one) (old_spots_of xs n.rest) t.news (length ys) (new_spots_of gone ys cs) left.aligned n.at n.goes in
      goes (record { olds = t.olds + 1; news = t.news; gone = t.gone + 1; came = t.came }) (deleted (element_at xs n.one.source) ∷ []) now (suc t.olds) t.news n.rest cs
      (rest_is (n.one ∷ n.rest) cs n.are refl ∙ step.0) (record { aligned = step.1; kept = skip n.one n.rest _ n.goes left.kept }) (omega arith) refl h.0 refl (omega (arith, within)) l.came_in is
    where
      rest_kept : (m : Leaving) (ms : List Leaving) → m.stays ≡ false → kept_positions (m ∷ ms) ≡ kept_positions ms
      rest_kept m ms none = rw none refl

      skip : (m : Leaving) (ms : List Leaving) (ks : List (Option ℕ)) → m.stays ≡ false → kept_positions (m ∷ ms) ≡ ks → kept_positions ms ≡ ks
      skip m ms ks none e = sym (rest_kept m ms none) ∙ e

  pub can_delete : (n : IsDeleteNext gone t) → CanTell (deleted (element_at xs n.one.source) ∷ []) out
  can_delete n =
      let cs = drop t.came came in
      let left = lefts (n.one ∷ n.rest) cs n.are refl in
      let step = deleted_step t.olds (length xs) (old_spot xs n.one) (old_spots_of xs n.rest) t.news (length ys) (new_spots_of gone ys cs) left.aligned n.at n.goes in
      can_prefix _ (deleted (element_at xs n.one.source) ∷ []) _ out (rest_is (n.one ∷ n.rest) cs n.are refl ∙ step.0) l.can

  no_deletion : (gs : List Leaving) → ((m : Leaving) (ms : List Leaving) → gs ≡ m ∷ ms → m.place ≡ t.olds → m.stays ≡ true) → PairFirst t.olds (old_spots_of xs gs)
  no_deletion [] h = tt
  no_deletion (m ∷ ms) h = h m ms refl

  pub inserted_goes : (n : IsInsertNext gone came t) (now : List Piece) → now ≡ normal (out ++ inserted (element_at ys n.one.source) ∷ [])
      → GoesOn xs ys gone came out t now (record { olds = t.olds; news = t.news + 1; gone = t.gone; came = t.came + 1 })
  inserted_goes n now is =
      let gs = drop t.gone gone in
      let left = lefts gs (n.one ∷ n.rest) refl n.are in
      let h = drop_rest came t.came n.one n.rest n.are in
      let within = h.1 in
      let step = inserted_step t.olds (length xs) (old_spots_of xs gs) t.news (length ys) (new_spot gone ys n.one) (new_spots_of gone ys n.rest) left.aligned n.at n.comes (no_deletion gs n.no_delete) in
      goes (record { olds = t.olds; news = t.news + 1; gone = t.gone; came = t.came + 1 }) (inserted (element_at ys n.one.source) ∷ []) now t.olds (suc t.news) gs n.rest
      (rest_is gs (n.one ∷ n.rest) refl n.are ∙ step.0) (record { aligned = step.1; kept = left.kept ∙ ap (map Some) (none_kept n.one.place (ranks n.rest) n.comes) }) refl (omega arith) refl h.0 l.gone_in (omega (arith, within)) is
    where
      none_kept : (p : ℕ) (ps : List ℕ) → is_kept_at gone p ≡ false → positions_kept gone (p ∷ ps) ≡ positions_kept gone ps
      none_kept p ps none = rw none refl

  pub can_insert : (n : IsInsertNext gone came t) → CanTell (inserted (element_at ys n.one.source) ∷ []) out
  can_insert n =
      let gs = drop t.gone gone in
      let left = lefts gs (n.one ∷ n.rest) refl n.are in
      let step = inserted_step t.olds (length xs) (old_spots_of xs gs) t.news (length ys) (new_spot gone ys n.one) (new_spots_of gone ys n.rest) left.aligned n.at n.comes (no_deletion gs n.no_delete) in
      can_prefix _ (inserted (element_at ys n.one.source) ∷ []) _ out (rest_is gs (n.one ∷ n.rest) refl n.are ∙ step.0) l.can

  pub updated_goes : (n : IsUpdateNext gone came t) (now : List Piece) → now ≡ normal (out ++ updated (element_at xs n.old.source) (element_at ys n.new.source) ∷ [])
      → GoesOn xs ys gone came out t now (record { olds = t.olds + 1; news = t.news + 1; gone = t.gone + 1; came = t.came + 1 })
  updated_goes n now is =
      let left = lefts (n.old ∷ n.old_rest) (n.new ∷ n.new_rest) n.olds_are n.news_are in
      let h = drop_rest gone t.gone n.old n.old_rest n.olds_are in
      let k = drop_rest came t.came n.new n.new_rest n.news_are in
      let within = h.1 in
      let within_too = k.1 in
      let step = updated_step t.olds (length xs) (old_spot xs n.old) (old_spots_of xs n.old_rest) t.news (length ys) (new_spot gone ys n.new) (new_spots_of gone ys n.new_rest) left.aligned n.old_at n.old_stays n.new_at n.new_stays in
      goes (record { olds = t.olds + 1; news = t.news + 1; gone = t.gone + 1; came = t.came + 1 }) (updated (element_at xs n.old.source) (element_at ys n.new.source) ∷ []) now (suc t.olds) (suc t.news) n.old_rest n.new_rest
      (rest_is (n.old ∷ n.old_rest) (n.new ∷ n.new_rest) n.olds_are n.news_are ∙ step.0) (record { aligned = step.1; kept = both_kept left.kept }) (omega arith) (omega arith) h.0 k.0 (omega (arith, within)) (omega (arith, within_too)) is
    where
      first : kept_positions (n.old ∷ n.old_rest) ≡ n.old.new ∷ kept_positions n.old_rest
      first = rw n.old_stays refl

      first_too : positions_kept gone (ranks (n.new ∷ n.new_rest)) ≡ n.new.place ∷ positions_kept gone (ranks n.new_rest)
      first_too = rw n.new_stays refl

      both_kept : kept_positions (n.old ∷ n.old_rest) ≡ map Some (positions_kept gone (ranks (n.new ∷ n.new_rest))) → kept_positions n.old_rest ≡ map Some (positions_kept gone (ranks n.new_rest))
      both_kept e = (head_same _ _ _ _ (sym first ∙ (e ∙ ap (map Some) first_too))).1

  pub can_update : (n : IsUpdateNext gone came t) → CanTell (updated (element_at xs n.old.source) (element_at ys n.new.source) ∷ []) out
  can_update n =
      let left = lefts (n.old ∷ n.old_rest) (n.new ∷ n.new_rest) n.olds_are n.news_are in
      let step = updated_step t.olds (length xs) (old_spot xs n.old) (old_spots_of xs n.old_rest) t.news (length ys) (new_spot gone ys n.new) (new_spots_of gone ys n.new_rest) left.aligned n.old_at n.old_stays n.new_at n.new_stays in
      can_prefix _ (updated (element_at xs n.old.source) (element_at ys n.new.source) ∷ []) _ out (rest_is (n.old ∷ n.old_rest) (n.new ∷ n.new_rest) n.olds_are n.news_are ∙ step.0) l.can

-- one step after another
pub goes_both : (xs ys : List Tree) (gone : List Leaving) (came : List Ranked) (out mid more : List Piece) (t u v : Told) → GoesOn xs ys gone came out t mid u → GoesOn xs ys gone came mid u more v → GoesOn xs ys gone came out t more v
goes_both xs ys gone came out mid more t u v l m = record { told = m.told ∙ l.told; left = m.left }

none_left : {X : Type 0} (xs : List X) (k : ℕ) → length xs ≤ k → drop k xs ≡ []
none_left [] zero h = refl
none_left [] (suc k) h = refl
none_left (x ∷ xs) zero h = absurd (omega (arith, h))
none_left (x ∷ xs) (suc k) h = none_left xs k (omega (arith, h))

-- once all changed elements were told, all else is kept
pub record HasEnded (xs ys : List Tree) (gone : List Leaving) (came : List Ranked) (t : Told) : Type 0 where
  pub within : t.olds ≤ length xs
  pub rest : rest_of xs ys gone came t ≡ identity (length xs - t.olds)

pub has_ended : (xs ys : List Tree) (gone : List Leaving) (came : List Ranked) (out : List Piece) (t : Told) → IsLeft xs ys gone came out t → length gone ≤ t.gone → length came ≤ t.came → HasEnded xs ys gone came t
has_ended xs ys gone came out t l gone_all came_all =
    let no_gone = none_left gone t.gone gone_all in
    let no_came = none_left came t.came came_all in
    let left = lefts xs ys gone came out t l [] [] no_gone no_came in
    let onward = left.aligned.old_left.onward in
    record { within = onward; rest = rest_is xs ys gone came out t l [] [] no_gone no_came ∙ (kept_end t.olds (length xs) t.news (length ys) left.aligned).0 }
