-- What one step of telling the touched keys does.
use Rattle.std.proofs.Common.{◌≡◌, ◌∙◌, ℕ, suc, ◌+◌, ◌-◌, ◌<◌, ◌≤◌, Bool, true, false, List, [], ◌∷◌, length, drop, refl, ap, sym, subst, arith, inl, inr}
use Rattle.std.specs.Prelude.{Option, Some, None, slice_get, option_map, unwrap_or, if◌then◌else◌}
use Rattle.std.specs.List.{list_all, AllByRecursion as Each}
use Rattle.std.specs.Cmp.{IsTotalOrder, tied_back}
use Rattle.std.specs.declared.cmp.Ordering.TheVariants.{Equal}
use Rattle.std.proofs.lemmas.Bool.{cases_order, eqb-true, lt-ltb, ltb-true}
use Rattle.std.proofs.lemmas.List.{length-append}
use Rattle.std.proofs.lemmas.Option.{slice_get_within}
use Rattle.spec_sorting.specs.Tree.{Tree}
use Rattle.spec_sorting.specs.Delta.{Delta}
use Rattle.spec_sorting.specs.Piece.{old_len}
use Rattle.spec_sorting.specs.Pairs.{pairs}
use Rattle.spec_sorting.specs.Leads.{LeadsFrom, applied, undone}
use Rattle.spec_sorting.specs.Source.{element_at}
use Rattle.spec_sorting.specs.Arrangement.{Comparison, arrangement}
use Rattle.spec_sorting.proofs.Arrangements.{arrangement_is}
use Rattle.spec_sorting.proofs.DeltaLeads.{leads_back_to, length-applied, length_from}
use Rattle.spec_sorting.proofs.SortedPositions.{In}
use Rattle.spec_classes.specs.Classes.{Class, first_of, classes, is_kept_old, is_kept_new, is_plain_pair, keeps_members}
use Rattle.spec_classes.specs.Members.{joined, IsClass}
use Rattle.spec_classes.specs.Meetings.{of_key, meets, meetings, meetings_by}
use Rattle.spec_classes.specs.Slots.{read_after, slots, slots_from}
use Rattle.spec_classes.specs.Told.{is_still}
use Rattle.spec_classes.specs.declared.First.{First}
use Rattle.spec_classes.specs.declared.First.TheVariants.{Gone, Plain}
use Rattle.spec_classes.proofs.Members.{are_classes}
use Rattle.spec_classes.proofs.Keys.{key_tied, IsWhole, member_is}
use Rattle.spec_classes.proofs.PlainPairs.{partner_of_old, partner_of_new, plain_one, plain_order, kept_by_new, still_plain}
use Rattle.gl_arranged.specs.Sorting.{order_cmp}
use Rattle.gl_arranged.proofs.Sortings.{order_cmp_total}
use Rattle.gl_classes.specs.declared.touched.Touched.{Touched}
use Rattle.gl_classes.specs.declared.slots.Cursor.{Cursor}
use Rattle.gl_classes.specs.Kept.{Kept}
use Rattle.gl_classes.specs.Sides.{IsOld, IsNew, IsPlainNew, AreSides, IsAt, slots_left, next_at, alone, Walks, HasMore, gap_to, gap, IsFewer, ArePassed, IsTold, AreMet, how_many, at_place, plain_first, IsPlaceIn, HasPlain, old_first}
use Rattle.gl_classes.proofs.BothSides.{each_at, some_same}
use Rattle.gl_classes.proofs.Gaps.{some_number, none_some, fewer_low, fewer_low_too, fewer_is, is_gap}
use Rattle.gl_classes.proofs.TouchedLists.{get_here, AreToldTo, next_ahead, told_touched, told_free, next_free, IsNextAt, next_is, next_here, alone_is}
use Rattle.gl_classes.proofs.Walk.{head_holds, first_in, old_whole, new_whole, AreNext, both_next, at_both, left_both, free_old, free_new, skip, all_told, goes_alone, old_any, new_any, comes_alone, cursor_same, first_fails, second_fails, further}

true_false : true ≡ false → ⊥
true_false e = absurd cc

-- there are no more classes than elements
joined_more : (compare : Comparison) (xs : List Tree) (cs : List Class) → Each (IsClass compare xs) cs → length cs ≤ length (joined cs)
joined_more compare xs [] each = omega arith
joined_more compare xs (c ∷ cs) each =
    let more = joined_more compare xs cs each.1 in
    let long : length c ≡ suc (length each.0.others) = ap length each.0.are in
    omega (arith, more, long, length-append c (joined cs))

pub few_classes : (compare : Comparison) → IsTotalOrder compare → (xs : List Tree) → length (classes compare xs) ≤ length xs
few_classes compare o xs =
    let a = are_classes compare o xs in
    let more = joined_more compare xs (classes compare xs) a.each in
    omega (arith, more, ap length a.whole, (arrangement_is compare o xs).long)

read_plain : (f : First) (j : ℕ) → is_still f j ≡ true → f ≡ Plain j
read_plain (Gone i) j e = absurd cc
read_plain (Plain k) j e = ap Plain (eqb-true k j e)

module _ (k : Kept) (ys : List Tree) (d : Delta) (olds news : List Touched) (a : Cursor) (w : Walks k ys d olds news a) where
  abbrev pub compare : Comparison
  compare = order_cmp k.list.order

  pub o : IsTotalOrder compare
  o = order_cmp_total k.list.order

  abbrev pub xs : List Tree
  xs = undone d ys

  pub leads : LeadsFrom d xs
  leads = (leads_back_to d ys w.leads).0

  pub ends : applied d xs ≡ ys
  ends = (leads_back_to d ys w.leads).1

  abbrev pub S : AreSides compare xs ys d olds news
  S = w.sides

  pub few_old : length (classes compare xs) ≤ old_len d
  few_old = let few = few_classes compare o xs in omega (arith, few, length_from d xs leads)

  -- the classes before the next touched one are passed
  pub passed : (q r : Option ℕ) (n : ℕ) (b : Cursor) → HasMore olds news a → (q ≡ gap olds a.gone a.olds) × (r ≡ gap news a.came a.news) → IsFewer q r n
      → (b.olds ≡ a.olds + n) × (b.news ≡ a.news + n) → (b.gone ≡ a.gone) × (b.came ≡ a.came) → ArePassed k ys d olds news a b
  passed q r n b more are fewer numbers same =
      let h = w.stands_at in
      let go = skip compare o d xs ys leads ends olds news S n a b h numbers.0 numbers.1 same.0 same.1
      (λ t at. let low = fewer_low q r n (t.class - a.olds) fewer (are.0 ∙ ap (gap_to a.olds) at) in
      let ahead = next_ahead olds S.olds_rise a.gone a.olds h.olds_told t at in omega (arith, low, ahead))
      (λ u at. let low = fewer_low_too q r n (u.class - a.news) fewer (are.1 ∙ ap (gap_to a.news) at) in
      let ahead = next_ahead news S.news_rise a.came a.news h.news_told u at in omega (arith, low, ahead))
      more in
      record {
        left = go.same;
        at_next = go.at;
        touched = elim (fewer_is q r n fewer (λ none none_too. elim more [
          | inl less ↦ let t = get_here olds a.gone less in none_some _ (sym none ∙ (are.0 ∙ ap (gap_to a.olds) t.1))
          | inr less ↦ let u = get_here news a.came less in none_some _ (sym none_too ∙ (are.1 ∙ ap (gap_to a.news) u.1))
        ])) [
          | inl e ↦
              let g = is_gap olds a.gone a.olds n (sym are.0 ∙ e) in
              let ahead = next_ahead olds S.olds_rise a.gone a.olds h.olds_told g.one g.at in
              inl (g.one, ap (slice_get olds) same.0 ∙ g.at, omega (arith, ahead, g.is, numbers.0))
          | inr e ↦
              let g = is_gap news a.came a.news n (sym are.1 ∙ e) in
              let ahead = next_ahead news S.news_rise a.came a.news h.news_told g.one g.at in
              inr (g.one, ap (slice_get news) same.1 ∙ g.at, omega (arith, ahead, g.is, numbers.1))
        ];
        gone = same.0;
        came = same.1;
      }

  -- a class of the old list goes
  pub told_goes : (n : ℕ) (b : Cursor) → alone (next_at olds a.gone a.olds) ≡ Some n → (b.olds ≡ suc a.olds) × (b.news ≡ a.news) → (b.gone ≡ suc a.gone) × (b.came ≡ a.came)
      → IsTold k ys d olds news a (record { old = Some (record { index = a.olds; first = Gone n }); new = None }) b
  told_goes n b e numbers same =
      let f = alone_is (next_at olds a.gone a.olds) n e in
      let g = goes_alone compare o d xs ys leads ends olds news S a b f.0 w.stands_at (next_is olds a.gone a.olds f.0 f.1) f.2.goes numbers.0 numbers.1 same.0 same.1 in
      record {
        left = g.same ∙ ap (λ i. record { old = Some (record { index = a.olds; first = Gone i }); new = None } ∷ slots_left compare xs ys d b) f.2.source_is;
        at_next = g.at;
        further = omega (arith, same.0, same.1);
      }

  -- one of the new list comes
  pub told_comes : (n : ℕ) (b : Cursor) → alone (next_at olds a.gone a.olds) ≡ None → alone (next_at news a.came a.news) ≡ Some n
      → (b.olds ≡ a.olds) × (b.news ≡ suc a.news) → (b.gone ≡ a.gone) × (b.came ≡ suc a.came)
      → IsTold k ys d olds news a (record { old = None; new = Some (record { index = a.news; first = n }) }) b
  told_comes n b none e numbers same =
      let f = alone_is (next_at news a.came a.news) n e in
      let g = comes_alone compare o d xs ys leads ends olds news S a b f.0 w.stands_at none (next_is news a.came a.news f.0 f.1) f.2.goes numbers.0 numbers.1 same.0 same.1 in
      record {
        left = g.same ∙ ap (λ i. record { old = None; new = Some (record { index = a.news; first = i }) } ∷ slots_left compare xs ys d b) f.2.source_is;
        at_next = g.at;
        further = omega (arith, same.0, same.1);
      }

  module _ (gone came : Option Touched) (m : AreMet olds news a gone came) where
    pub meeting : AreNext compare o d xs ys leads ends olds news S a
    meeting =
        both_next compare o d xs ys leads ends olds news S a w.stands_at
        (old_any compare o d xs ys leads ends olds news S a w.stands_at (sym (ap alone m.gone_is) ∙ m.old_stays))
        (new_any compare o d xs ys leads ends olds news S a w.stands_at (sym (ap alone m.came_is) ∙ m.new_stays))
        (elim m.touched [
          | inl t ↦
              let i = each_at (IsOld compare xs ys d) olds a.gone t.0 S.olds_are t.1 in
              let within = slice_get_within (classes compare xs) t.0.class i.class i.at in
              inl (omega (arith, within, t.2))
          | inr u ↦
              let i = each_at (IsNew compare xs ys d) news a.came u.0 S.news_are u.1 in
              let within = slice_get_within (classes compare ys) u.0.class i.class i.at in
              inr (omega (arith, within, u.2))
        ])

    abbrev pub c : Class
    c = meeting.old

    abbrev pub e : Class
    e = meeting.new

    whole : IsWhole compare o xs c
    whole = old_whole compare o d xs ys leads ends a.olds c meeting.old_at

    whole_too : IsWhole compare o ys e
    whole_too = new_whole compare o d xs ys leads ends a.news e meeting.new_at

    changed : keeps_members (pairs d) c e ≡ false
    changed = elim m.touched [
      | inl t ↦
          let i = each_at (IsOld compare xs ys d) olds a.gone t.0 S.olds_are t.1 in
          let same : i.class ≡ c = some_same i.class c (sym i.at ∙ (ap (slice_get (classes compare xs)) t.2 ∙ meeting.old_at)) in
          first_fails (list_all (is_kept_old (pairs d)) c) (list_all (is_kept_new (pairs d)) e) (sym (ap (list_all (is_kept_old (pairs d))) same) ∙ i.changed)
      | inr u ↦
          let i = each_at (IsNew compare xs ys d) news a.came u.0 S.news_are u.1 in
          let same : i.class ≡ e = some_same i.class e (sym i.at ∙ (ap (slice_get (classes compare ys)) u.2 ∙ meeting.new_at)) in
          second_fails (list_all (is_kept_old (pairs d)) c) (list_all (is_kept_new (pairs d)) e) (sym (ap (list_all (is_kept_new (pairs d))) same) ∙ i.changed)
    ]

    pub first_is : (first : ℕ) → Some first ≡ option_map first_of (slice_get (classes compare ys) a.news) → first ≡ first_of e
    first_is first is = some_number first (first_of e) (is ∙ ap (option_map first_of) meeting.new_at)

    -- a member of the new class has its plain partner in the old one
    least : (i j l : ℕ) → is_plain_pair (pairs d) (first_of c) i ≡ true → is_kept_new (pairs d) j ≡ true → In j e → j ≤ i → j ≡ i
    least i j l plain kept member low =
        let q = partner_of_new (pairs d) j kept in
        let back = plain_one d xs leads q.0 j q.1 in
        let tied : compare (element_at xs (first_of c)) (element_at ys (first_of e)) ≡ Equal = key_tied _ meeting.one_key in
        let same : element_at xs q.0 ≡ element_at ys j = back.same ∙ ap (λ zs. element_at zs j) ends in
        let in_old : compare (element_at xs (first_of c)) (element_at xs q.0) ≡ Equal =
        ap (compare (element_at xs (first_of c))) same ∙ (o.congr _ _ (element_at ys j) tied ∙ (member_is compare o ys e whole_too.class j member).tied) in
        let low_too = (member_is compare o xs c whole.class q.0 (whole.full q.0 (omega (arith, back.old_within, length_from d xs leads)) in_old)).low in
        let order = plain_order d q.0 j (first_of c) i q.1 plain in
        elim (cases_order j i) [
          | inl is ↦ is
          | inr (inl less) ↦ let before : q.0 < first_of c = ltb-true q.0 (first_of c) (order.side ∙ lt-ltb j i less) in absurd (omega (arith, before, low_too))
          | inr (inr more) ↦ absurd (omega (arith, more, low))
        ]

    -- the partner of the first member of the old class is in the new one
    in_new : (i : ℕ) → is_plain_pair (pairs d) (first_of c) i ≡ true → In i e
    in_new i plain =
        let there = plain_one d xs leads (first_of c) i plain in
        let tied : compare (element_at xs (first_of c)) (element_at ys (first_of e)) ≡ Equal = key_tied _ meeting.one_key in
        let same : element_at xs (first_of c) ≡ element_at ys i = there.same ∙ ap (λ zs. element_at zs i) ends in
        let tied_too : compare (element_at ys (first_of e)) (element_at ys i) ≡ Equal =
        ap (compare (element_at ys (first_of e))) (sym same) ∙ tied_back o _ _ tied in
        whole_too.full i (omega (arith, there.new_within, length-applied d xs leads, ap length ends)) tied_too

    plain_told : (first : ℕ) → first ≡ first_of e → (i : ℕ) → is_plain_pair (pairs d) (first_of c) i ≡ true → plain_first k.list.tree.places first came ≡ i
    plain_told first is i plain = ap (plain_first k.list.tree.places first) m.came_is ∙ by (next_at news a.came a.news) refl
      where
        member : In i e
        member = in_new i plain

        kept : is_kept_new (pairs d) i ≡ true
        kept = kept_by_new (pairs d) (first_of c) i plain

        by : (q : Option Touched) → next_at news a.came a.news ≡ q → plain_first k.list.tree.places first q ≡ i
        by None n =
            let all = free_new compare o d xs ys leads ends olds news S a w.stands_at (next_free news S.news_rise a.came a.news w.stands_at.news_told n) e meeting.new_at in
            let head = head_holds (is_kept_new (pairs d)) e whole_too.class.first whole_too.class.others whole_too.class.are all in
            let low = (member_is compare o ys e whole_too.class i member).low in
            is ∙ least i (first_of e) 0 plain head (first_in e whole_too.class.first whole_too.class.others whole_too.class.are) low
        by (Some u) n = at u.plain refl
          where
            next : IsNextAt news a.came a.news u
            next = next_is news a.came a.news u n

            i_is : IsNew compare xs ys d u
            i_is = each_at (IsNew compare xs ys d) news a.came u S.news_are next.at

            same : i_is.class ≡ e
            same = some_same i_is.class e (sym i_is.at ∙ (ap (slice_get (classes compare ys)) next.is ∙ meeting.new_at))

            plain_is : (q : Option ℕ) → u.plain ≡ q → IsPlainNew compare ys d e q
            plain_is q f = subst (IsPlainNew compare ys d e) f (subst (λ b. IsPlainNew compare ys d b u.plain) same i_is.plain_is)

            at : (q : Option ℕ) → u.plain ≡ q → at_place k.list.tree.places first u.plain ≡ i
            at None f = absurd (true_false (sym kept ∙ plain_is None f i member))
            at (Some place) f =
                let p = plain_is (Some place) f in
                ap (at_place k.list.tree.places first) f
                ∙ (ap (λ t. unwrap_or t first) (ap (λ js. slice_get js place) w.stands.list.places ∙ p.1) ∙ least i p.0 0 plain p.3 p.2 (p.4 i member kept))

    has_plain : HasPlain (length k.list.tree.places) came
    has_plain = subst (HasPlain (length k.list.tree.places)) (sym m.came_is) (by (next_at news a.came a.news) refl)
      where
        by : (q : Option Touched) → next_at news a.came a.news ≡ q → HasPlain (length k.list.tree.places) q
        by None n = tt
        by (Some u) n = at u.plain refl
          where
            i_is : IsNew compare xs ys d u
            i_is = each_at (IsNew compare xs ys d) news a.came u S.news_are (next_is news a.came a.news u n).at

            at : (q : Option ℕ) → u.plain ≡ q → IsPlaceIn (length k.list.tree.places) u.plain
            at None f = subst (IsPlaceIn (length k.list.tree.places)) (sym f) tt
            at (Some place) f =
                let p : IsPlainNew compare ys d i_is.class (Some place) = subst (IsPlainNew compare ys d i_is.class) f i_is.plain_is in
                let within = slice_get_within (arrangement compare ys) place p.0 p.1 in
                subst (IsPlaceIn (length k.list.tree.places)) (sym f) (omega (arith, within, ap length w.stands.list.places))

    pub plain_there : HasPlain (length k.list.tree.places) came
    plain_there = has_plain

    -- the first member of the old class, read after the change
    old_told : (first : ℕ) → first ≡ first_of e → old_first k.list.tree.places first gone came ≡ read_after d (first_of c)
    old_told first is = ap (λ q. old_first k.list.tree.places first q came) m.gone_is ∙ by (next_at olds a.gone a.olds) refl
      where
        when_kept : is_kept_old (pairs d) (first_of c) ≡ true → Plain (plain_first k.list.tree.places first came) ≡ read_after d (first_of c)
        when_kept kept =
            let p = partner_of_old (pairs d) (first_of c) kept in
            ap Plain (plain_told first is p.0 p.1) ∙ sym (read_plain (read_after d (first_of c)) p.0 (still_plain d (first_of c) p.0 ∙ p.1))

        by : (q : Option Touched) → next_at olds a.gone a.olds ≡ q → old_first k.list.tree.places first q came ≡ read_after d (first_of c)
        by None n =
            let all = free_old compare o d xs ys leads ends olds news S a w.stands_at (next_free olds S.olds_rise a.gone a.olds w.stands_at.olds_told n) c meeting.old_at in
            when_kept (head_holds (is_kept_old (pairs d)) c whole.class.first whole.class.others whole.class.are all)
        by (Some t) n = at t.first refl
          where
            next : IsNextAt olds a.gone a.olds t
            next = next_is olds a.gone a.olds t n

            i_is : IsOld compare xs ys d t
            i_is = each_at (IsOld compare xs ys d) olds a.gone t S.olds_are next.at

            same : i_is.class ≡ c
            same = some_same i_is.class c (sym i_is.at ∙ (ap (slice_get (classes compare xs)) next.is ∙ meeting.old_at))

            at : (b : Bool) → t.first ≡ b → old_first k.list.tree.places first (Some t) came ≡ read_after d (first_of c)
            at true f =
                ap (λ b. if b then Gone t.source else Plain (plain_first k.list.tree.places first came)) f
                ∙ (sym (i_is.first_changed f) ∙ ap (λ b. read_after d (first_of b)) same)
            at false f =
                ap (λ b. if b then Gone t.source else Plain (plain_first k.list.tree.places first came)) f
                ∙ when_kept (ap (λ b. is_kept_old (pairs d) (first_of b)) (sym same) ∙ i_is.first_kept f)

    told_old : (g : ℕ) → g ≡ a.gone + how_many gone → AreToldTo olds g (suc a.olds) × (g ≤ length olds)
    told_old g is = by (next_at olds a.gone a.olds) refl
      where
        by : (q : Option Touched) → next_at olds a.gone a.olds ≡ q → AreToldTo olds g (suc a.olds) × (g ≤ length olds)
        by None n =
            let g_is : a.gone ≡ g = omega (arith, is, ap how_many (m.gone_is ∙ n)) in
            subst (λ l. AreToldTo olds l (suc a.olds) × (l ≤ length olds)) g_is
            (told_free olds S.olds_rise a.gone a.olds w.stands_at.olds_told (next_free olds S.olds_rise a.gone a.olds w.stands_at.olds_told n), w.stands_at.gone_in)
        by (Some t) n =
            let next = next_is olds a.gone a.olds t n in
            let within = slice_get_within olds a.gone t next.at in
            let g_is : suc a.gone ≡ g = omega (arith, is, ap how_many (m.gone_is ∙ n)) in
            subst (λ l. AreToldTo olds l (suc a.olds) × (l ≤ length olds)) g_is
            (told_touched olds S.olds_rise a.gone a.olds w.stands_at.olds_told t next.at next.is, omega (arith, within))

    told_new : (g : ℕ) → g ≡ a.came + how_many came → AreToldTo news g (suc a.news) × (g ≤ length news)
    told_new g is = by (next_at news a.came a.news) refl
      where
        by : (q : Option Touched) → next_at news a.came a.news ≡ q → AreToldTo news g (suc a.news) × (g ≤ length news)
        by None n =
            let g_is : a.came ≡ g = omega (arith, is, ap how_many (m.came_is ∙ n)) in
            subst (λ l. AreToldTo news l (suc a.news) × (l ≤ length news)) g_is
            (told_free news S.news_rise a.came a.news w.stands_at.news_told (next_free news S.news_rise a.came a.news w.stands_at.news_told n), w.stands_at.came_in)
        by (Some u) n =
            let next = next_is news a.came a.news u n in
            let within = slice_get_within news a.came u next.at in
            let g_is : suc a.came ≡ g = omega (arith, is, ap how_many (m.came_is ∙ n)) in
            subst (λ l. AreToldTo news l (suc a.news) × (l ≤ length news)) g_is
            (told_touched news S.news_rise a.came a.news w.stands_at.news_told u next.at next.is, omega (arith, within))

    -- two of one key meet
    pub told_met : (first : ℕ) (f : First) (b : Cursor) → Some first ≡ option_map first_of (slice_get (classes compare ys) a.news)
        → f ≡ old_first k.list.tree.places first gone came → (b.olds ≡ suc a.olds) × (b.news ≡ suc a.news) → (b.gone ≡ a.gone + how_many gone) × (b.came ≡ a.came + how_many came)
        → IsTold k ys d olds news a (record { old = Some (record { index = a.olds; first = f }); new = Some (record { index = a.news; first = first }) }) b
    told_met first f b is f_is numbers same =
        let n = meeting in
        let first_of_e = first_is first is in
        let z : Cursor = further compare o d xs ys leads ends olds news S b.gone b.came a in
        let z_is : z ≡ b = cursor_same z b (sym numbers.0) (sym numbers.1) refl refl in
        let told_one = told_old b.gone same.0 in
        let told_two = told_new b.came same.1 in
        record {
          left = left_both compare o d xs ys leads ends olds news S a w.stands_at n
              ∙ (loud z changed
              ∙ (ap (λ r. record { old = Some (record { index = a.olds; first = r }); new = Some (record { index = a.news; first = first_of e }) } ∷ slots_left compare xs ys d z) (sym (f_is ∙ old_told first first_of_e))
              ∙ (ap (λ r. record { old = Some (record { index = a.olds; first = f }); new = Some (record { index = a.news; first = r }) } ∷ slots_left compare xs ys d z) (sym first_of_e)
              ∙ ap (λ r. record { old = Some (record { index = a.olds; first = f }); new = Some (record { index = a.news; first = first }) } ∷ slots_left compare xs ys d r) z_is)));
          at_next = subst (IsAt compare xs ys olds news) z_is (at_both compare o d xs ys leads ends olds news S a w.stands_at n b.gone b.came told_one.1 told_two.1 told_one.0 told_two.0);
          further = elim m.touched [
            | inl t ↦ omega (arith, same.0, same.1, ap how_many (m.gone_is ∙ next_here olds a.gone a.olds t.0 (record { at = t.1; is = t.2 })))
            | inr u ↦ omega (arith, same.0, same.1, ap how_many (m.came_is ∙ next_here news a.came a.news u.0 (record { at = u.1; is = u.2 })))
          ];
        }
      where
        loud : (z : Cursor) → keeps_members (pairs d) c e ≡ false
            → slots_from d a.olds a.news (meets c e ∷ meetings_by (of_key compare xs ys) (drop (suc a.olds) (classes compare xs)) (drop (suc a.news) (classes compare ys)))
            ≡ record { old = Some (record { index = a.olds; first = read_after d (first_of c) }); new = Some (record { index = a.news; first = first_of e }) }
            ∷ slots_from d (suc a.olds) (suc a.news) (meetings_by (of_key compare xs ys) (drop (suc a.olds) (classes compare xs)) (drop (suc a.news) (classes compare ys)))
        loud z k = rw k refl

  -- what is left in the end
  pub end_left : length olds ≤ a.gone → length news ≤ a.came → slots_left compare xs ys d a ≡ []
  end_left past past_too =
      all_told compare o d xs ys leads ends olds news S (length (classes compare xs) - a.olds) a w.stands_at (let in_old = w.stands_at.old_in in omega (arith, in_old)) past past_too

  -- and in the beginning
  pub begin_left : a.olds ≡ 0 → a.news ≡ 0 → slots_left compare xs ys d a ≡ slots compare xs d
  begin_left x_is y_is =
      ap (λ x. slots_from d x a.news (meetings_by (of_key compare xs ys) (drop x (classes compare xs)) (drop a.news (classes compare ys)))) x_is
      ∙ (ap (λ y. slots_from d 0 y (meetings_by (of_key compare xs ys) (classes compare xs) (drop y (classes compare ys)))) y_is
      ∙ ap (λ zs. slots_from d 0 0 (meetings compare xs zs)) (sym ends))

pub begin_at : (compare : Comparison) (xs ys : List Tree) (olds news : List Touched) → IsAt compare xs ys olds news (record { olds = 0; news = 0; gone = 0; came = 0 })
begin_at compare xs ys olds news = record {
  together = λ p q c e at_p at_q key. ((λ less. absurd (omega (arith, less))), (λ less. absurd (omega (arith, less))));
  gone_in = omega arith;
  came_in = omega arith;
  old_in = omega arith;
  new_in = omega arith;
  olds_told = λ t k at. ((λ less. absurd (omega (arith, less))), (λ less. absurd (omega (arith, less))));
  news_told = λ u k at. ((λ less. absurd (omega (arith, less))), (λ less. absurd (omega (arith, less))));
}
