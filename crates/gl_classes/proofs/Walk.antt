-- How the touched keys are told from the touched classes of both lists, step by step.
use Rattle.std.proofs.Common.{◌≡◌, ◌∙◌, ◌⊎◌, ℕ, zero, suc, ◌+◌, ◌<◌, ◌≤◌, ◌&&◌, Bool, true, false, List, [], ◌∷◌, length, drop, refl, ap, sym, subst, arith, inl, inr}
use Rattle.std.specs.Prelude.{◌↔◌, Option, Some, None, slice_get}
use Rattle.std.specs.List.{list_any, list_all, AllByRecursion as Each}
use Rattle.std.specs.Cmp.{IsTotalOrder, alike_right, tied_itself}
use Rattle.std.specs.Ordering.{ordering_reverse}
use Rattle.std.specs.declared.cmp.Ordering.{Ordering}
use Rattle.std.specs.declared.cmp.Ordering.TheVariants.{Less, Equal, Greater}
use Rattle.std.proofs.lemmas.Bool.{cases_order, cases_lt}
use Rattle.std.proofs.lemmas.List.{drop_all}
use Rattle.std.proofs.lemmas.Option.{slice_get_within}
use Rattle.spec_sorting.specs.Tree.{Tree}
use Rattle.spec_sorting.specs.Delta.{Delta}
use Rattle.spec_sorting.specs.Pairs.{pairs}
use Rattle.spec_sorting.specs.Leads.{LeadsFrom, applied}
use Rattle.spec_sorting.specs.Source.{element_at}
use Rattle.spec_sorting.specs.Arrangement.{Comparison}
use Rattle.spec_sorting.proofs.SortedPositions.{In}
use Rattle.spec_classes.specs.Classes.{Class, first_of, classes, is_kept_old, is_kept_new, keeps_members}
use Rattle.spec_classes.specs.Members.{KeysRise}
use Rattle.spec_classes.specs.Meetings.{comes, meets, of_key, meetings_by}
use Rattle.spec_classes.specs.Slots.{slots_from}
use Rattle.spec_classes.specs.declared.First.TheVariants.{Gone}
use Rattle.spec_classes.specs.declared.Slot.{Slot}
use Rattle.spec_classes.proofs.Members.{are_classes}
use Rattle.spec_classes.proofs.Keys.{key_tied, IsWhole, classes_whole}
use Rattle.spec_classes.proofs.Kept.{old_meets, new_meets}
use Rattle.spec_classes.proofs.Steps.{ArePassed, goes_next, comes_last, comes_next, key_next, meets_next, passed_goes, passed_comes, passed_meets}
use Rattle.gl_classes.specs.declared.touched.Touched.{Touched}
use Rattle.gl_classes.specs.declared.slots.Cursor.{Cursor}
use Rattle.gl_classes.specs.Sides.{IsOld, IsNew, AreSides, IsAt, slots_left, next_at, alone}
use Rattle.gl_classes.proofs.BothSides.{each_at, some_same, has_one}
use Rattle.gl_classes.proofs.FoundClasses.{class_list}
use Rattle.gl_classes.proofs.TouchedLists.{get_here, AreToldTo, is_free, told_touched, told_free, next_free, IsNextAt, next_is, stays_is}

true_false : true ≡ false → ⊥
true_false e = absurd cc

less_equal : (r : Ordering) → r ≡ Less → r ≡ Equal → ⊥
less_equal r e f = let g : Less ≡ Equal = sym e ∙ f in absurd cc

less_turned : (r s : Ordering) → r ≡ Less → s ≡ Less → r ≡ ordering_reverse s → ⊥
less_turned r s e f g = let h : Less ≡ Greater = sym e ∙ (g ∙ ap ordering_reverse f) in absurd cc

both_parts : (a b : Bool) → (a && b) ≡ true → (a ≡ true) × (b ≡ true)
both_parts true b e = (refl, e)
both_parts false b e = absurd cc

both_true : (a b : Bool) → a ≡ true → b ≡ true → (a && b) ≡ true
both_true a b e f = rw (e, f) refl

pub first_fails : (a b : Bool) → a ≡ false → (a && b) ≡ false
first_fails a b e = rw e refl

pub second_fails : (a b : Bool) → b ≡ false → (a && b) ≡ false
second_fails true b e = e
second_fails false b e = refl

pub head_holds : (test : ℕ → Bool) (c : Class) (f : ℕ) (fs : List ℕ) → c ≡ f ∷ fs → list_all test c ≡ true → test (first_of c) ≡ true
head_holds test c f fs are all =
    ap test (ap first_of are) ∙ (both_parts (test f) (list_all test fs) (sym (ap (list_all test) are) ∙ all)).0

pub first_in : (c : Class) (f : ℕ) (fs : List ℕ) → c ≡ f ∷ fs → In (first_of c) c
first_in c f fs are = subst (λ (b : Class). In (first_of b) b) (sym are) (inl refl)

-- the keys of classes rise with their indices
each_less : (compare : Comparison) (xs : List Tree) (c b : Class) (cs : List Class) (r : ℕ)
    → Each (λ e. compare (element_at xs (first_of c)) (element_at xs (first_of e)) ≡ Less) cs → slice_get cs r ≡ Some b
    → compare (element_at xs (first_of c)) (element_at xs (first_of b)) ≡ Less
each_less compare xs c b cs r each at = each_at (λ e. compare (element_at xs (first_of c)) (element_at xs (first_of e)) ≡ Less) cs r b each at

pub keys_rise : (compare : Comparison) (xs : List Tree) (cs : List Class) (p r : ℕ) (c b : Class) → KeysRise compare xs cs → p < r
    → slice_get cs p ≡ Some c → slice_get cs r ≡ Some b → compare (element_at xs (first_of c)) (element_at xs (first_of b)) ≡ Less
keys_rise compare xs [] p r c b rise less at_p at_r = absurd cc
keys_rise compare xs (e ∷ es) zero zero c b rise less at_p at_r = absurd (omega (arith, less))
keys_rise compare xs (e ∷ es) zero (suc r) c b rise less at_p at_r =
    let same : e ≡ c = cc in
    subst (λ (a : Class). compare (element_at xs (first_of a)) (element_at xs (first_of b)) ≡ Less) same (each_less compare xs e b es r rise.0 at_r)
keys_rise compare xs (e ∷ es) (suc p) zero c b rise less at_p at_r = absurd (omega (arith, less))
keys_rise compare xs (e ∷ es) (suc p) (suc r) c b rise less at_p at_r = keys_rise compare xs es p r c b rise.1 (omega (arith, less)) at_p at_r

pub index_less : (compare : Comparison) → IsTotalOrder compare → (xs : List Tree) (cs : List Class) (p r : ℕ) (c b : Class) → KeysRise compare xs cs
    → slice_get cs p ≡ Some c → slice_get cs r ≡ Some b → compare (element_at xs (first_of c)) (element_at xs (first_of b)) ≡ Less → p < r
index_less compare o xs cs p r c b rise at_p at_r less = elim (cases_order p r) [
  | inl same ↦
      let one : c ≡ b = some_same c b (sym at_p ∙ (ap (slice_get cs) same ∙ at_r)) in
      absurd (less_equal _ less (subst (λ (e : Class). compare (element_at xs (first_of c)) (element_at xs (first_of e)) ≡ Equal) one (tied_itself o (element_at xs (first_of c)))))
  | inr (inl lower) ↦ lower
  | inr (inr more) ↦
      absurd (less_turned _ _ less (keys_rise compare xs cs r p b c rise more at_r at_p) (o.antisymm (element_at xs (first_of c)) (element_at xs (first_of b))))
]

pub cursor_same : (a b : Cursor) → a.olds ≡ b.olds → a.news ≡ b.news → a.gone ≡ b.gone → a.came ≡ b.came → a ≡ b
cursor_same a b olds news gone came = λ i. record { olds = olds i; news = news i; gone = gone i; came = came i }

module _ (compare : Comparison) (o : IsTotalOrder compare) (d : Delta) (xs ys : List Tree) (leads : LeadsFrom d xs) (ends : applied d xs ≡ ys) where
  abbrev pub key : Class → Class → Bool
  key = of_key compare xs ys

  abbrev pub cs : List Class
  cs = classes compare xs

  abbrev pub es : List Class
  es = classes compare ys

  pub old_whole : (p : ℕ) (c : Class) → slice_get cs p ≡ Some c → IsWhole compare o xs c
  old_whole p c at = each_at (IsWhole compare o xs) cs p c (classes_whole compare o xs) at

  pub new_whole : (q : ℕ) (e : Class) → slice_get es q ≡ Some e → IsWhole compare o ys e
  new_whole q e at = each_at (IsWhole compare o ys) es q e (classes_whole compare o ys) at

  -- a class whose members are all kept has one of its key in the other list
  old_partner : (p : ℕ) (c : Class) → slice_get cs p ≡ Some c → list_all (is_kept_old (pairs d)) c ≡ true → list_any (key c) es ≡ true
  old_partner p c at all =
      let w = old_whole p c at in
      subst (λ zs. list_any (of_key compare xs zs c) (classes compare zs) ≡ true) ends
      (old_meets compare o d xs leads c w (first_of c) (first_in c w.class.first w.class.others w.class.are) (head_holds (is_kept_old (pairs d)) c w.class.first w.class.others w.class.are all))

  new_partner : (q : ℕ) (e : Class) → slice_get es q ≡ Some e → list_all (is_kept_new (pairs d)) e ≡ true → list_any (λ c. key c e) cs ≡ true
  new_partner q e at all =
      let w = new_whole q e at in
      let P : List Tree → Type 0 = λ zs. IsWhole compare o zs e → list_any (λ c. of_key compare xs zs c e) cs ≡ true in
      subst P ends
      (λ w. new_meets compare o d xs leads e w (first_of e) (first_in e w.class.first w.class.others w.class.are) (head_holds (is_kept_new (pairs d)) e w.class.first w.class.others w.class.are all)) w

  -- classes of one key lie in one order on both sides
  across : (c b e f : Class) → key c e ≡ true → key b f ≡ true
      → compare (element_at xs (first_of c)) (element_at xs (first_of b)) ≡ compare (element_at ys (first_of e)) (element_at ys (first_of f))
  across c b e f one other =
      alike_right o (element_at xs (first_of b)) (element_at ys (first_of f)) (element_at xs (first_of c)) (key_tied _ other)
      ∙ o.congr (element_at xs (first_of c)) (element_at ys (first_of e)) (element_at ys (first_of f)) (key_tied _ one)

  one_order : (p q r s : ℕ) (c e b f : Class) → slice_get cs p ≡ Some c → slice_get es q ≡ Some e → slice_get cs r ≡ Some b → slice_get es s ≡ Some f
      → key c e ≡ true → key b f ≡ true → (p < r) ↔ (q < s)
  one_order p q r s c e b f at_p at_q at_r at_s one other = (
    (λ less. index_less compare o ys es q s e f (are_classes compare o ys).rise at_q at_s
        (sym (across c b e f one other) ∙ keys_rise compare xs cs p r c b (are_classes compare o xs).rise less at_p at_r)),
    (λ less. index_less compare o xs cs p r c b (are_classes compare o xs).rise at_p at_r
        (across c b e f one other ∙ keys_rise compare ys es q s e f (are_classes compare o ys).rise less at_q at_s)),
  )

  module _ (olds news : List Touched) (s : AreSides compare xs ys d olds news) where
    abbrev pub At : Cursor → Type 0
    At a = IsAt compare xs ys olds news a

    abbrev pub left : Cursor → List Slot
    left a = slots_left compare xs ys d a

    passed : (a : Cursor) → At a → ArePassed key cs es a.olds a.news
    passed a h = record { together = h.together; one_order = one_order }

    -- where the old list is at a class that has a partner, the new list has a class there
    new_there : (a : Cursor) → At a → (c : Class) → slice_get cs a.olds ≡ Some c → list_any (key c) es ≡ true → (e : Class) × (slice_get es a.news ≡ Some e)
    new_there a h c at any =
        let f = has_one (key c) es any in
        let within = slice_get_within es f.index f.item f.at in
        elim (cases_lt f.index a.news) [
          | inl less ↦ absurd (let back = (h.together a.olds f.index c f.item at f.at f.holds).1 less in omega (arith, back))
          | inr more ↦ get_here es a.news (omega (arith, within, more))
        ]

    old_there : (a : Cursor) → At a → (e : Class) → slice_get es a.news ≡ Some e → list_any (λ c. key c e) cs ≡ true → (c : Class) × (slice_get cs a.olds ≡ Some c)
    old_there a h e at any =
        let f = has_one (λ c. key c e) cs any in
        let within = slice_get_within cs f.index f.item f.at in
        elim (cases_lt f.index a.olds) [
          | inl less ↦ absurd (let back = (h.together f.index a.news f.item e f.at at f.holds).0 less in omega (arith, back))
          | inr more ↦ get_here cs a.olds (omega (arith, within, more))
        ]

    -- two classes of one key are next on both sides
    pub record AreNext (a : Cursor) : Type 0 where
      pub old : Class
      pub new : Class
      pub old_at : slice_get cs a.olds ≡ Some old
      pub new_at : slice_get es a.news ≡ Some new
      pub one_key : key old new ≡ true

    pub both_next : (a : Cursor) → At a
        → ((c : Class) → slice_get cs a.olds ≡ Some c → list_any (key c) es ≡ true)
        → ((e : Class) → slice_get es a.news ≡ Some e → list_any (λ c. key c e) cs ≡ true)
        → (a.olds < length cs) ⊎ (a.news < length es) → AreNext a
    both_next a h old_any new_any some = elim some [
      | inl less ↦
          let c = get_here cs a.olds less in
          let e = new_there a h c.0 c.1 (old_any c.0 c.1) in
          record { old = c.0; new = e.0; old_at = c.1; new_at = e.1; one_key = key_next key cs es a.olds a.news c.0 e.0 c.1 e.1 (passed a h) (old_any c.0 c.1) (new_any e.0 e.1) }
      | inr less ↦
          let e = get_here es a.news less in
          let c = old_there a h e.0 e.1 (new_any e.0 e.1) in
          record { old = c.0; new = e.0; old_at = c.1; new_at = e.1; one_key = key_next key cs es a.olds a.news c.0 e.0 c.1 e.1 (passed a h) (old_any c.0 c.1) (new_any e.0 e.1) }
    ]

    abbrev pub further : ℕ → ℕ → Cursor → Cursor
    further gone came a = record { olds = suc a.olds; news = suc a.news; gone = gone; came = came }

    -- both are passed
    pub at_both : (a : Cursor) → At a → (n : AreNext a) → (gone came : ℕ) → gone ≤ length olds → came ≤ length news
        → AreToldTo olds gone (suc a.olds) → AreToldTo news came (suc a.news) → At (further gone came a)
    at_both a h n gone came gone_in came_in olds_told news_told = record {
      together = (passed_meets key cs es a.olds a.news n.old n.new n.old_at n.new_at n.one_key (passed a h)).together;
      gone_in = gone_in;
      came_in = came_in;
      old_in = let w = slice_get_within cs a.olds n.old n.old_at in omega (arith, w);
      new_in = let w = slice_get_within es a.news n.new n.new_at in omega (arith, w);
      olds_told = olds_told;
      news_told = news_told;
    }

    pub left_both : (a : Cursor) → At a → (n : AreNext a)
        → left a ≡ slots_from d a.olds a.news (meets n.old n.new ∷ meetings_by key (drop (suc a.olds) cs) (drop (suc a.news) es))
    left_both a h n = ap (slots_from d a.olds a.news) (meets_next key cs es a.olds a.news n.old n.new n.old_at n.new_at n.one_key)

    -- a class of either list that isn't touched has a partner
    pub free_old : (a : Cursor) → At a → (In a.olds (class_list olds) → ⊥) → (c : Class) → slice_get cs a.olds ≡ Some c → list_all (is_kept_old (pairs d)) c ≡ true
    free_old a h free c at = s.other_olds a.olds c at free

    pub free_new : (a : Cursor) → At a → (In a.news (class_list news) → ⊥) → (e : Class) → slice_get es a.news ≡ Some e → list_all (is_kept_new (pairs d)) e ≡ true
    free_new a h free e at = s.other_news a.news e at free

    -- classes that aren't touched are passed together, and nothing is told of them
    pub record Onward (a b : Cursor) : Type 0 where
      pub at : At b
      pub same : left b ≡ left a

    step_kept : (a : Cursor) → At a → (In a.olds (class_list olds) → ⊥) → (In a.news (class_list news) → ⊥)
        → (a.olds < length cs) ⊎ (a.news < length es) → Onward a (further a.gone a.came a)
    step_kept a h free free_too some =
        let n = both_next a h (λ c at. old_partner a.olds c at (free_old a h free c at)) (λ e at. new_partner a.news e at (free_new a h free_too e at)) some in
        let kept : keeps_members (pairs d) n.old n.new ≡ true = both_true _ _ (free_old a h free n.old n.old_at) (free_new a h free_too n.new n.new_at) in
        record {
          at = at_both a h n a.gone a.came h.gone_in h.came_in (told_free olds s.olds_rise a.gone a.olds h.olds_told free) (told_free news s.news_rise a.came a.news h.news_told free_too);
          same = sym (left_both a h n ∙ quiet a n.old n.new kept);
        }
      where
        quiet : (a : Cursor) (c e : Class) → keeps_members (pairs d) c e ≡ true
            → slots_from d a.olds a.news (meets c e ∷ meetings_by key (drop (suc a.olds) cs) (drop (suc a.news) es)) ≡ left (further a.gone a.came a)
        quiet a c e k = rw k refl

    onward_on : (a b c : Cursor) → Onward a b → Onward b c → Onward a c
    onward_on a b c one other = record { at = other.at; same = other.same ∙ one.same }

    -- so many of them
    pub skip : (n : ℕ) (a b : Cursor) → At a → b.olds ≡ a.olds + n → b.news ≡ a.news + n → b.gone ≡ a.gone → b.came ≡ a.came
        → ((t : Touched) → slice_get olds a.gone ≡ Some t → a.olds + n ≤ t.class) → ((u : Touched) → slice_get news a.came ≡ Some u → a.news + n ≤ u.class)
        → (a.gone < length olds) ⊎ (a.came < length news) → Onward a b
    skip zero a b h olds_are news_are gone came far far_too some =
        subst (Onward a) (cursor_same a b (omega (arith, olds_are)) (omega (arith, news_are)) (sym gone) (sym came)) (record { at = h; same = refl })
    skip (suc n) a b h olds_are news_are gone came far far_too some =
        let one = step_kept a h
        (is_free olds s.olds_rise a.gone a.olds h.olds_told (λ t at. let past = far t at in omega (arith, past)))
        (is_free news s.news_rise a.came a.news h.news_told (λ u at. let past = far_too u at in omega (arith, past)))
        (elim some [
          | inl less ↦
              let t = get_here olds a.gone less in
              let past = far t.0 t.1 in
              let i = each_at (IsOld compare xs ys d) olds a.gone t.0 s.olds_are t.1 in
              let w = slice_get_within cs t.0.class i.class i.at in
              inl (omega (arith, past, w))
          | inr less ↦
              let u = get_here news a.came less in
              let past = far_too u.0 u.1 in
              let i = each_at (IsNew compare xs ys d) news a.came u.0 s.news_are u.1 in
              let w = slice_get_within es u.0.class i.class i.at in
              inr (omega (arith, past, w))
        ]) in
        onward_on a (further a.gone a.came a) b one
        (skip n (further a.gone a.came a) b one.at (omega (arith, olds_are)) (omega (arith, news_are)) gone came
        (λ t at. let past = far t at in omega (arith, past)) (λ u at. let past = far_too u at in omega (arith, past)) some)

    none_there : (ts : List Touched) (k : ℕ) → length ts ≤ k → (t : Touched) → slice_get ts k ≡ Some t → ⊥
    none_there ts k past t at = let w = slice_get_within ts k t at in omega (arith, w, past)

    past_old : (a : Cursor) → At a → length olds ≤ a.gone → In a.olds (class_list olds) → ⊥
    past_old a h past = is_free olds s.olds_rise a.gone a.olds h.olds_told (λ t at. absurd (none_there olds a.gone past t at))

    past_new : (a : Cursor) → At a → length news ≤ a.came → In a.news (class_list news) → ⊥
    past_new a h past = is_free news s.news_rise a.came a.news h.news_told (λ u at. absurd (none_there news a.came past u at))

    -- where no touched class is left, nothing is left to tell
    pub all_told : (n : ℕ) (a : Cursor) → At a → a.olds + n ≡ length cs → length olds ≤ a.gone → length news ≤ a.came → left a ≡ []
    all_told zero a h long past past_too = elim (cases_lt a.news (length es)) [
      | inr end ↦
          ap (λ bs. slots_from d a.olds a.news (meetings_by key bs (drop a.news es))) (drop_all a.olds cs (omega (arith, long)))
          ∙ ap (λ bs. slots_from d a.olds a.news (meetings_by key [] bs)) (drop_all a.news es end)
      | inl less ↦
          let e = get_here es a.news less in
          let c = old_there a h e.0 e.1 (new_partner a.news e.0 e.1 (free_new a h (past_new a h past_too) e.0 e.1)) in
          let w = slice_get_within cs a.olds c.0 c.1 in
          absurd (omega (arith, w, long))
    ]
    all_told (suc n) a h long past past_too =
        let one = step_kept a h (past_old a h past) (past_new a h past_too) (inl (omega (arith, long))) in
        sym one.same ∙ all_told n (further a.gone a.came a) one.at (omega (arith, long)) past past_too

    -- a touched class of the old list that has no partner goes
    pub record Told (a : Cursor) (slot : Slot) (b : Cursor) : Type 0 where
      pub same : left a ≡ slot ∷ left b
      pub at : At b

    told_at : (a b c : Cursor) (slot : Slot) → Told a slot b → b ≡ c → Told a slot c
    told_at a b c slot t e = subst (Told a slot) e t

    pub goes_alone : (a b : Cursor) (t : Touched) → At a → IsNextAt olds a.gone a.olds t → t.stays ≡ false
        → b.olds ≡ suc a.olds → b.news ≡ a.news → b.gone ≡ suc a.gone → b.came ≡ a.came
        → Told a (record { old = Some (record { index = a.olds; first = Gone t.source }); new = None }) b
    goes_alone a b t h next stays olds_are news_are gone came =
        let i = each_at (IsOld compare xs ys d) olds a.gone t s.olds_are next.at in
        let at : slice_get cs a.olds ≡ Some i.class = ap (slice_get cs) (sym next.is) ∙ i.at in
        let none : list_any (key i.class) es ≡ false = sym i.stays_is ∙ stays in
        let m : Cursor = record { olds = suc a.olds; news = a.news; gone = suc a.gone; came = a.came } in
        let w = slice_get_within olds a.gone t next.at in
        let v = slice_get_within cs a.olds i.class at in
        told_at a m b _ (record {
          same = ap (slots_from d a.olds a.news) (goes_next key cs es a.olds a.news i.class at none)
              ∙ ap (λ f. record { old = Some (record { index = a.olds; first = f }); new = None } ∷ left m) (i.first_changed (i.lone stays));
          at = record {
            together = (passed_goes key cs es a.olds a.news i.class at (passed a h) none).together;
            gone_in = omega (arith, w);
            came_in = h.came_in;
            old_in = omega (arith, v);
            new_in = h.new_in;
            olds_told = told_touched olds s.olds_rise a.gone a.olds h.olds_told t next.at next.is;
            news_told = h.news_told;
          };
        }) (cursor_same m b (sym olds_are) (sym news_are) (sym gone) (sym came))

    -- what isn't alone has a partner
    pub old_any : (a : Cursor) → At a → alone (next_at olds a.gone a.olds) ≡ None → (c : Class) → slice_get cs a.olds ≡ Some c → list_any (key c) es ≡ true
    old_any a h e c at = by (next_at olds a.gone a.olds) refl
      where
        by : (q : Option Touched) → next_at olds a.gone a.olds ≡ q → list_any (key c) es ≡ true
        by None n = old_partner a.olds c at (free_old a h (next_free olds s.olds_rise a.gone a.olds h.olds_told n) c at)
        by (Some t) n =
            let next = next_is olds a.gone a.olds t n in
            let i = each_at (IsOld compare xs ys d) olds a.gone t s.olds_are next.at in
            let same : i.class ≡ c = some_same i.class c (sym i.at ∙ (ap (slice_get cs) next.is ∙ at)) in
            subst (λ b. list_any (key b) es ≡ true) same (sym i.stays_is ∙ stays_is t (sym (ap alone n) ∙ e))

    pub new_any : (a : Cursor) → At a → alone (next_at news a.came a.news) ≡ None → (e : Class) → slice_get es a.news ≡ Some e → list_any (λ c. key c e) cs ≡ true
    new_any a h none e at = by (next_at news a.came a.news) refl
      where
        by : (q : Option Touched) → next_at news a.came a.news ≡ q → list_any (λ c. key c e) cs ≡ true
        by None n = new_partner a.news e at (free_new a h (next_free news s.news_rise a.came a.news h.news_told n) e at)
        by (Some u) n =
            let next = next_is news a.came a.news u n in
            let i = each_at (IsNew compare xs ys d) news a.came u s.news_are next.at in
            let same : i.class ≡ e = some_same i.class e (sym i.at ∙ (ap (slice_get es) next.is ∙ at)) in
            subst (λ b. list_any (λ c. key c b) cs ≡ true) same (sym i.stays_is ∙ stays_is u (sym (ap alone n) ∙ none))

    -- one of the new list that has no partner comes, where the next of the old list doesn't go
    pub comes_alone : (a b : Cursor) (u : Touched) → At a → alone (next_at olds a.gone a.olds) ≡ None → IsNextAt news a.came a.news u → u.stays ≡ false
        → b.olds ≡ a.olds → b.news ≡ suc a.news → b.gone ≡ a.gone → b.came ≡ suc a.came
        → Told a (record { old = None; new = Some (record { index = a.news; first = u.source }) }) b
    comes_alone a b u h e next stays olds_are news_are gone came =
        let i = each_at (IsNew compare xs ys d) news a.came u s.news_are next.at in
        let at : slice_get es a.news ≡ Some i.class = ap (slice_get es) (sym next.is) ∙ i.at in
        let none : list_any (λ c. key c i.class) cs ≡ false = sym i.stays_is ∙ stays in
        let m : Cursor = record { olds = a.olds; news = suc a.news; gone = a.gone; came = suc a.came } in
        let w = slice_get_within news a.came u next.at in
        let v = slice_get_within es a.news i.class at in
        told_at a m b _ (record {
          same = ap (slots_from d a.olds a.news) (meet i.class at none)
              ∙ ap (λ f. record { old = None; new = Some (record { index = a.news; first = f }) } ∷ left m) (sym (i.lone stays));
          at = record {
            together = (passed_comes key cs es a.olds a.news i.class at (passed a h) none).together;
            gone_in = h.gone_in;
            came_in = omega (arith, w);
            old_in = h.old_in;
            new_in = omega (arith, v);
            olds_told = h.olds_told;
            news_told = told_touched news s.news_rise a.came a.news h.news_told u next.at next.is;
          };
        }) (cursor_same m b (sym olds_are) (sym news_are) (sym gone) (sym came))
      where
        meet : (f : Class) → slice_get es a.news ≡ Some f → list_any (λ c. key c f) cs ≡ false
            → meetings_by key (drop a.olds cs) (drop a.news es) ≡ comes f ∷ meetings_by key (drop a.olds cs) (drop (suc a.news) es)
        meet f at none = elim (cases_lt a.olds (length cs)) [
          | inl less ↦
              let c = get_here cs a.olds less in
              comes_next key cs es a.olds a.news c.0 f c.1 at (passed a h) (old_any a h e c.0 c.1) none
          | inr past ↦ comes_last key cs es a.olds a.news f past at
        ]
