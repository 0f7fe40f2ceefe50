-- Whether a touched class of the one list has one of its key in the other.
use Rattle.std.proofs.Common.{◌≡◌, ◌∙◌, ◌⊎◌, ℕ, zero, suc, ◌&&◌, ◌||◌, Bool, true, false, List, [], ◌∷◌, map, refl, ap, sym, subst, inl, inr}
use Rattle.std.specs.Prelude.{not, Option, Some, None, slice_get}
use Rattle.std.specs.Option.{is_some}
use Rattle.std.specs.List.{list_any, list_all, AllByRecursion as Each}
use Rattle.std.specs.Cmp.{IsTotalOrder, tied_back}
use Rattle.std.specs.declared.cmp.Ordering.TheVariants.{Equal}
use Rattle.std.proofs.lemmas.Bool.{cases_eq}
use Rattle.spec_sorting.specs.Tree.{Tree}
use Rattle.spec_sorting.specs.Delta.{Delta}
use Rattle.spec_sorting.specs.Pairs.{pairs}
use Rattle.spec_sorting.specs.Leads.{LeadsFrom, applied}
use Rattle.spec_sorting.specs.Source.{element_at}
use Rattle.spec_sorting.specs.Arrangement.{Comparison}
use Rattle.spec_sorting.proofs.SortedPositions.{In}
use Rattle.spec_classes.specs.Classes.{Class, first_of, classes, is_kept_old, is_kept_new}
use Rattle.spec_classes.specs.Meetings.{of_key}
use Rattle.spec_classes.proofs.Keys.{key_tied, tied_is_key, IsWhole, classes_whole, member_is}
use Rattle.spec_classes.proofs.Kept.{any_here, old_meets, new_meets, none_kept_meets, none_kept_met}
use Rattle.gl_classes.specs.declared.touched.Touched.{Touched}
use Rattle.gl_classes.specs.Finding.{meets, stays_if}
use Rattle.gl_classes.proofs.TouchedClasses.{IsTouchedClass}

pub each_at : {X : Type 0} (P : X → Type 0) (xs : List X) (k : ℕ) (x : X) → Each P xs → slice_get xs k ≡ Some x → P x
each_at P [] k x e at = absurd cc
each_at P (y ∷ ys) zero x e at = let same : y ≡ x = cc in subst P same e.0
each_at P (y ∷ ys) (suc k) x e at = each_at P ys k x e.1 at

pub some_same : {X : Type 0} (x y : X) → Some x ≡ Some y → x ≡ y
some_same x y e = cc

one_way : (a b : Bool) → (a ≡ true → b ≡ true) → (b ≡ true → a ≡ true) → a ≡ b
one_way true b to from = sym (to refl)
one_way false true to from = from refl
one_way false false to from = refl

pub record Has {X : Type 0} (test : X → Bool) (xs : List X) : Type 0 where
  pub index : ℕ
  pub item : X
  pub at : slice_get xs index ≡ Some item
  pub holds : test item ≡ true

pub has_one : {X : Type 0} (test : X → Bool) (xs : List X) → list_any test xs ≡ true → Has test xs
has_one test [] any = absurd cc
has_one test (x ∷ xs) any = by (test x) refl (has_one test xs)
  where
    by : (t : Bool) → test x ≡ t → (list_any test xs ≡ true → Has test xs) → Has test (x ∷ xs)
    by true is later = record { index = 0; item = x; at = refl; holds = is }
    by false is later =
        let more = later (sym (ap (λ u. u || list_any test xs) is) ∙ any) in
        record { index = suc more.index; item = more.item; at = more.at; holds = more.holds }

-- a class is one of these, or none
pub cases_class : (s : ℕ) (ts : List Touched) → ((k : ℕ) × (u : Touched) × (slice_get ts k ≡ Some u) × (u.class ≡ s)) ⊎ (In s (map (λ (t : Touched). t.class) ts) → ⊥)
cases_class s [] = inr (λ found. found)
cases_class s (t ∷ ts) = elim (cases_eq t.class s) [
  | inl same ↦ inl (0, t, refl, same)
  | inr other ↦
      elim (cases_class s ts) [
        | inl later ↦ inl (suc later.0, later.1, later.2, later.3)
        | inr none ↦ inr (λ found. elim found [ inl here ↦ other (sym here) | inr rest ↦ none rest ])
      ]
]

module _ (compare : Comparison) (o : IsTotalOrder compare) (d : Delta) (xs : List Tree) (leads : LeadsFrom d xs) (news : List Touched)
    (news_are : Each (IsTouchedClass (applied d xs) compare (is_kept_new (pairs d))) news)
    (others : (s : ℕ) (e : Class) → slice_get (classes compare (applied d xs)) s ≡ Some e → (In s (map (λ (u : Touched). u.class) news) → ⊥) → list_all (is_kept_new (pairs d)) e ≡ true) where
  abbrev ys : List Tree
  ys = applied d xs

  true_false : true ≡ false → ⊥
  true_false e = absurd cc

  -- two members have one key where their classes have
  keys_alike : (c e : Class) → IsWhole compare o xs c → IsWhole compare o ys e → (i j : ℕ) → In i c → In j e
      → (compare (element_at xs i) (element_at ys j) ≡ Equal → of_key compare xs ys c e ≡ true) × (of_key compare xs ys c e ≡ true → compare (element_at xs i) (element_at ys j) ≡ Equal)
  keys_alike c e whole whole_too i j i_in j_in =
      let one = (member_is compare o xs c whole.class i i_in).tied in
      let other = (member_is compare o ys e whole_too.class j j_in).tied in (
        (λ tied. tied_is_key _ (o.congr _ _ (element_at ys (first_of e)) one ∙ (o.congr _ _ (element_at ys (first_of e)) tied ∙ tied_back o _ _ other))),
        (λ key. o.congr _ _ (element_at ys j) (tied_back o _ _ one) ∙ (o.congr _ _ (element_at ys j) (key_tied _ key) ∙ other)),
      )

  -- it stays exactly where the new list has a class of its key
  pub old_stays : (t : Touched) (h : IsTouchedClass xs compare (is_kept_old (pairs d)) t)
      → (stays_if t (list_any (λ u. not u.stays && meets compare xs ys t u) news)).stays ≡ list_any (of_key compare xs ys h.class) (classes compare ys)
  old_stays t h = by t.plain refl
    where
      whole : IsWhole compare o xs h.class
      whole = each_at (IsWhole compare o xs) (classes compare xs) t.class h.class (classes_whole compare o xs) h.at

      first_true : (s u : Bool) → s ≡ true → (s || u) ≡ true
      first_true true u e = refl
      first_true false u e = absurd cc

      first_false : (s u : Bool) → s ≡ false → (s || u) ≡ u
      first_false true u e = absurd cc
      first_false false u e = refl

      parts : (a b : Bool) → (a && b) ≡ true → (a ≡ true) × (b ≡ true)
      parts true b e = (refl, e)
      parts false b e = absurd cc

      head_kept : (f : ℕ) (fs : List ℕ) → list_all (is_kept_new (pairs d)) (f ∷ fs) ≡ true → is_kept_new (pairs d) f ≡ true
      head_kept f fs all = (parts (is_kept_new (pairs d) f) (list_all (is_kept_new (pairs d)) fs) all).0

      none : t.plain ≡ None → list_any (λ u. not u.stays && meets compare xs ys t u) news ≡ list_any (of_key compare xs ys h.class) (classes compare ys)
      none e = one_way _ _
          (λ any.
          let f = has_one (λ u. not u.stays && meets compare xs ys t u) news any in
          let u = each_at (IsTouchedClass ys compare (is_kept_new (pairs d))) news f.index f.item news_are f.at in
          let whole_too = each_at (IsWhole compare o ys) (classes compare ys) f.item.class u.class (classes_whole compare o ys) u.at in
          let both = parts (not f.item.stays) (meets compare xs ys t f.item) f.holds in
          any_here (of_key compare xs ys h.class) (classes compare ys) f.item.class u.class u.at
          ((keys_alike h.class u.class whole whole_too t.source f.item.source h.member u.member).0 (key_tied _ both.1)))
          (λ any.
          let f = has_one (of_key compare xs ys h.class) (classes compare ys) any in
          let whole_too = each_at (IsWhole compare o ys) (classes compare ys) f.index f.item (classes_whole compare o ys) f.at in
          reached f.index f.item f.at f.holds whole_too e)
        where
          reached : (s : ℕ) (b : Class) → slice_get (classes compare ys) s ≡ Some b → of_key compare xs ys h.class b ≡ true → IsWhole compare o ys b → t.plain ≡ None
              → list_any (λ u. not u.stays && meets compare xs ys t u) news ≡ true
          reached s b at key whole_too e = elim (cases_class s news) [
            | inl found ↦
                let u = each_at (IsTouchedClass ys compare (is_kept_new (pairs d))) news found.0 found.1 news_are found.2 in
                let same : u.class ≡ b = some_same u.class b (sym u.at ∙ (ap (slice_get (classes compare ys)) found.3 ∙ at)) in
                let member : In found.1.source b = subst (In found.1.source) same u.member in
                let met : meets compare xs ys t found.1 ≡ true = tied_is_key _ ((keys_alike h.class b whole whole_too t.source found.1.source h.member member).1 key) in
                let fresh : found.1.stays ≡ false = u.stays_is ∙ no_plain found.1.plain (λ q f.
                let j = u.some_kept q f in
                none_kept_meets compare o d xs leads h.class b whole whole_too key (h.none_kept e) j.0 (subst (In j.0) same j.2) j.3) in
                any_here (λ v. not v.stays && meets compare xs ys t v) news found.0 found.1 found.2 (both_true (not found.1.stays) (meets compare xs ys t found.1) (ap not fresh) met)
            | inr absent ↦
                let all : list_all (is_kept_new (pairs d)) b ≡ true = others s b at absent in
                let w = whole_too.class in
                let kept : is_kept_new (pairs d) w.first ≡ true = head_kept w.first w.others (sym (ap (list_all (is_kept_new (pairs d))) w.are) ∙ all) in
                absurd (none_kept_meets compare o d xs leads h.class b whole whole_too key (h.none_kept e) w.first (subst (In w.first) (sym w.are) (inl refl)) kept)
          ]
            where
              both_true : (a b : Bool) → a ≡ true → b ≡ true → (a && b) ≡ true
              both_true a b e f = rw (e, f) refl

              no_plain : (q : Option ℕ) → ((n : ℕ) → q ≡ Some n → ⊥) → is_some q ≡ false
              no_plain None none = refl
              no_plain (Some n) none = absurd (none n refl)

      by : (q : Option ℕ) → t.plain ≡ q
          → (stays_if t (list_any (λ u. not u.stays && meets compare xs ys t u) news)).stays ≡ list_any (of_key compare xs ys h.class) (classes compare ys)
      by (Some q) e =
          let j = h.some_kept q e in
          first_true t.stays _ (h.stays_is ∙ ap is_some e) ∙ sym (old_meets compare o d xs leads h.class whole j.0 j.2 j.3)
      by None e = first_false t.stays _ (h.stays_is ∙ ap is_some e) ∙ none e

module _ (compare : Comparison) (o : IsTotalOrder compare) (d : Delta) (xs : List Tree) (leads : LeadsFrom d xs) (olds : List Touched)
    (olds_are : Each (IsTouchedClass xs compare (is_kept_old (pairs d))) olds)
    (others : (r : ℕ) (c : Class) → slice_get (classes compare xs) r ≡ Some c → (In r (map (λ (t : Touched). t.class) olds) → ⊥) → list_all (is_kept_old (pairs d)) c ≡ true) where
  -- and one of the new list exactly where the old list has a class of its key
  pub new_stays : (u : Touched) (h : IsTouchedClass (applied d xs) compare (is_kept_new (pairs d)) u)
      → (stays_if u (list_any (λ t. meets compare xs (applied d xs) t u) olds)).stays ≡ list_any (λ c. of_key compare xs (applied d xs) c h.class) (classes compare xs)
  new_stays u h = by u.plain refl
    where
      whole : IsWhole compare o (applied d xs) h.class
      whole = each_at (IsWhole compare o (applied d xs)) (classes compare (applied d xs)) u.class h.class (classes_whole compare o (applied d xs)) h.at

      first_true : (s v : Bool) → s ≡ true → (s || v) ≡ true
      first_true true v e = refl
      first_true false v e = absurd cc

      first_false : (s v : Bool) → s ≡ false → (s || v) ≡ v
      first_false true v e = absurd cc
      first_false false v e = refl

      alike : (c e : Class) → IsWhole compare o xs c → IsWhole compare o (applied d xs) e → (i j : ℕ) → In i c → In j e
          → (compare (element_at xs i) (element_at (applied d xs) j) ≡ Equal → of_key compare xs (applied d xs) c e ≡ true) × (of_key compare xs (applied d xs) c e ≡ true → compare (element_at xs i) (element_at (applied d xs) j) ≡ Equal)
      alike c e w v i j i_in j_in =
          let one = (member_is compare o xs c w.class i i_in).tied in
          let other = (member_is compare o (applied d xs) e v.class j j_in).tied in (
            (λ tied. tied_is_key _ (o.congr _ _ (element_at (applied d xs) (first_of e)) one ∙ (o.congr _ _ (element_at (applied d xs) (first_of e)) tied ∙ tied_back o _ _ other))),
            (λ key. o.congr _ _ (element_at (applied d xs) j) (tied_back o _ _ one) ∙ (o.congr _ _ (element_at (applied d xs) j) (key_tied _ key) ∙ other)),
          )

      reached : (r : ℕ) (b : Class) → slice_get (classes compare xs) r ≡ Some b → of_key compare xs (applied d xs) b h.class ≡ true → IsWhole compare o xs b → u.plain ≡ None
          → list_any (λ t. meets compare xs (applied d xs) t u) olds ≡ true
      reached r b at key w e = elim (cases_class r olds) [
        | inl found ↦
            let t = each_at (IsTouchedClass xs compare (is_kept_old (pairs d))) olds found.0 found.1 olds_are found.2 in
            let same : t.class ≡ b = some_same t.class b (sym t.at ∙ (ap (slice_get (classes compare xs)) found.3 ∙ at)) in
            any_here (λ v. meets compare xs (applied d xs) v u) olds found.0 found.1 found.2
            (tied_is_key _ ((alike b h.class w whole found.1.source u.source (subst (In found.1.source) same t.member) h.member).1 key))
        | inr absent ↦
            let all : list_all (is_kept_old (pairs d)) b ≡ true = others r b at absent in
            let kept : is_kept_old (pairs d) w.class.first ≡ true = head_kept w.class.first w.class.others (sym (ap (list_all (is_kept_old (pairs d))) w.class.are) ∙ all) in
            absurd (none_kept_met compare o d xs leads b h.class w whole key (h.none_kept e) w.class.first (subst (In w.class.first) (sym w.class.are) (inl refl)) kept)
      ]
        where
          parts : (m n : Bool) → (m && n) ≡ true → m ≡ true
          parts true n f = refl
          parts false n f = absurd cc

          head_kept : (f : ℕ) (fs : List ℕ) → list_all (is_kept_old (pairs d)) (f ∷ fs) ≡ true → is_kept_old (pairs d) f ≡ true
          head_kept f fs all = parts (is_kept_old (pairs d) f) (list_all (is_kept_old (pairs d)) fs) all

      none : u.plain ≡ None → list_any (λ t. meets compare xs (applied d xs) t u) olds ≡ list_any (λ c. of_key compare xs (applied d xs) c h.class) (classes compare xs)
      none e = one_way _ _
          (λ any.
          let f = has_one (λ t. meets compare xs (applied d xs) t u) olds any in
          let t = each_at (IsTouchedClass xs compare (is_kept_old (pairs d))) olds f.index f.item olds_are f.at in
          let w = each_at (IsWhole compare o xs) (classes compare xs) f.item.class t.class (classes_whole compare o xs) t.at in
          any_here (λ c. of_key compare xs (applied d xs) c h.class) (classes compare xs) f.item.class t.class t.at
          ((alike t.class h.class w whole f.item.source u.source t.member h.member).0 (key_tied _ f.holds)))
          (λ any.
          let f = has_one (λ c. of_key compare xs (applied d xs) c h.class) (classes compare xs) any in
          reached f.index f.item f.at f.holds (each_at (IsWhole compare o xs) (classes compare xs) f.index f.item (classes_whole compare o xs) f.at) e)

      by : (q : Option ℕ) → u.plain ≡ q
          → (stays_if u (list_any (λ t. meets compare xs (applied d xs) t u) olds)).stays ≡ list_any (λ c. of_key compare xs (applied d xs) c h.class) (classes compare xs)
      by (Some q) e =
          let j = h.some_kept q e in
          first_true u.stays _ (h.stays_is ∙ ap is_some e) ∙ sym (new_meets compare o d xs leads h.class whole j.0 j.2 j.3)
      by None e = first_false u.stays _ (h.stays_is ∙ ap is_some e) ∙ none e
