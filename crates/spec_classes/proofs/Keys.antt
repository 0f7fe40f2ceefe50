-- A class has all elements of its key; so the classes of plain partners have equal keys.
use Rattle.std.proofs.Common.{◌≡◌, ◌∙◌, ◌⊎◌, ℕ, suc, ◌<◌, ◌≤◌, ◌++◌, true, false, List, [], ◌∷◌, length, refl, sym, subst, arith, inl, inr}
use Rattle.std.specs.Prelude.{Some, slice_get}
use Rattle.std.specs.List.{AllByRecursion as Each}
use Rattle.std.specs.Cmp.{IsTotalOrder, alike_right, tied_back, tied_itself}
use Rattle.std.specs.Ordering.{is_eq}
use Rattle.std.specs.declared.cmp.Ordering.{Ordering}
use Rattle.std.specs.declared.cmp.Ordering.TheVariants.{Less, Equal, Greater}
use Rattle.spec_value.specs.Tree.{Tree}
use Rattle.spec_views.specs.Source.{element_at}
use Rattle.spec_views.specs.Arrangement.{Comparison, arrangement}
use Rattle.spec_views.specs.Classes.{Class, first_of, classes}
use Rattle.spec_views.proofs.SortedPositions.{In, all_below}
use Rattle.spec_views.proofs.Arrangements.{arrangement_is, distinct_arrangement, within_arrangement}
use Rattle.spec_sorting.proofs.Partners.{each_weaker, each_both}
use Rattle.spec_classes.specs.Members.{joined, IsClass, KeysRise}
use Rattle.spec_classes.proofs.Members.{are_classes}

-- what compares as equal is found by its key, and nothing else
pub key_tied : (r : Ordering) → is_eq r ≡ true → r ≡ Equal
key_tied Less e = absurd cc
key_tied Equal e = refl
key_tied Greater e = absurd cc

pub tied_is_key : (r : Ordering) → r ≡ Equal → is_eq r ≡ true
tied_is_key r e = rw e refl

less_tied : (r : Ordering) → r ≡ Less → r ≡ Equal → ⊥
less_tied r e f = let g : Less ≡ Equal = sym e ∙ f in absurd cc

pub greater_not : (r : Ordering) → r ≡ Greater → is_eq r ≡ false
greater_not r e = rw e refl

pub less_no_key : (r : Ordering) → r ≡ Less → is_eq r ≡ false
less_no_key r e = rw e refl

in_append : (i : ℕ) (is js : List ℕ) → In i (is ++ js) → In i is ⊎ In i js
in_append i [] js found = inr found
in_append i (k ∷ ks) js (inl same) = inl (inl same)
in_append i (k ∷ ks) js (inr later) = elim (in_append i ks js later) [
  | inl here ↦ inl (inr here)
  | inr rest ↦ inr rest
]

module _ (compare : Comparison) (o : IsTotalOrder compare) (xs : List Tree) where
  abbrev Tied : ℕ → ℕ → Type 0
  Tied i j = compare (element_at xs i) (element_at xs j) ≡ Equal

  -- a member has the key of the first, which isn't after it
  pub record IsMember (c : Class) (i : ℕ) : Type 0 where
    pub tied : Tied (first_of c) i
    pub low : first_of c ≤ i

  pub member_is : (c : Class) → IsClass compare xs c → (i : ℕ) → In i c → IsMember c i
  member_is c h i found = subst (λ b. IsMember b i) (sym h.are) (by (subst (In i) h.are found))
    where
      later : (js : List ℕ) → Each (λ j. Tied h.first j × (h.first < j)) js → In i js → IsMember (h.first ∷ h.others) i
      later [] e found = absurd found
      later (j ∷ js) e (inl same) =
          record { tied = subst (Tied h.first) (sym same) e.0.0; low = let less = e.0.1 in omega (arith, less, same) }
      later (j ∷ js) e (inr rest) = later js e.1 rest

      by : In i (h.first ∷ h.others) → IsMember (h.first ∷ h.others) i
      by (inl same) = record { tied = subst (Tied h.first) (sym same) (tied_itself o (element_at xs h.first)); low = omega (arith, same) }
      by (inr rest) = later h.others h.tied rest

  -- all members of later classes are greater
  greater_later : (f : ℕ) (i : ℕ) (cs : List Class) → Each (IsClass compare xs) cs → Each (λ e. compare (element_at xs f) (element_at xs (first_of e)) ≡ Less) cs
      → In i (joined cs) → compare (element_at xs f) (element_at xs i) ≡ Less
  greater_later f i [] each less found = absurd found
  greater_later f i (c ∷ cs) each less found = elim (in_append i c (joined cs) found) [
    | inl here ↦ sym (alike_right o (element_at xs (first_of c)) (element_at xs i) (element_at xs f) (member_is c each.0 i here).tied) ∙ less.0
    | inr rest ↦ greater_later f i cs each.1 less.1 rest
  ]

  -- of all members of classes a class has those that have its key
  full_among : (i : ℕ) (cs : List Class) → Each (IsClass compare xs) cs → KeysRise compare xs cs → In i (joined cs)
      → Each (λ c. Tied (first_of c) i → In i c) cs
  full_among i [] each rise found = tt
  full_among i (c ∷ cs) each rise found = elim (in_append i c (joined cs) found) [
    | inl here ↦ (
      (λ tied. here),
      each_weaker (λ e. compare (element_at xs (first_of c)) (element_at xs (first_of e)) ≡ Less) (λ e. Tied (first_of e) i → In i e)
          (λ e less tied. absurd (less_tied _ less ((o.congr _ _ (element_at xs (first_of e)) (member_is c each.0 i here).tied) ∙ tied_back o _ _ tied))) cs rise.0,
    )
    | inr rest ↦ ((λ tied. absurd (less_tied _ (greater_later (first_of c) i cs each.1 rise.0 rest) tied)), full_among i cs each.1 rise.1 rest)
  ]

  pub all_joined : (i : ℕ) → i < length xs → In i (joined (classes compare xs))
  all_joined i less =
      let is = arrangement_is compare o xs in
      subst (In i) (sym (are_classes compare o xs).whole) (all_below (length xs) (arrangement compare xs) is.long (distinct_arrangement compare o xs (arrangement compare xs) is) (within_arrangement compare o xs (arrangement compare xs) is) i less)

  -- a class of a list
  pub record IsWhole (c : Class) : Type 0 where
    pub class : IsClass compare xs c
    pub full : (i : ℕ) → i < length xs → Tied (first_of c) i → In i c

  under : (P : ℕ → Class → Type 0) (cs : List Class) → ((i : ℕ) → i < length xs → Each (P i) cs) → Each (λ c. (i : ℕ) → i < length xs → P i c) cs
  under P [] h = tt
  under P (c ∷ cs) h = (λ i less. (h i less).0, under P cs (λ i less. (h i less).1))

  pub classes_whole : Each IsWhole (classes compare xs)
  classes_whole =
      let g = are_classes compare o xs in
      each_both (IsClass compare xs) (λ c. (i : ℕ) → i < length xs → Tied (first_of c) i → In i c) IsWhole (λ c a b. record { class = a; full = b }) (classes compare xs) g.each
      (under (λ i c. Tied (first_of c) i → In i c) (classes compare xs) (λ i less. full_among i (classes compare xs) g.each g.rise (all_joined i less)))

  -- a class that has a member of a list's is found by its key
  pub record HasMember (i : ℕ) (cs : List Class) : Type 0 where
    pub index : ℕ
    pub class : Class
    pub at : slice_get cs index ≡ Some class
    pub member : In i class
    pub tied : Tied (first_of class) i

  pub find_class : (i : ℕ) (cs : List Class) → Each (IsClass compare xs) cs → In i (joined cs) → HasMember i cs
  find_class i [] each found = absurd found
  find_class i (c ∷ cs) each found = elim (in_append i c (joined cs) found) [
    | inl here ↦ record { index = 0; class = c; at = refl; member = here; tied = (member_is c each.0 i here).tied }
    | inr rest ↦
        let later = find_class i cs each.1 rest in
        record { index = suc later.index; class = later.class; at = later.at; member = later.member; tied = later.tied }
  ]
