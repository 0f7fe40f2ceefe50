-- Lemmas on the items that stand under the slots of a tree.
use Rattle.std.proofs.Common.{◌≡◌, ℕ, zero, suc, ◌+◌, ◌<◌, ◌≤◌, max, List, [], ◌∷◌, ◌++◌, length, take, drop, set, Option, Some, None, IsSome, refl, sym, ap, ◌∙◌, subst, inl, inr, arith, insert, remove, Contains}
use Rattle.std.specs.List.{slice_get}
use Rattle.std.proofs.lemmas.Bool.{cases_lt, cases_eq, eq-eqb, ne_eqb}
use Rattle.std.proofs.lemmas.List.{take-append-drop, get_or_past, get_or-set_same, get_or-set_other, length-set}
use Rattle.std.proofs.lemmas.Option.{slice_get-get_or, slice_get_within, get_or_from_slice_get}
use Rattle.gl_ranktree.specs.Tree.{hit, hits}
use Rattle.gl_ranktree.specs.Ranked.{Ranked, slots_of}
use Rattle.gl_ranktree.proofs.Trees.{hit_same, hit_other}
use Rattle.gl_ranktree.proofs.Edits.{hits-append, hits-insert}
use Rattle.gl_ranktree.proofs.Seen.{hits_from_Contains, Contains_from_hits}
use Rattle.gl_counted.specs.Counted.{handles, with_item}
use Rattle.gl_counted.specs.Held.{item_at, under_slot, held, IsHeld, Stores}

pub get_from_Contains : {X : Type 0} (xs : List X) (x : X) → Contains xs x → (k : ℕ) × (slice_get xs k ≡ Some x)
get_from_Contains xs x found = (found.0, slice_get-get_or xs found.0 x found.1 ∙ ap Some found.2)

pub Contains_from_get : {X : Type 0} (xs : List X) (k : ℕ) (x : X) → slice_get xs k ≡ Some x → Contains xs x
Contains_from_get xs k x found = (k, slice_get_within xs k x found, get_or_from_slice_get xs k x x found)

pub length-slots : (es : List (ℕ × Unit {0})) → length (slots_of es) ≡ length es
length-slots [] = refl
length-slots (e ∷ es) = ap suc (length-slots es)

hits-take-drop : (j k : ℕ) (es : List (ℕ × Unit {0})) → hits j (take k es) + hits j (drop k es) ≡ hits j es
hits-take-drop j k es = omega (arith, hits-append j (take k es) (drop k es), ap (hits j) (take-append-drop k es))

hits_around : (j k slot : ℕ) (es : List (ℕ × Unit {0})) → slice_get (slots_of es) k ≡ Some slot → hits j es ≡ hits j (take k es) + hit slot j + hits j (drop (suc k) es)
hits_around j k slot [] at = absurd (cc)
hits_around j zero slot (e ∷ es) at = let same : e.0 ≡ slot = cc in omega (arith, ap (λ i. hit i j) same)
hits_around j (suc k) slot (e ∷ es) at = omega (arith, hits_around j k slot es at)

module _ {T : Type 0} where
  -- each of these slots has an item
  abbrev pub AreFilled : List (ℕ × Unit {0}) → List (Option T) → Type 0
  AreFilled es items = (j : ℕ) → 1 ≤ hits j es → IsSome (item_at items j)

  some_of : (o : Option T) → IsSome o → (x : T) × (o ≡ Some x)
  some_of None some = absurd (cc)
  some_of (Some x) some = (x, refl)

  under_slot-append : (slot : ℕ) (o : Option T) (xs ys : List (ℕ × T)) → under_slot slot o (xs ++ ys) ≡ under_slot slot o xs ++ ys
  under_slot-append slot None xs ys = refl
  under_slot-append slot (Some x) xs ys = refl

  pub held-append : (es fs : List (ℕ × Unit {0})) (items : List (Option T)) → held (es ++ fs) items ≡ held es items ++ held fs items
  held-append [] fs items = refl
  held-append (e ∷ es) fs items =
      ap (under_slot e.0 (item_at items e.0)) (held-append es fs items) ∙ under_slot-append e.0 (item_at items e.0) (held es items) (held fs items)

  pub held-kept : (es : List (ℕ × Unit {0})) (old new : List (Option T)) → ((j : ℕ) → 1 ≤ hits j es → item_at new j ≡ item_at old j) → held es new ≡ held es old
  held-kept [] old new same = refl
  held-kept (e ∷ es) old new same =
      ap (λ o. under_slot e.0 o (held es new)) (same e.0 (omega (arith, hit_same e.0)))
      ∙ ap (under_slot e.0 (item_at old e.0)) (held-kept es old new (λ j some. same j (omega (arith, some))))

  -- the first slot has an item, and the rest have theirs
  first_filled : (e : ℕ × Unit {0}) (es : List (ℕ × Unit {0})) (items : List (Option T)) → AreFilled (e ∷ es) items → (x : T) × (item_at items e.0 ≡ Some x)
  first_filled e es items filled = some_of (item_at items e.0) (filled e.0 (omega (arith, hit_same e.0)))

  rest_filled : (e : ℕ × Unit {0}) (es : List (ℕ × Unit {0})) (items : List (Option T)) → AreFilled (e ∷ es) items → AreFilled es items
  rest_filled e es items filled = λ j some. filled j (omega (arith, some))

  pub handles-held : (es : List (ℕ × Unit {0})) (items : List (Option T)) → AreFilled es items → handles (held es items) ≡ slots_of es
  handles-held [] items filled = refl
  handles-held (e ∷ es) items filled =
      let x = first_filled e es items filled in
      rw x.1 (ap (λ rest. e.0 ∷ rest) (handles-held es items (rest_filled e es items filled)))

  pub length-held : (es : List (ℕ × Unit {0})) (items : List (Option T)) → AreFilled es items → length (held es items) ≡ length es
  length-held [] items filled = refl
  length-held (e ∷ es) items filled =
      let x = first_filled e es items filled in
      rw x.1 (ap suc (length-held es items (rest_filled e es items filled)))

  held-take : (es : List (ℕ × Unit {0})) (items : List (Option T)) (k : ℕ) → AreFilled es items → held (take k es) items ≡ take k (held es items)
  held-take es items zero filled = refl
  held-take [] items (suc k) filled = refl
  held-take (e ∷ es) items (suc k) filled =
      let x = first_filled e es items filled in
      rw x.1 (ap (λ rest. (e.0, x.0) ∷ rest) (held-take es items k (rest_filled e es items filled)))

  held-drop : (es : List (ℕ × Unit {0})) (items : List (Option T)) (k : ℕ) → AreFilled es items → held (drop k es) items ≡ drop k (held es items)
  held-drop es items zero filled = refl
  held-drop [] items (suc k) filled = refl
  held-drop (e ∷ es) items (suc k) filled =
      let x = first_filled e es items filled in
      rw x.1 (held-drop es items k (rest_filled e es items filled))

  pub get-held : (es : List (ℕ × Unit {0})) (items : List (Option T)) (k slot : ℕ) (x : T) → AreFilled es items → slice_get (slots_of es) k ≡ Some slot → item_at items slot ≡ Some x → slice_get (held es items) k ≡ Some (slot, x)
  get-held [] items k slot x filled at found = absurd (cc)
  get-held (e ∷ es) items zero slot x filled at found =
      let same : e.0 ≡ slot = cc in
      let here : item_at items e.0 ≡ Some x = ap (item_at items) same ∙ found in
      rw here (ap (λ s. Some (s, x)) same)
  get-held (e ∷ es) items (suc k) slot x filled at found =
      let y = first_filled e es items filled in
      rw y.1 (get-held es items k slot x (rest_filled e es items filled) at found)

  -- an item was put at a place, in a slot that had none
  pub record Inserted (old new : Ranked (Unit {0})) (items items' : List (Option T)) (position slot : ℕ) (x : T) : Type 0 where
    pub keeps : IsHeld new items'
    pub entries : held new.entries items' ≡ insert (held old.entries items) position (slot, x)

  pub inserted : (old new : Ranked (Unit {0})) (items items' : List (Option T)) (position slot : ℕ) (x : T) → IsHeld old items → (Contains (slots_of old.entries) slot → ⊥) → new.entries ≡ insert old.entries position (slot, tt) → new.slots ≡ max old.slots (slot + 1) → Stores items items' slot (Some x) → Inserted old new items items' position slot x
  inserted old new items items' position slot x h fresh order slots st =
      let es = old.entries in
      let none : hits slot es ≡ 0 =
      elim (cases_lt 0 (hits slot es)) [
        | inl some ↦ absurd (fresh (Contains_from_hits es slot some))
        | inr none ↦ omega arith
      ] in
      let count : (j : ℕ) → hits j new.entries ≡ hits j es + hit slot j = λ j. ap (hits j) order ∙ hits-insert j es position (slot, tt) in
      let same : (j : ℕ) → 1 ≤ hits j es → item_at items' j ≡ item_at items j = λ j some. st.others j (λ is. absurd (omega (arith, none, some, ap (λ k. hits k es) is))) in
      let prefix : held (take position es) items' ≡ take position (held es items) =
      held-kept (take position es) items items' (λ j some. same j (omega (arith, some, hits-take-drop j position es))) ∙ held-take es items position h.filled in
      let back : held (drop position es) items' ≡ drop position (held es items) =
      held-kept (drop position es) items items' (λ j some. same j (omega (arith, some, hits-take-drop j position es))) ∙ held-drop es items position h.filled in
      record {
        keeps = record {
          slots = st.len ∙ (ap (λ n. max n (slot + 1)) h.slots ∙ sym slots);
          filled = λ j some.
              elim (cases_eq j slot) [
                | inl is ↦ subst IsSome (sym (ap (item_at items') is ∙ st.at)) refl
                | inr other ↦ subst IsSome (sym (st.others j other)) (h.filled j (omega (arith, count j, some, hit_other slot j (λ e. other (sym e)))))
              ];
          vacant = λ j out.
              st.others j (λ is. absurd (omega (arith, count j, out, ap (hit slot) is, hit_same slot))) ∙ h.vacant j (omega (arith, count j, out));
          distinct = λ j.
              elim (cases_eq j slot) [
                | inl is ↦ omega (arith, count j, none, ap (λ k. hits k es) is, ap (hit slot) is, hit_same slot)
                | inr other ↦ omega (arith, count j, h.distinct j, hit_other slot j (λ e. other (sym e)))
              ];
        };
        entries = ap (λ fs. held fs items') order ∙ (held-append (take position es) ((slot, tt) ∷ drop position es) items' ∙ rw (st.at, prefix, back) refl);
      }

  -- an item was taken out, and its slot has none
  pub record Removed (old new : Ranked (Unit {0})) (items items' : List (Option T)) (position : ℕ) : Type 0 where
    pub keeps : IsHeld new items'
    pub entries : held new.entries items' ≡ remove (held old.entries items) position

  pub removed : (old new : Ranked (Unit {0})) (items items' : List (Option T)) (position slot : ℕ) → IsHeld old items → slice_get (slots_of old.entries) position ≡ Some slot → new.entries ≡ remove old.entries position → new.slots ≡ old.slots → slot < length items → Stores items items' slot None → Removed old new items items' position
  removed old new items items' position slot h at order slots within st =
      let es = old.entries in
      let count : (j : ℕ) → hits j es ≡ hits j new.entries + hit slot j =
      λ j. omega (arith, hits_around j position slot es at, ap (hits j) order, hits-append j (take position es) (drop (suc position) es)) in
      let split : (j : ℕ) → hits j new.entries ≡ hits j (take position es) + hits j (drop (suc position) es) =
      λ j. ap (hits j) order ∙ hits-append j (take position es) (drop (suc position) es) in
      let none : hits slot new.entries ≡ 0 = omega (arith, count slot, h.distinct slot, hit_same slot) in
      let same : (j : ℕ) → 1 ≤ hits j new.entries → item_at items' j ≡ item_at items j = λ j some. st.others j (λ is. absurd (omega (arith, none, some, ap (λ k. hits k new.entries) is))) in
      let prefix : held (take position es) items' ≡ take position (held es items) =
      held-kept (take position es) items items' (λ j some. same j (omega (arith, some, split j))) ∙ held-take es items position h.filled in
      let back : held (drop (suc position) es) items' ≡ drop (suc position) (held es items) =
      held-kept (drop (suc position) es) items items' (λ j some. same j (omega (arith, some, split j))) ∙ held-drop es items (suc position) h.filled in
      record {
        keeps = record {
          slots = omega (arith, st.len, h.slots, slots, within);
          filled = λ j some. subst IsSome (sym (same j some)) (h.filled j (omega (arith, count j, some)));
          vacant = λ j out.
              elim (cases_eq j slot) [
                | inl is ↦ ap (item_at items') is ∙ st.at
                | inr other ↦ st.others j other ∙ h.vacant j (omega (arith, count j, out, hit_other slot j (λ e. other (sym e))))
              ];
          distinct = λ j. omega (arith, count j, h.distinct j);
        };
        entries = ap (λ fs. held fs items') order ∙ (held-append (take position es) (drop (suc position) es) items' ∙ rw (prefix, back) refl);
      }

  -- a tree with the same entries and slots holds the same items
  pub held_same : (old new : Ranked (Unit {0})) (items items' : List (Option T)) → new.entries ≡ old.entries → new.slots ≡ old.slots → items' ≡ items → IsHeld old items → IsHeld new items'
  held_same old new items items' entries slots same h =
      rw same (
      record {
        slots = h.slots ∙ sym slots;
        filled = λ j some. h.filled j (omega (arith, some, ap (hits j) entries));
        vacant = λ j out. h.vacant j (omega (arith, out, ap (hits j) entries));
        distinct = λ j. omega (arith, h.distinct j, ap (hits j) entries);
      }
      )

  -- a slot with an item is one of the vector
  pub slot_within : (items : List (Option T)) (slot : ℕ) → IsSome (item_at items slot) → slot < length items
  slot_within items slot some =
      elim (cases_lt slot (length items)) [
        | inl within ↦ within
        | inr past ↦ let none : item_at items slot ≡ None = get_or_past items slot None past in absurd (cc)
      ]

  -- what is known of a live slot
  pub live_filled : (tree : Ranked (Unit {0})) (items : List (Option T)) (slot : ℕ) → IsHeld tree items → Contains (slots_of tree.entries) slot → IsSome (item_at items slot)
  live_filled tree items slot h live = h.filled slot (hits_from_Contains tree.entries slot live)

  -- a fresh slot had no item
  pub fresh_vacant : (tree : Ranked (Unit {0})) (items : List (Option T)) (slot : ℕ) → IsHeld tree items → (Contains (slots_of tree.entries) slot → ⊥) → item_at items slot ≡ None
  fresh_vacant tree items slot h fresh =
      elim (cases_lt 0 (hits slot tree.entries)) [
        | inl some ↦ absurd (fresh (Contains_from_hits tree.entries slot some))
        | inr none ↦ h.vacant slot (omega arith)
      ]

  pub held_empty : (tree : Ranked (Unit {0})) (items : List (Option T)) → tree.entries ≡ [] → tree.slots ≡ 0 → items ≡ [] → IsHeld tree items
  held_empty tree items none no_slots no_items =
      rw no_items (
      record {
        slots = sym no_slots;
        filled = λ j some. absurd (omega (arith, some, ap (hits j) none));
        vacant = λ j out. refl;
        distinct = λ j. omega (arith, ap (hits j) none);
      }
      )

  pub no_item : (o : Option T) → IsSome o → o ≡ None → ⊥
  no_item None some none = absurd (cc)
  no_item (Some x) some none = absurd (cc)

  -- the item in the slot of a live handle
  pub item_found : (tree : Ranked (Unit {0})) (items : List (Option T)) (entries : List (ℕ × T)) (handle slot : ℕ) (x : T) → IsHeld tree items → entries ≡ held tree.entries items → Contains (slots_of tree.entries) handle → slot ≡ handle → item_at items slot ≡ Some x → Contains entries (handle, x)
  item_found tree items entries handle slot x h shown live is at =
      let k = get_from_Contains (slots_of tree.entries) handle live in
      let found = get-held tree.entries items k.0 handle x h.filled k.1 (ap (item_at items) (sym is) ∙ at) in
      Contains_from_get entries k.0 (handle, x) (ap (λ xs. slice_get xs k.0) shown ∙ found)

  -- another item in a slot that has one
  pub item_at-set : (items : List (Option T)) (slot : ℕ) (x : T) → slot < length items → item_at (set items slot (Some x)) slot ≡ Some x
  item_at-set items slot x within = get_or-set_same items slot (Some x) None within

  pub held-set : (es : List (ℕ × Unit {0})) (items : List (Option T)) (slot : ℕ) (x : T) → AreFilled es items → slot < length items → held es (set items slot (Some x)) ≡ with_item (held es items) slot x
  held-set [] items slot x filled within = refl
  held-set (e ∷ es) items slot x filled within =
      let y = first_filled e es items filled in
      let rest = held-set es items slot x (rest_filled e es items filled) within in
      elim (cases_eq e.0 slot) [
        | inl same ↦
            let at : item_at (set items slot (Some x)) e.0 ≡ Some x = ap (item_at (set items slot (Some x))) same ∙ item_at-set items slot x within in
            rw (at, y.1, rest, eq-eqb e.0 slot same, same) refl
        | inr other ↦
            let at : item_at (set items slot (Some x)) e.0 ≡ Some y.0 = get_or-set_other items slot e.0 (Some x) None other ∙ y.1 in
            rw (at, y.1, rest, ne_eqb e.0 slot other) refl
      ]

  pub IsHeld-set : (tree : Ranked (Unit {0})) (items : List (Option T)) (slot : ℕ) (x : T) → IsHeld tree items → Contains (slots_of tree.entries) slot → IsHeld tree (set items slot (Some x))
  IsHeld-set tree items slot x h live =
      let within = slot_within items slot (live_filled tree items slot h live) in
      let some = hits_from_Contains tree.entries slot live in
      record {
        slots = length-set items slot (Some x) ∙ h.slots;
        filled = λ j one.
            elim (cases_eq j slot) [
              | inl same ↦ subst IsSome (sym (ap (item_at (set items slot (Some x))) same ∙ item_at-set items slot x within)) refl
              | inr other ↦ subst IsSome (sym (get_or-set_other items slot j (Some x) None other)) (h.filled j one)
            ];
        vacant = λ j out. get_or-set_other items slot j (Some x) None (λ same. absurd (omega (arith, some, out, ap (λ k. hits k tree.entries) same))) ∙ h.vacant j out;
        distinct = h.distinct;
      }
