-- Lemmas on what a client sees of a tree.
use Rattle.std.proofs.Common.{max, ◌≡◌, ℕ, zero, suc, ◌+◌, ◌*◌, ◌<◌, ◌≤◌, ◌^◌, List, [], ◌∷◌, ◌++◌, length, get_or, Some, refl, sym, ap, ◌∙◌, subst, inl, inr, arith, append_assoc, length-append, Contains}
use Rattle.std.specs.List.{slice_get}
use Rattle.std.proofs.lemmas.Bool.{cases_lt, cases_eq}
use Rattle.std.proofs.Math.Nat.{pow-suc}
use Rattle.std.proofs.Math.Pow.{pow_mono}
use Rattle.std.proofs.lemmas.Grind.{pow_more}
use Rattle.gl_ranktree.specs.Summary.{Sums}
use Rattle.gl_ranktree.specs.Tree.{Tree, leaf, fork, root, tree_size, tree_height, inorder, times, hit, hits, Inside, SplitsAt}
use Rattle.gl_ranktree.specs.Tree.Inside.{whole, on_left, on_right}
use Rattle.gl_ranktree.specs.Nodes.{node_at, Realizes}
use Rattle.gl_ranktree.specs.Finds.{IsWithin}
use Rattle.gl_ranktree.specs.Ranked.{Ranked, entries_under, Ranks, slots_of}
use Rattle.gl_ranktree.specs.declared.node.Node.{Node}
use Rattle.gl_ranktree.proofs.Trees.{hit_same, hit_other}
use Rattle.gl_ranktree.proofs.Links.{head}
use Rattle.gl_ranktree.proofs.Edits.{hits-inorder, length-inorder}
use Rattle.gl_ranktree.proofs.Finds.{inside_order, inside_stands, inside_size}
use Rattle.gl_ranktree.proofs.Vacancies.{entries_are}

module _ {S : Type 0} where
  slice_get_at : (prefix back : List (ℕ × S)) (e : ℕ × S) → slice_get (prefix ++ e ∷ back) (length prefix) ≡ Some e
  slice_get_at [] back e = refl
  slice_get_at (x ∷ prefix) back e = slice_get_at prefix back e

  pub slice_get_split : (xs : List (ℕ × S)) (k : ℕ) (e : ℕ × S) → SplitsAt xs k e → slice_get xs k ≡ Some e
  slice_get_split xs k e s = ap (λ ys. slice_get ys k) s.is ∙ (ap (λ n. slice_get (s.prefix ++ e ∷ s.back) n) (sym s.len) ∙ slice_get_at s.prefix s.back e)

  slot_get_at : (prefix back : List (ℕ × S)) (e : ℕ × S) → slice_get (slots_of (prefix ++ e ∷ back)) (length prefix) ≡ Some e.0
  slot_get_at [] back e = refl
  slot_get_at (x ∷ prefix) back e = slot_get_at prefix back e

  pub slot_get_split : (xs : List (ℕ × S)) (k : ℕ) (e : ℕ × S) → SplitsAt xs k e → slice_get (slots_of xs) k ≡ Some e.0
  slot_get_split xs k e s = ap (λ ys. slice_get (slots_of ys) k) s.is ∙ (ap (λ n. slice_get (slots_of (s.prefix ++ e ∷ s.back)) n) (sym s.len) ∙ slot_get_at s.prefix s.back e)

  pub hits_from_get : (es : List (ℕ × S)) (slot k : ℕ) → slice_get (slots_of es) k ≡ Some slot → 1 ≤ hits slot es
  hits_from_get [] slot k found = absurd (cc)
  hits_from_get (e ∷ es) slot zero found = let same : e.0 ≡ slot = cc in omega (arith, hit_same slot, ap (λ i. hit i slot) same)
  hits_from_get (e ∷ es) slot (suc k) found = omega (arith, hits_from_get es slot k found)

  hits_at : (es : List (ℕ × S)) (slot k : ℕ) → k < length (slots_of es) → get_or (slots_of es) k slot ≡ slot → 1 ≤ hits slot es
  hits_at [] slot k within found = absurd (omega (arith, within))
  hits_at (e ∷ es) slot zero within found = omega (arith, hit_same slot, ap (λ i. hit i slot) found)
  hits_at (e ∷ es) slot (suc k) within found = omega (arith, hits_at es slot k (omega (arith, within)) found)

  pub hits_from_Contains : (es : List (ℕ × S)) (slot : ℕ) → Contains (slots_of es) slot → 1 ≤ hits slot es
  hits_from_Contains es slot found = hits_at es slot found.0 found.1 found.2

  -- a slot that occurs once has one place
  pub one_position : (es : List (ℕ × S)) (slot j k : ℕ) → hits slot es ≤ 1 → slice_get (slots_of es) j ≡ Some slot → slice_get (slots_of es) k ≡ Some slot → j ≡ k
  one_position [] slot j k once at_j at_k = absurd (cc)
  one_position (e ∷ es) slot zero zero once at_j at_k = refl
  one_position (e ∷ es) slot zero (suc k) once at_j at_k =
      let same : e.0 ≡ slot = cc in
      absurd (omega (arith, once, hit_same slot, ap (λ i. hit i slot) same, hits_from_get es slot k at_k))
  one_position (e ∷ es) slot (suc j) zero once at_j at_k =
      let same : e.0 ≡ slot = cc in
      absurd (omega (arith, once, hit_same slot, ap (λ i. hit i slot) same, hits_from_get es slot j at_j))
  one_position (e ∷ es) slot (suc j) (suc k) once at_j at_k = ap suc (one_position es slot j k (omega (arith, once)) at_j at_k)

  -- the subtree under a slot of the tree
  pub record Found (slot : ℕ) (t : Tree S) : Type 0 where
    pub l : Tree S
    pub w : S
    pub r : Tree S
    pub prefix : List (ℕ × S)
    pub inside : Inside t (fork l slot w r) prefix

  found_below : (slot : ℕ) (t u : Tree S) (before : List (ℕ × S)) → Inside t u before → 1 ≤ times slot u → Found slot t
  found_below slot t leaf before inside some = absurd (omega (arith, some))
  found_below slot t (fork l i w r) before inside some =
      elim (cases_eq i slot) [
        | inl same ↦ record { l = l; w = w; r = r; prefix = before; inside = subst (λ k. Inside t (fork l k w r) before) same inside }
        | inr other ↦
            elim (cases_lt 0 (times slot l)) [
              | inl left ↦ found_below slot t l before (on_left inside) left
              | inr no_left ↦ found_below slot t r (before ++ (inorder l ++ (i, w) ∷ [])) (on_right inside) (omega (arith, hit_other i slot other, some, no_left))
            ]
      ]

  pub found : (slot : ℕ) (t : Tree S) → 1 ≤ times slot t → Found slot t
  found slot t some = found_below slot t t [] whole some

  -- where that entry stands
  pub found_at : (slot : ℕ) (t : Tree S) (f : Found slot t) → SplitsAt (inorder t) (length f.prefix + tree_size f.l) (slot, f.w)
  found_at slot t f =
      let o = inside_order t (fork f.l slot f.w f.r) f.prefix f.inside in
      record {
        prefix = f.prefix ++ inorder f.l;
        back = inorder f.r ++ o.0;
        is = o.1 ∙ simp append_assoc;
        len = omega (arith, length-append f.prefix (inorder f.l), length-inorder f.l);
      }

module _ {S : Type 0} where
  -- a binary tree of so many levels has fewer than 2 ^ levels nodes
  pub size_below_pow : (t : Tree S) → tree_size t < 2 ^ tree_height t
  size_below_pow leaf = omega arith
  size_below_pow (fork l i w r) =
      let levels = max (tree_height l) (tree_height r) in
      let on_left : tree_height l ≤ levels = omega arith in
      let on_right : tree_height r ≤ levels = omega arith in
      omega (arith, pow_more 2 levels, size_below_pow l, size_below_pow r, pow_mono on_left, pow_mono on_right)

module _ {S : Type 0} (m : Sums S) where
  -- a tree of fewer than 2 ^ digits entries is no higher than twice the digits
  pub shallow : (digits : ℕ) (nodes : List (Node S)) (t : Tree S) → Realizes m nodes t → tree_size t < 2 ^ digits → tree_height t ≤ 2 * digits
  shallow digits nodes leaf stands small = omega arith
  shallow zero nodes (fork l i w r) stands small = absurd (omega (arith, small))
  shallow (suc digits) nodes (fork l i w r) stands small =
      let whole : tree_size l + tree_size r + 1 < 2 ^ digits * 2 = rw pow-suc at small in
      let near = stands.0.balanced in
      elim (cases_lt (tree_size l) (2 ^ digits)) [
        | inl left ↦ omega (arith, shallow digits nodes l stands.1 left, near)
        | inr large ↦ omega (arith, shallow digits nodes r stands.2 (omega (arith, whole, large)), near)
      ]

  pub within_from_found : (nodes : List (Node S)) (top vacant slot : ℕ) (t : Tree S) (free : List ℕ) → Ranks m nodes top vacant t free → (f : Found slot t) → IsWithin m nodes slot t (fork f.l slot f.w f.r) f.prefix
  within_from_found nodes top vacant slot t free r f =
      record {
        stands = record { top_is = refl; stands = r.stands.stands; apart = r.stands.apart; addressed = r.stands.addressed; small = r.stands.small };
        alone = r.alone;
        inside = f.inside;
        slot_is = refl;
        filled = omega arith;
      }

  -- how many entries stand in the left side of the subtree under a slot
  pub left_size : (nodes : List (Node S)) (top vacant slot : ℕ) (t : Tree S) (free : List ℕ) (n x : Node S) → Ranks m nodes top vacant t free → (f : Found slot t) → n ≡ node_at m nodes slot → x ≡ node_at m nodes n.left → x.size ≡ tree_size f.l
  left_size nodes top vacant slot t free n x r f read read_left =
      let s = inside_stands m nodes t (fork f.l slot f.w f.r) f.prefix f.inside r.stands.stands in
      let left_is : n.left ≡ root f.l = ap (λ (y : Node S). y.left) read ∙ s.0.left in
      ap (λ (y : Node S). y.size) read_left ∙ (head m nodes n.left f.l r.stands.addressed left_is s.1).size

  -- the entries that are seen are those of the tree
  pub seen : (nodes : List (Node S)) (top vacant : ℕ) (t : Tree S) (free : List ℕ) (value : Ranked S) (slots room : ℕ) → Ranks m nodes top vacant t free → record { entries = entries_under m nodes top; slots = slots; room = room } ≡ value → value.entries ≡ inorder t
  seen nodes top vacant t free value slots room r is = ap (λ (x : Ranked S). x.entries) (sym is) ∙ entries_are m nodes top t r.stands

  -- the place of a slot, by what is read on the way
  pub record PlaceOf (nodes : List (Node S)) (slot : ℕ) (t : Tree S) (entries : List (ℕ × S)) : Type 0 where
    pub u : Tree S
    pub prefix : List (ℕ × S)
    pub within : IsWithin m nodes slot t u prefix
    pub is : (n x : Node S) → n ≡ node_at m nodes slot → x ≡ node_at m nodes n.left → (k : ℕ) → k ≡ length prefix → (k + x.size < 2 ^ 32) × (slice_get (slots_of entries) (k + x.size) ≡ Some slot) × ((j : ℕ) → slice_get (slots_of entries) j ≡ Some slot → j ≡ k + x.size)

  pub place_of : (nodes : List (Node S)) (top vacant slot : ℕ) (t : Tree S) (free : List ℕ) (entries : List (ℕ × S)) → Ranks m nodes top vacant t free → entries ≡ inorder t → Contains (slots_of entries) slot → PlaceOf nodes slot t entries
  place_of nodes top vacant slot t free entries r seen has =
      let some : 1 ≤ times slot t = omega (arith, hits_from_Contains entries slot has, ap (hits slot) seen, hits-inorder slot t) in
      let f = found slot t some in
      let at = slot_get_split (inorder t) _ _ (found_at slot t f) in
      record {
        u = fork f.l slot f.w f.r;
        prefix = f.prefix;
        within = within_from_found nodes top vacant slot t free r f;
        is = λ n x read read_left k k_is.
            let left = left_size nodes top vacant slot t free n x r f read read_left in
            let sum_is : k + x.size ≡ length f.prefix + tree_size f.l = omega (arith, k_is, left) in
            let here : slice_get (slots_of entries) (k + x.size) ≡ Some slot = ap (λ q. slice_get (slots_of entries) q) sum_is ∙ (ap (λ xs. slice_get (slots_of xs) (length f.prefix + tree_size f.l)) seen ∙ at) in (
              omega (arith, sum_is, inside_size t (fork f.l slot f.w f.r) f.prefix f.inside, r.stands.small),
              here,
              λ j at_j. one_position entries slot j (k + x.size) (omega (arith, ap (hits slot) seen, hits-inorder slot t, r.stands.apart slot)) at_j here,
            );
      }

module _ {S : Type 0} where
  -- a slot that occurs is one of the slots
  pub Contains_from_hits : (es : List (ℕ × S)) (slot : ℕ) → 1 ≤ hits slot es → Contains (slots_of es) slot
  Contains_from_hits [] slot some = absurd (omega (arith, some))
  Contains_from_hits (e ∷ es) slot some =
      elim (cases_eq e.0 slot) [
        | inl same ↦ (0, omega arith, same)
        | inr other ↦
            let later = Contains_from_hits es slot (omega (arith, hit_other e.0 slot other, some)) in
            (suc later.0, omega (arith, later.1), later.2)
      ]
