-- Lemmas for the search by a measure.
use Rattle.std.proofs.Common.{◌≡◌, ℕ, ◌+◌, ◌<◌, ◌≤◌, List, [], ◌∷◌, ◌++◌, length, Option, Some, None, refl, sym, ap, ◌∙◌, subst, arith, append_assoc, length-append, IsTrue}
use Rattle.gl_ranktree.specs.Summary.{Sums, AreSums}
use Rattle.gl_ranktree.specs.Tree.{Tree, leaf, fork, inorder, tree_sum, tree_size, list_sum, left_of, right_of}
use Rattle.gl_ranktree.specs.Nodes.{node_at}
use Rattle.gl_ranktree.specs.Edits.{Stands}
use Rattle.gl_ranktree.specs.Sought.{first_own, Passes, IsSought}
use Rattle.gl_ranktree.specs.declared.node.Node.{Node}
use Rattle.gl_ranktree.proofs.Links.{head_read}
use Rattle.gl_ranktree.proofs.Edits.{Below, length-inorder}

module _ {S : Type 0} where
  first_own-append : (xs ys : List (ℕ × S)) → 1 ≤ length xs → first_own (xs ++ ys) ≡ first_own xs
  first_own-append [] ys some = absurd (omega (arith, some))
  first_own-append (x ∷ xs) ys some = refl

  Passes-append : (measured : S → ℕ) (so_far k : ℕ) (xs ys : List (ℕ × S)) → 1 ≤ length xs → Passes measured so_far k xs → Passes measured so_far k (xs ++ ys)
  Passes-append measured so_far k [] ys some h = absurd (omega (arith, some))
  Passes-append measured so_far k (x ∷ xs) ys some h = h

  some-below : (xs : List (ℕ × S)) → (xs ≡ [] → ⊥) → 1 ≤ length xs
  some-below [] none = absurd (none refl)
  some-below (x ∷ xs) none = omega arith

module _ {S : Type 0} (m : Sums S) (laws : AreSums m) where
  pub list_sum-append : (xs ys : List (ℕ × S)) → list_sum m (xs ++ ys) ≡ m.plus (list_sum m xs) (list_sum m ys)
  list_sum-append [] ys = sym (laws.left_unit (list_sum m ys))
  list_sum-append (x ∷ xs) ys =
      ap (λ v. m.plus x.1 v) (list_sum-append xs ys) ∙ sym (laws.assoc x.1 (list_sum m xs) (list_sum m ys))

  pub list_sum-inorder : (t : Tree S) → list_sum m (inorder t) ≡ tree_sum m t
  list_sum-inorder leaf = refl
  list_sum-inorder (fork l i w r) =
      list_sum-append (inorder l) ((i, w) ∷ inorder r) ∙ (sym (laws.assoc (list_sum m (inorder l)) w (list_sum m (inorder r))) ∙ (ap (λ v. m.plus (m.plus v w) (list_sum m (inorder r))) (list_sum-inorder l) ∙ ap (λ v. m.plus (m.plus (tree_sum m l) w) v) (list_sum-inorder r)))

module _ {S : Type 0} (m : Sums S) (laws : AreSums m) (measured : S → ℕ) (empty : measured m.zero ≡ 0) (additive : (x y : S) → measured (m.plus x y) ≡ measured x + measured y) where
  pub sought_none : (k : ℕ) → IsSought m measured [] k 0 m.zero None
  sought_none k =
      record { prefix = []; back = []; is = refl; position_is = refl; before_is = refl; own_is = refl; reached = omega (arith, empty); passed = tt }

  pub sought_left : (xs ys : List (ℕ × S)) (e : ℕ × S) (k position : ℕ) (before : S) (own : Option S) → k < measured (list_sum m xs) → IsSought m measured xs k position before own → IsSought m measured (xs ++ e ∷ ys) k position before own
  sought_left xs ys e k position before own passes s =
      let some : 1 ≤ length s.back = some-below s.back (λ none. absurd (omega (arith, passes, s.reached, ap (λ zs. measured (list_sum m zs)) (s.is ∙ ap (λ zs. s.prefix ++ zs) none), ap (λ v. measured v) (list_sum-append m laws s.prefix []), additive (list_sum m s.prefix) m.zero, empty))) in
      record {
        prefix = s.prefix;
        back = s.back ++ e ∷ ys;
        is = ap (λ zs. zs ++ e ∷ ys) s.is ∙ append_assoc s.prefix s.back (e ∷ ys);
        position_is = s.position_is;
        before_is = s.before_is;
        own_is = s.own_is ∙ sym (first_own-append s.back (e ∷ ys) some);
        reached = s.reached;
        passed = Passes-append measured (measured (list_sum m s.prefix)) k s.back (e ∷ ys) some s.passed;
      }

  pub sought_here : (xs ys : List (ℕ × S)) (e : ℕ × S) (k : ℕ) → measured (list_sum m xs) ≤ k → k < measured (m.plus (list_sum m xs) e.1) → IsSought m measured (xs ++ e ∷ ys) k (length xs) (list_sum m xs) (Some e.1)
  sought_here xs ys e k reached passes =
      record { prefix = xs; back = e ∷ ys; is = refl; position_is = refl; before_is = refl; own_is = refl; reached = reached; passed = omega (arith, passes, additive (list_sum m xs) e.1) }

  Passes-later : (a b j k : ℕ) (xs : List (ℕ × S)) → k ≡ a + j → Passes measured b j xs → Passes measured (a + b) k xs
  Passes-later a b j k [] is h = tt
  Passes-later a b j k (x ∷ xs) is h = omega (arith, is, h)

  pub sought_right : (xs ys : List (ℕ × S)) (e : ℕ × S) (k j position p : ℕ) (before b : S) (own : Option S) → k ≡ measured (m.plus (list_sum m xs) e.1) + j → position ≡ length xs + 1 + p → before ≡ m.plus (m.plus (list_sum m xs) e.1) b → IsSought m measured ys j p b own → IsSought m measured (xs ++ e ∷ ys) k position before own
  sought_right xs ys e k j position p before b own k_is position_is before_is s =
      let through = m.plus (list_sum m xs) e.1 in
      let sum_is : list_sum m (xs ++ e ∷ s.prefix) ≡ m.plus through (list_sum m s.prefix) =
      list_sum-append m laws xs (e ∷ s.prefix) ∙ sym (laws.assoc (list_sum m xs) e.1 (list_sum m s.prefix)) in
      let measured_is : measured through + measured (list_sum m s.prefix) ≡ measured (list_sum m (xs ++ e ∷ s.prefix)) =
      sym (ap measured sum_is ∙ additive through (list_sum m s.prefix)) in
      record {
        prefix = xs ++ e ∷ s.prefix;
        back = s.back;
        is = ap (λ zs. xs ++ e ∷ zs) s.is ∙ sym (append_assoc xs (e ∷ s.prefix) s.back);
        position_is = omega (arith, position_is, s.position_is, length-append xs (e ∷ s.prefix));
        before_is = before_is ∙ (ap (λ v. m.plus through v) s.before_is ∙ sym sum_is);
        own_is = s.own_is;
        reached = omega (arith, measured_is, s.reached, k_is);
        passed = subst (λ n. Passes measured n k s.back) measured_is (Passes-later (measured through) (measured (list_sum m s.prefix)) j k s.back k_is s.passed);
      }

-- what is read below the root of a tree whose sum the type can hold
module _ {S : Type 0} (m : Sums S) (laws : AreSums m) where
  pub record Read (t : Tree S) (top : ℕ) (here left : Node S) : Type 0 where
    pub order : inorder t ≡ inorder (left_of t) ++ (top, here.own) ∷ inorder (right_of t)
    pub left_size : left.size ≡ length (inorder (left_of t))
    pub left_sum : left.sum ≡ list_sum m (inorder (left_of t))
    pub left_fits : IsTrue (m.fits (tree_sum m (left_of t)))
    pub through_fits : IsTrue (m.fits (m.plus left.sum here.own))
    pub right_fits : IsTrue (m.fits (tree_sum m (right_of t)))
    pub whole_fits : IsTrue (m.fits (m.plus (m.plus left.sum here.own) (list_sum m (inorder (right_of t)))))
    pub size : tree_size t ≡ length (inorder (left_of t)) + length (inorder (right_of t)) + 1

  pub read_below : (nodes : List (Node S)) (top : ℕ) (t : Tree S) (here left : Node S) → Stands m nodes top t → Below m nodes top t here → IsTrue (m.fits (tree_sum m t)) → here ≡ node_at m nodes top → left ≡ node_at m nodes here.left → Read t top here left
  read_below nodes top t here left s b fits read read_left =
      let h = head_read m nodes here.left (left_of t) left s.addressed b.left_is b.left_stands read_left in
      let own_is : here.own ≡ b.w = ap (λ (n : Node S). n.own) read ∙ b.at.own in
      let sum_is : tree_sum m t ≡ m.plus (m.plus (tree_sum m (left_of t)) b.w) (tree_sum m (right_of t)) = ap (λ u. tree_sum m u) b.is in
      let F : S → Type 0 = λ v. IsTrue (m.fits v) in
      let whole : IsTrue (m.fits (m.plus (m.plus (tree_sum m (left_of t)) b.w) (tree_sum m (right_of t)))) = subst F sum_is fits in
      let through = laws.fits_left _ _ whole in
      let left_fits = laws.fits_left _ _ through in
      let left_is : left.sum ≡ tree_sum m (left_of t) = h.sum left_fits in
      let through_is : m.plus left.sum here.own ≡ m.plus (tree_sum m (left_of t)) b.w = ap (λ v. m.plus v here.own) left_is ∙ ap (λ v. m.plus (tree_sum m (left_of t)) v) own_is in
      let whole_is : m.plus (m.plus left.sum here.own) (list_sum m (inorder (right_of t))) ≡ m.plus (m.plus (tree_sum m (left_of t)) b.w) (tree_sum m (right_of t)) =
      ap (λ v. m.plus v (list_sum m (inorder (right_of t)))) through_is ∙ ap (λ v. m.plus (m.plus (tree_sum m (left_of t)) b.w) v) (list_sum-inorder m laws (right_of t)) in
      record {
        order = b.order ∙ ap (λ v. inorder (left_of t) ++ (top, v) ∷ inorder (right_of t)) (sym own_is);
        left_size = omega (arith, h.size, length-inorder (left_of t));
        left_sum = left_is ∙ sym (list_sum-inorder m laws (left_of t));
        left_fits = left_fits;
        through_fits = subst F (sym through_is) through;
        right_fits = laws.fits_right _ _ whole;
        whole_fits = subst F (sym whole_is) whole;
        size = omega (arith, b.size, length-inorder (left_of t), length-inorder (right_of t));
      }

  -- the sum so far on the right side is one that the type can hold
  pub rest_fits : (through : S) (es : List (ℕ × S)) (measured : S → ℕ) (k position : ℕ) (before : S) (own : Option S) → IsTrue (m.fits (m.plus through (list_sum m es))) → IsSought m measured es k position before own → IsTrue (m.fits (m.plus through before))
  rest_fits through es measured k position before own fits s =
      let F : S → Type 0 = λ v. IsTrue (m.fits v) in
      let is : m.plus through (list_sum m es) ≡ m.plus (m.plus through before) (list_sum m s.back) =
      ap (λ v. m.plus through v) (ap (list_sum m) s.is ∙ (list_sum-append m laws s.prefix s.back ∙ ap (λ v. m.plus v (list_sum m s.back)) (sym s.before_is))) ∙ sym (laws.assoc through before (list_sum m s.back)) in
      laws.fits_left _ _ (subst F is fits)
