-- The lengths in the entries of a tree, and their sums.
use Rattle.std.specs.Prelude.{◌≡◌, ℕ, zero, suc, ◌+◌, ◌-◌, ◌<◌, ◌≤◌, List, [], ◌∷◌, ◌++◌, length, take, sum, insert, remove, slice_get, slice_set, Option, Some, None, option_map, refl}
use Rattle.std.proofs.Common.{ap, sym, ◌∙◌, arith, subst}
use Rattle.std.proofs.lemmas.List.{length-append, append-nil}
use Rattle.std.proofs.lemmas.List.Sums.{sum_by-cons, sum_by-append}
use Rattle.gl_ranktree.specs.Tree.{with_own, list_sum}
use Rattle.gl_ranktree.specs.Sought.{IsSought, first_own, Passes}
use Rattle.gl_joined.specs.Sums.{length_sums}
use Rattle.gl_joined.specs.Kept.{lens_of, AreSingle}
use Rattle.gl_joined.specs.Located.{StandsAt}
use Rattle.gl_joined.specs.declared.length.Length.{Length}

abbrev pub part_of : ℕ → Length
part_of n = record { parts = 1; elements = n }

pub sum-first : (n : ℕ) (ns : List ℕ) → sum (n ∷ ns) ≡ n + sum ns
sum-first n ns = sum_by-cons (λ x. x) n ns

pub sum-append : (ms ns : List ℕ) → sum (ms ++ ns) ≡ sum ms + sum ns
sum-append ms ns = sum_by-append (λ x. x) ms ns

pub single-append : (xs ys : List (ℕ × Length)) → AreSingle xs → AreSingle ys → AreSingle (xs ++ ys)
single-append [] ys a b = b
single-append (x ∷ xs) ys a b = (a.0, single-append xs ys a.1 b)

pub single-prefix : (xs ys : List (ℕ × Length)) → AreSingle (xs ++ ys) → AreSingle xs
single-prefix [] ys a = tt
single-prefix (x ∷ xs) ys a = (a.0, single-prefix xs ys a.1)

single-back : (xs ys : List (ℕ × Length)) → AreSingle (xs ++ ys) → AreSingle ys
single-back [] ys a = a
single-back (x ∷ xs) ys a = single-back xs ys a.1

pub single-insert : (es : List (ℕ × Length)) (at slot n : ℕ) → AreSingle es → AreSingle (insert es at (slot, part_of n))
single-insert [] zero slot n a = (refl, tt)
single-insert [] (suc at) slot n a = (refl, tt)
single-insert (e ∷ es) zero slot n a = (refl, a)
single-insert (e ∷ es) (suc at) slot n a = (a.0, single-insert es at slot n a.1)

pub single-remove : (es : List (ℕ × Length)) (at : ℕ) → AreSingle es → AreSingle (remove es at)
single-remove [] zero a = tt
single-remove [] (suc at) a = tt
single-remove (e ∷ es) zero a = a.1
single-remove (e ∷ es) (suc at) a = (a.0, single-remove es at a.1)

pub single-set : (es : List (ℕ × Length)) (at n : ℕ) → AreSingle es → AreSingle (with_own es at (part_of n))
single-set [] at n a = tt
single-set (e ∷ es) zero n a = (refl, a.1)
single-set (e ∷ es) (suc at) n a = (a.0, single-set es at n a.1)

pub lens-insert : (es : List (ℕ × Length)) (at slot n : ℕ) → lens_of (insert es at (slot, part_of n)) ≡ insert (lens_of es) at n
lens-insert [] zero slot n = refl
lens-insert [] (suc at) slot n = refl
lens-insert (e ∷ es) zero slot n = refl
lens-insert (e ∷ es) (suc at) slot n = ap (λ ns. e.1.elements ∷ ns) (lens-insert es at slot n)

pub lens-remove : (es : List (ℕ × Length)) (at : ℕ) → lens_of (remove es at) ≡ remove (lens_of es) at
lens-remove [] zero = refl
lens-remove [] (suc at) = refl
lens-remove (e ∷ es) zero = refl
lens-remove (e ∷ es) (suc at) = ap (λ ns. e.1.elements ∷ ns) (lens-remove es at)

pub lens-set : (es : List (ℕ × Length)) (at n : ℕ) → lens_of (with_own es at (part_of n)) ≡ slice_set (lens_of es) at n
lens-set [] at n = refl
lens-set (e ∷ es) zero n = refl
lens-set (e ∷ es) (suc at) n = ap (λ ns. e.1.elements ∷ ns) (lens-set es at n)

pub lens-get : (es : List (ℕ × Length)) (at : ℕ) → slice_get (lens_of es) at ≡ option_map (λ e. e.1.elements) (slice_get es at)
lens-get [] at = refl
lens-get (e ∷ es) zero = refl
lens-get (e ∷ es) (suc at) = lens-get es at

pub length-lens : (es : List (ℕ × Length)) → length (lens_of es) ≡ length es
length-lens [] = refl
length-lens (e ∷ es) = ap suc (length-lens es)

pub length-set_own : (es : List (ℕ × Length)) (at n : ℕ) → length (with_own es at (part_of n)) ≡ length es
length-set_own [] at n = refl
length-set_own (e ∷ es) zero n = refl
length-set_own (e ∷ es) (suc at) n = ap suc (length-set_own es at n)

lens-append : (xs ys : List (ℕ × Length)) → lens_of (xs ++ ys) ≡ lens_of xs ++ lens_of ys
lens-append [] ys = refl
lens-append (x ∷ xs) ys = ap (λ ns. x.1.elements ∷ ns) (lens-append xs ys)

-- the entries' sums
pub parts-sum : (es : List (ℕ × Length)) → AreSingle es → (list_sum length_sums es).parts ≡ length es
parts-sum [] a = refl
parts-sum (e ∷ es) a = omega (arith, a.0, parts-sum es a.1)

pub elements-sum : (es : List (ℕ × Length)) → (list_sum length_sums es).elements ≡ sum (lens_of es)
elements-sum [] = refl
elements-sum (e ∷ es) = omega (arith, elements-sum es, sum-first e.1.elements (lens_of es))

take_prefix : (ms ns : List ℕ) → take (length ms) (ms ++ ns) ≡ ms
take_prefix [] ns = refl
take_prefix (m ∷ ms) ns = ap (λ ks. m ∷ ks) (take_prefix ms ns)

prefix_lens : (es prefix back : List (ℕ × Length)) → es ≡ prefix ++ back → take (length prefix) (lens_of es) ≡ lens_of prefix
prefix_lens es prefix back is =
    ap (λ xs. take (length prefix) (lens_of xs)) is
    ∙ (ap (λ ns. take (length prefix) ns) (lens-append prefix back)
    ∙ (ap (λ k. take k (lens_of prefix ++ lens_of back)) (sym (length-lens prefix)) ∙ take_prefix (lens_of prefix) (lens_of back)))

-- a search by parts stops at the index that it was given
stops_at : (es prefix back : List (ℕ × Length)) (index : ℕ) → AreSingle es → index ≤ length es → es ≡ prefix ++ back
    → (list_sum length_sums prefix).parts ≤ index → Passes (λ x. x.parts) (list_sum length_sums prefix).parts index back
    → index ≡ length prefix
stops_at es prefix [] index a within is reached passed =
    let single : AreSingle (prefix ++ []) = subst AreSingle is a in
    omega (arith, reached, parts-sum prefix (single-prefix prefix [] single), within, ap length is, length-append prefix [])
stops_at es prefix (e ∷ back) index a within is reached passed =
    let single : AreSingle (prefix ++ e ∷ back) = subst AreSingle is a in
    omega (arith, reached, passed, parts-sum prefix (single-prefix prefix (e ∷ back) single), (single-back prefix (e ∷ back) single).0)

-- the lengths before an index, added up
pub sum_before : (es : List (ℕ × Length)) (index position : ℕ) (before : Length) (own : Option Length) → AreSingle es → index ≤ length es
    → IsSought length_sums (λ x. x.parts) es index position before own
    → before.elements ≡ sum (take index (lens_of es))
sum_before es index position before own a within s =
    let at : index ≡ length s.prefix = stops_at es s.prefix s.back index a within s.is s.reached s.passed in
    ap (λ x. x.elements) s.before_is
    ∙ (elements-sum s.prefix ∙ (ap sum (sym (prefix_lens es s.prefix s.back s.is)) ∙ ap (λ k. sum (take k (lens_of es))) (sym at)))

next_after : (prefix : List (ℕ × Length)) (e : ℕ × Length) (back : List (ℕ × Length)) → slice_get (lens_of (prefix ++ e ∷ back)) (length prefix) ≡ Some e.1.elements
next_after [] e back = refl
next_after (x ∷ prefix) e back = next_after prefix e back

-- the part in which a position stands
pub located : (es : List (ℕ × Length)) (position at : ℕ) (before own : Length) → IsSought length_sums (λ x. x.elements) es position at before (Some own)
    → StandsAt (lens_of es) position at (position - before.elements)
located es position at before own s = by_back s.back refl s.own_is
  where
    by_back : (back : List (ℕ × Length)) → s.back ≡ back → Some own ≡ first_own back → StandsAt (lens_of es) position at (position - before.elements)
    by_back [] e f = absurd cc
    by_back (x ∷ back) e f =
        let prefix : List (ℕ × Length) = s.prefix in
        let is : es ≡ prefix ++ x ∷ back = s.is ∙ ap (λ xs. prefix ++ xs) e in
        let passed : position < (list_sum length_sums prefix).elements + x.1.elements = subst (λ xs. Passes (λ y. y.elements) (list_sum length_sums prefix).elements position xs) e s.passed in
        let was : before.elements ≡ sum (lens_of prefix) = ap (λ y. y.elements) s.before_is ∙ elements-sum prefix in
        let same : sum (lens_of prefix) ≡ sum (take at (lens_of es)) = ap sum (sym (prefix_lens es prefix (x ∷ back) is)) ∙ ap (λ k. sum (take k (lens_of es))) (sym s.position_is) in
        let some = elements-sum prefix in
        let reached = s.reached in
        record {
          len = x.1.elements;
          is_len = ap (λ xs. slice_get (lens_of xs) at) is ∙ (ap (λ k. slice_get (lens_of (prefix ++ x ∷ back)) k) s.position_is ∙ next_after prefix x back);
          inside = omega (arith, passed, was, some);
          position_is = omega (arith, was, same, some, reached);
        }

pub beyond : (es : List (ℕ × Length)) (position at : ℕ) (before : Length) → IsSought length_sums (λ x. x.elements) es position at before None
    → sum (lens_of es) ≤ position
beyond es position at before s = by_back s.back refl s.own_is
  where
    by_back : (back : List (ℕ × Length)) → s.back ≡ back → None ≡ first_own back → sum (lens_of es) ≤ position
    by_back [] e f =
        let is : es ≡ s.prefix ++ [] = s.is ∙ ap (λ xs. s.prefix ++ xs) e in
        omega (arith, s.reached, elements-sum s.prefix, ap (λ xs. sum (lens_of xs)) (is ∙ append-nil s.prefix))
    by_back (x ∷ back) e f = absurd cc
