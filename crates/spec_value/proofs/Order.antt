-- The order of values is total, and only equal values are `Equal` in it.
--     cmp_total          the laws of a total order
--     cmp-equal          two values that compare as `Equal` are one
--     cmp_trees-trees    lists compare as std compares slices
use Rattle.std.specs.Prelude.{◌≡◌, ℕ, ◌<◌, ℤ, ◌<ℤ◌, List, [], ◌∷◌, refl}
use Rattle.std.proofs.Common.{ap, sym, ◌∙◌, subst}
use Rattle.std.specs.declared.cmp.Ordering.{Ordering}
use Rattle.std.specs.declared.cmp.Ordering.TheVariants.{Less, Equal, Greater}
use Rattle.std.specs.Ordering.{ordering_then, ordering_reverse, nat_cmp, int_cmp, MatchOrdering}
use Rattle.std.specs.Cmp.{IsTotalOrder, int_ranks, ranks, int_cmp_total}
use Rattle.std.specs.Cmp.Lexicographic.{slice_cmp, nat_list_cmp_total}
use Rattle.std.specs.FinMap.{slice_cmp-IsAntisymmetric}
use Rattle.spec_value.specs.Tree.{Tree, num, text, items, Trees, none, more, trees}
use Rattle.spec_value.specs.Order.{cmp, cmp_trees}

-- two numbers that compare as `Equal` are one
int_cmp-equal : (m n : ℤ) → int_cmp m n ≡ Equal → m ≡ n
int_cmp-equal m n e = let ranked = λ (r : Ordering). MatchOrdering r (m <ℤ n) (m ≡ n) (n <ℤ m) in subst ranked e (int_ranks m n)

nat_cmp-equal : (m n : ℕ) → nat_cmp m n ≡ Equal → m ≡ n
nat_cmp-equal m n e = let ranked = λ (r : Ordering). MatchOrdering r (m < n) (m ≡ n) (n < m) in subst ranked e (ranks m n)

bytes-equal : (bs cs : List ℕ) → slice_cmp nat_cmp bs cs ≡ Equal → bs ≡ cs
bytes-equal = slice_cmp-IsAntisymmetric nat_cmp-equal

first_equal : (r s : Ordering) → ordering_then r s ≡ Equal → r ≡ Equal
first_equal Less s e = e
first_equal Equal s e = refl
first_equal Greater s e = e

rest_equal : (r s : Ordering) → ordering_then r s ≡ Equal → s ≡ Equal
rest_equal Less s e = cc
rest_equal Equal s e = e
rest_equal Greater s e = cc

then-reverse : (r s : Ordering) → ordering_then (ordering_reverse r) (ordering_reverse s) ≡ ordering_reverse (ordering_then r s)
then-reverse Less s = refl
then-reverse Equal s = refl
then-reverse Greater s = refl

-- one step of the chain of two lists: a, b and c compare the first elements, x, y and z the rests
then_chain : (a b c x y z : Ordering) → (a ≡ Less → b ≡ Less → c ≡ Less) → (a ≡ Equal → c ≡ b) → (b ≡ Equal → c ≡ a)
    → (x ≡ Less → y ≡ Less → z ≡ Less) → ordering_then a x ≡ Less → ordering_then b y ≡ Less → ordering_then c z ≡ Less
then_chain Less Less c x y z f g h k p q = ap (λ o. ordering_then o z) (f refl refl)
then_chain Less Equal c x y z f g h k p q = ap (λ o. ordering_then o z) (h refl)
then_chain Less Greater c x y z f g h k p q = cc
then_chain Equal Less c x y z f g h k p q = ap (λ o. ordering_then o z) (g refl)
then_chain Equal Equal c x y z f g h k p q = ap (λ o. ordering_then o z) (g refl) ∙ k p q
then_chain Equal Greater c x y z f g h k p q = cc
then_chain Greater b c x y z f g h k p q = cc

mutual
  pub cmp-equal : (t u : Tree) → cmp t u ≡ Equal → t ≡ u
  cmp-equal (num m) (num n) e = ap num (int_cmp-equal m n e)
  cmp-equal (text bs) (text cs) e = ap text (bytes-equal bs cs e)
  cmp-equal (items ts) (items us) e = ap items (cmp_trees-equal ts us e)
  cmp-equal (num m) (text cs) e = cc
  cmp-equal (num m) (items us) e = cc
  cmp-equal (text bs) (num n) e = cc
  cmp-equal (text bs) (items us) e = cc
  cmp-equal (items ts) (num n) e = cc
  cmp-equal (items ts) (text cs) e = cc

  pub cmp_trees-equal : (ts us : Trees) → cmp_trees ts us ≡ Equal → ts ≡ us
  cmp_trees-equal none none e = refl
  cmp_trees-equal none (more u us) e = cc
  cmp_trees-equal (more t ts) none e = cc
  cmp_trees-equal (more t ts) (more u us) e =
      let first = cmp-equal t u (first_equal (cmp t u) (cmp_trees ts us) e) in
      let rest = cmp_trees-equal ts us (rest_equal (cmp t u) (cmp_trees ts us) e) in
      λ i. more (first i) (rest i)

mutual
  cmp-reverse : (t u : Tree) → cmp t u ≡ ordering_reverse (cmp u t)
  cmp-reverse (num m) (num n) = int_cmp_total.antisymm m n
  cmp-reverse (text bs) (text cs) = nat_list_cmp_total.antisymm bs cs
  cmp-reverse (items ts) (items us) = cmp_trees-reverse ts us
  cmp-reverse (num m) (text cs) = refl
  cmp-reverse (num m) (items us) = refl
  cmp-reverse (text bs) (num n) = refl
  cmp-reverse (text bs) (items us) = refl
  cmp-reverse (items ts) (num n) = refl
  cmp-reverse (items ts) (text cs) = refl

  cmp_trees-reverse : (ts us : Trees) → cmp_trees ts us ≡ ordering_reverse (cmp_trees us ts)
  cmp_trees-reverse none none = refl
  cmp_trees-reverse none (more u us) = refl
  cmp_trees-reverse (more t ts) none = refl
  cmp_trees-reverse (more t ts) (more u us) =
      (λ i. ordering_then (cmp-reverse t u i) (cmp_trees-reverse ts us i)) ∙ then-reverse (cmp u t) (cmp_trees us ts)

mutual
  cmp_chain : (t u v : Tree) → cmp t u ≡ Less → cmp u v ≡ Less → cmp t v ≡ Less
  cmp_chain (num l) (num m) (num n) p q = int_cmp_total.trans l m n p q
  cmp_chain (text bs) (text cs) (text ds) p q = nat_list_cmp_total.trans bs cs ds p q
  cmp_chain (items ts) (items us) (items vs) p q = cmp_trees_chain ts us vs p q
  cmp_chain (num l) u (text ds) p q = refl
  cmp_chain (num l) u (items vs) p q = refl
  cmp_chain (text bs) u (items vs) p q = refl
  cmp_chain t u v p q = cc

  cmp_trees_chain : (ts us vs : Trees) → cmp_trees ts us ≡ Less → cmp_trees us vs ≡ Less → cmp_trees ts vs ≡ Less
  cmp_trees_chain none us (more v vs) p q = refl
  cmp_trees_chain none none none p q = p
  cmp_trees_chain none (more u us) none p q = cc
  cmp_trees_chain (more t ts) (more u us) (more v vs) p q =
      then_chain (cmp t u) (cmp u v) (cmp t v) (cmp_trees ts us) (cmp_trees us vs) (cmp_trees ts vs) (cmp_chain t u v)
      (λ e. ap (λ w. cmp w v) (cmp-equal t u e)) (λ e. sym (ap (λ w. cmp t w) (cmp-equal u v e))) (cmp_trees_chain ts us vs) p q
  cmp_trees_chain ts us vs p q = cc

pub cmp_total : IsTotalOrder cmp
cmp_total = record {
  antisymm = cmp-reverse;
  trans = cmp_chain;
  congr = λ t u v e. ap (λ w. cmp w v) (cmp-equal t u e);
}

pub cmp_trees-trees : (xs ys : List Tree) → cmp_trees (trees xs) (trees ys) ≡ slice_cmp cmp xs ys
cmp_trees-trees [] [] = refl
cmp_trees-trees [] (y ∷ ys) = refl
cmp_trees-trees (x ∷ xs) [] = refl
cmp_trees-trees (x ∷ xs) (y ∷ ys) = ap (ordering_then (cmp x y)) (cmp_trees-trees xs ys)
