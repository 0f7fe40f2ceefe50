-- The order of values: a number before a text, a text before a list. Numbers go by size, texts by their bytes, lists
-- by the first elements that differ, and a list that ends first comes first.
use Rattle.std.specs.declared.cmp.Ordering.{Ordering}
use Rattle.std.specs.declared.cmp.Ordering.TheVariants.{Less, Equal, Greater}
use Rattle.std.specs.Ordering.{ordering_then, nat_cmp, int_cmp}
use Rattle.std.specs.Cmp.Lexicographic.{slice_cmp}
use Rattle.spec_value.specs.Tree.{Tree, num, text, items, Trees, none, more}

abbrev mutual
  -- how two values compare
  pub cmp : Tree → Tree → Ordering
  cmp (num m) (num n) = int_cmp m n
  cmp (num m) (text bs) = Less
  cmp (num m) (items ts) = Less
  cmp (text bs) (num n) = Greater
  cmp (text bs) (text cs) = slice_cmp nat_cmp bs cs
  cmp (text bs) (items ts) = Less
  cmp (items ts) (num n) = Greater
  cmp (items ts) (text bs) = Greater
  cmp (items ts) (items us) = cmp_trees ts us

  pub cmp_trees : Trees → Trees → Ordering
  cmp_trees none none = Equal
  cmp_trees none (more u us) = Less
  cmp_trees (more t ts) none = Greater
  cmp_trees (more t ts) (more u us) = ordering_then (cmp t u) (cmp_trees ts us)
