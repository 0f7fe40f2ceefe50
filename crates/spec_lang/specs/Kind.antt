-- The kind of a change from one matcher to another.
use Rattle.std.specs.Prelude.{◌≡◌, pos, List, [], ◌∷◌, map, Bool, true, false, cond}
use Rattle.std.specs.List.{list_all, list_any}
use Rattle.std.specs.Ordering.{is_eq}
use Rattle.std.proofs.Common.{inl, inr}
use Rattle.spec_value.specs.Tree.{Tree, num, items_of}
use Rattle.spec_value.specs.Order.{cmp}
use Rattle.spec_lang.specs.declared.EditKind.{EditKind}
use Rattle.spec_lang.specs.declared.EditKind.TheVariants as kind_is
use Rattle.spec_lang.specs.Matcher.{Matcher, all, nothing, is, negation, both, either, listed, accepts}
use Rattle.spec_lang.specs.MatcherCode.{Mark, test_number, matcher_marks}

-- the marks of a matcher as one value, so that matchers can be compared as they are written
abbrev pub mark_value : Mark → Tree
mark_value (inl n) = num (pos n)
mark_value (inr (path, (test, literal))) =
    items_of (items_of (map (λ i. num (pos i)) path) ∷ num (pos (test_number test)) ∷ literal ∷ [])

abbrev pub written : Matcher → Tree
written m = items_of (map mark_value (matcher_marks m (inl 0 ∷ [])))

-- whether two matchers are written the same
abbrev pub same : Matcher → Matcher → Bool
same m n = is_eq (cmp (written m) (written n))

-- `all` has no conjuncts, an `and` has its parts, any other matcher has itself
abbrev pub conjuncts : Matcher → List Matcher
conjuncts all = []
conjuncts nothing = nothing ∷ []
conjuncts (is path test literal) = is path test literal ∷ []
conjuncts (negation m) = negation m ∷ []
conjuncts (both ms) = listed ms
conjuncts (either ms) = either ms ∷ []

-- whether each of these is written as one of those
abbrev pub are_among : List Matcher → List Matcher → Bool
are_among ms ns = list_all (λ m. list_any (same m) ns) ms

-- the first rule that fits
abbrev pub kind : Matcher → Matcher → EditKind
kind old new =
    cond (same new all) kind_is.All
    (cond (same new nothing) kind_is.Nothing
    (cond (are_among (conjuncts old) (conjuncts new)) kind_is.Constrained
    (cond (same old nothing) kind_is.Relaxed
    (cond (are_among (conjuncts new) (conjuncts old)) kind_is.Relaxed kind_is.Changed))))

-- What a kind says of what the old and the new matcher accept: the new one everything or nothing, no more than the old
-- one, or no less.
abbrev pub Says : EditKind → Matcher → Matcher → Type 0
Says kind_is.All old new = (v : Tree) → accepts new v ≡ true
Says kind_is.Nothing old new = (v : Tree) → accepts new v ≡ false
Says kind_is.Constrained old new = (v : Tree) → accepts new v ≡ true → accepts old v ≡ true
Says kind_is.Relaxed old new = (v : Tree) → accepts old v ≡ true → accepts new v ≡ true
Says kind_is.Changed old new = Unit {0}
