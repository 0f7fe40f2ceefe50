-- Matchers are compared as they are written, and what the kind of a change says holds.
use Rattle.std.specs.Prelude.{◌≡◌, ◌↔◌, ℕ, pos, List, [], ◌∷◌, map, Bool, true, false, cond, ◌&&◌, ◌||◌, IsTrue, refl}
use Rattle.std.specs.List.{list_all, list_any}
use Rattle.std.specs.Ordering.{is_eq, ordering_reverse}
use Rattle.std.specs.declared.cmp.Ordering.{Ordering}
use Rattle.std.specs.declared.cmp.Ordering.TheVariants.{Less, Equal, Greater}
use Rattle.std.proofs.Common.{ap, sym, ◌∙◌, inl, inr}
use Rattle.spec_value.specs.Tree.{Tree, num, items, elements, list, list-trees}
use Rattle.spec_value.specs.Order.{cmp}
use Rattle.spec_value.proofs.Order.{cmp_total, cmp-equal}
use Rattle.spec_lang.specs.declared.EditKind.TheVariants as kind_is
use Rattle.spec_lang.specs.Matcher.{Matcher, all, nothing, is, negation, both, either, Matchers, none, more, matchers, listed, accepts, all_accept}
use Rattle.spec_lang.proofs.Lists.{listed-matchers}
use Rattle.spec_lang.specs.MatcherCode.{Mark, test_number, numbered_test, numbered_test-test_number, matcher_marks, read_marks, first, first-read_marks}
use Rattle.spec_lang.specs.Kind.{mark_value, written, same, conjuncts, are_among, kind, Says}

abbrev natural : Tree → ℕ
natural (num (pos n)) = n
natural _ = 0

abbrev naturals : List Tree → List ℕ
naturals [] = []
naturals (t ∷ ts) = natural t ∷ naturals ts

naturals-map : (ns : List ℕ) → naturals (map (λ i. num (pos i)) ns) ≡ ns
naturals-map [] = refl
naturals-map (n ∷ ns) = ap (λ ms. n ∷ ms) (naturals-map ns)

-- the mark that its value stands for
abbrev read_items : List Tree → Mark
read_items (path ∷ test ∷ literal ∷ []) = inr (naturals (elements path), (numbered_test (natural test), literal))
read_items _ = inl 0

abbrev read_mark : Tree → Mark
read_mark (num (pos n)) = inl n
read_mark (items ts) = read_items (list ts)
read_mark _ = inl 0

read_mark-mark_value : (k : Mark) → read_mark (mark_value k) ≡ k
read_mark-mark_value (inl n) = refl
read_mark-mark_value (inr (path, (test, literal))) =
    ap (λ ns. inr (ns, (numbered_test (test_number test), literal))) (ap naturals (list-trees (map (λ i. num (pos i)) path)) ∙ naturals-map path)
    ∙ ap (λ t. inr (path, (t, literal))) (numbered_test-test_number test)

read_marks-values : (ks : List Mark) → map read_mark (map mark_value ks) ≡ ks
read_marks-values [] = refl
read_marks-values (k ∷ ks) = cons _ _ _ _ (read_mark-mark_value k) (read_marks-values ks)
  where
    cons : (a b : Mark) (us vs : List Mark) → a ≡ b → us ≡ vs → a ∷ us ≡ b ∷ vs
    cons a b us vs e f = cc

written-injective : (m n : Matcher) → written m ≡ written n → m ≡ n
written-injective m n e =
    sym (read m) ∙ ap (λ t. first (read_marks (map read_mark (elements t)))) e ∙ read n
  where
    read : (k : Matcher) → first (read_marks (map read_mark (elements (written k)))) ≡ k
    read k = ap (λ ts. first (read_marks (map read_mark ts))) (list-trees (map mark_value (matcher_marks k (inl 0 ∷ []))))
        ∙ (ap (λ ks. first (read_marks ks)) (read_marks-values (matcher_marks k (inl 0 ∷ []))) ∙ first-read_marks k)

equal_to_itself : (o : Ordering) → o ≡ ordering_reverse o → o ≡ Equal
equal_to_itself Less e = cc
equal_to_itself Equal e = refl
equal_to_itself Greater e = cc

equal_of_test : (o : Ordering) → is_eq o ≡ true → o ≡ Equal
equal_of_test Less e = cc
equal_of_test Equal e = refl
equal_of_test Greater e = cc

-- matchers that are written the same are the same
pub same-equal : (m n : Matcher) → same m n ≡ true → m ≡ n
same-equal m n e = written-injective m n (cmp-equal (written m) (written n) (equal_of_test (cmp (written m) (written n)) e))

pub same-itself : (m : Matcher) → same m m ≡ true
same-itself m = ap is_eq (equal_to_itself (cmp (written m) (written m)) (cmp_total.antisymm (written m) (written m)))

pub same_is : (m n : Matcher) → IsTrue (same m n) ↔ (m ≡ n)
same_is m n = (same-equal m n, λ e. ap (same m) (sym e) ∙ same-itself m)

and_true : (b : Bool) → b && true ≡ b
and_true true = refl
and_true false = refl

all_listed : (ms : Matchers) (v : Tree) → all_accept ms v ≡ list_all (λ m. accepts m v) (listed ms)
all_listed none v = refl
all_listed (more m ms) v = ap (λ b. accepts m v && b) (all_listed ms v)

-- a matcher accepts what all its conjuncts accept
pub accepts-conjuncts : (m : Matcher) (v : Tree) → accepts m v ≡ list_all (λ c. accepts c v) (conjuncts m)
accepts-conjuncts all v = refl
accepts-conjuncts nothing v = refl
accepts-conjuncts (is path test literal) v = sym (and_true (accepts (is path test literal) v))
accepts-conjuncts (negation m) v = sym (and_true (accepts (negation m) v))
accepts-conjuncts (both ms) v = all_listed ms v
accepts-conjuncts (either ms) v = sym (and_true (accepts (either ms) v))

and_first : (a b : Bool) → a && b ≡ true → a ≡ true
and_first true b e = refl
and_first false b e = e

and_rest : (a b : Bool) → a && b ≡ true → b ≡ true
and_rest true b e = e
and_rest false b e = cc

and_both : (a b : Bool) → a ≡ true → b ≡ true → a && b ≡ true
and_both a b e f = cc

one_accepts : (m : Matcher) (ns : List Matcher) (v : Tree) → list_any (same m) ns ≡ true → list_all (λ c. accepts c v) ns ≡ true → accepts m v ≡ true
one_accepts m [] v e f = cc
one_accepts m (n ∷ ns) v e f = here (same m n) refl (λ g. one_accepts m ns v g (and_rest (accepts n v) (list_all (λ c. accepts c v) ns) f))
  where
    here : (b : Bool) → same m n ≡ b → (list_any (same m) ns ≡ true → accepts m v ≡ true) → accepts m v ≡ true
    here true s rest = ap (λ k. accepts k v) (same-equal m n s) ∙ and_first (accepts n v) (list_all (λ c. accepts c v) ns) f
    here false s rest = rest (sym (ap (λ b. b || list_any (same m) ns) s) ∙ e)

among_accept : (ms ns : List Matcher) (v : Tree) → are_among ms ns ≡ true → list_all (λ c. accepts c v) ns ≡ true → list_all (λ c. accepts c v) ms ≡ true
among_accept [] ns v e f = refl
among_accept (m ∷ ms) ns v e f =
    and_both (accepts m v) (list_all (λ c. accepts c v) ms)
    (one_accepts m ns v (and_first (list_any (same m) ns) (are_among ms ns) e) f)
    (among_accept ms ns v (and_rest (list_any (same m) ns) (are_among ms ns) e) f)

-- where each conjunct of a matcher is one of another, it accepts what the other accepts
accept_more : (m n : Matcher) → are_among (conjuncts m) (conjuncts n) ≡ true → (v : Tree) → accepts n v ≡ true → accepts m v ≡ true
accept_more m n e v f = accepts-conjuncts m v ∙ among_accept (conjuncts m) (conjuncts n) v e (sym (accepts-conjuncts n v) ∙ f)

by_rules : (old new : Matcher) (a b c d e : Bool) → same new all ≡ a → same new nothing ≡ b → are_among (conjuncts old) (conjuncts new) ≡ c → same old nothing ≡ d → are_among (conjuncts new) (conjuncts old) ≡ e →
    Says (cond a kind_is.All (cond b kind_is.Nothing (cond c kind_is.Constrained (cond d kind_is.Relaxed (cond e kind_is.Relaxed kind_is.Changed))))) old new
by_rules old new true b c d e p q r s t = λ v. ap (λ m. accepts m v) (same-equal new all p)
by_rules old new false true c d e p q r s t = λ v. ap (λ m. accepts m v) (same-equal new nothing q)
by_rules old new false false true d e p q r s t = λ v f. accept_more old new r v f
by_rules old new false false false true e p q r s t = λ v f. cc_none v (sym (ap (λ m. accepts m v) (same-equal old nothing s)) ∙ f)
  where
    cc_none : (v : Tree) → false ≡ true → accepts new v ≡ true
    cc_none v g = cc
by_rules old new false false false false true p q r s t = λ v f. accept_more new old t v f
by_rules old new false false false false false p q r s t = tt

-- what the kind of a change says holds
pub kind_says : (old new : Matcher) → Says (kind old new) old new
kind_says old new = by_rules old new _ _ _ _ _ refl refl refl refl refl

-- what decides whether two matchers are one says whether they are written the same
pub same_decided : (m n : Matcher) (b : Bool) → IsTrue b ↔ (m ≡ n) → b ≡ same m n
same_decided m n true h = sym ((same_is m n).1 (h.0 refl))
same_decided m n false h = no (same m n) refl
  where
    no : (c : Bool) → same m n ≡ c → false ≡ same m n
    no true e = h.1 (same-equal m n e) ∙ sym e
    no false e = sym e

-- the parts of an and are its conjuncts
pub conjuncts-both : (ms : List Matcher) (m : Matcher) → both (matchers ms) ≡ m → ms ≡ conjuncts m
conjuncts-both ms m e = sym (listed-matchers ms) ∙ ap conjuncts e
