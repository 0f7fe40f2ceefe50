-- The lists inside matchers and functions, as lists.
use Rattle.std.specs.Prelude.{◌≡◌, ℕ, ◌+◌, ◌<◌, ◌≤◌, suc, zero, List, [], ◌∷◌, length, get_or, map, ◌&&◌, ◌||◌, refl}
use Rattle.std.specs.List.{list_all, list_any}
use Rattle.std.proofs.Common.{ap, arith, sym, ◌∙◌}
use Rattle.spec_value.specs.Tree.{Tree, trees, more as more_trees}
use Rattle.spec_lang.specs.Matcher.{Matcher, all, nothing, is, negation, both, either, matchers, listed as listed_matchers, accepts, all_accept, some_accepts, matcher_size, matchers_size}
use Rattle.spec_lang.specs.Func.{Func, at_path, number, bytes, count, total, sum, list, funcs, listed as listed_funcs, eval, eval_all, func_size, funcs_size}

pub all_accept-matchers : (ms : List Matcher) (v : Tree) → all_accept (matchers ms) v ≡ list_all (λ m. accepts m v) ms
all_accept-matchers [] v = refl
all_accept-matchers (m ∷ ms) v = ap (λ b. accepts m v && b) (all_accept-matchers ms v)

pub some_accepts-matchers : (ms : List Matcher) (v : Tree) → some_accepts (matchers ms) v ≡ list_any (λ m. accepts m v) ms
some_accepts-matchers [] v = refl
some_accepts-matchers (m ∷ ms) v = ap (λ b. accepts m v || b) (some_accepts-matchers ms v)

pub eval_all-funcs : (fs : List Func) (v : Tree) → eval_all (funcs fs) v ≡ trees (map (λ f. eval f v) fs)
eval_all-funcs [] v = refl
eval_all-funcs (f ∷ fs) v = ap (more_trees (eval f v)) (eval_all-funcs fs v)

-- a part is smaller than its list
pub matcher_size-at : (ms : List Matcher) (i : ℕ) (m : Matcher) → i < length ms → m ≡ get_or ms i m → matcher_size m + 1 ≤ matchers_size (matchers ms)
matcher_size-at [] i m h e = absurd (omega arith)
matcher_size-at (n ∷ ns) zero m h e = let same = ap matcher_size e in omega arith
matcher_size-at (n ∷ ns) (suc i) m h e = omega (arith, matcher_size-at ns i m (omega arith) e)

pub func_size-at : (fs : List Func) (i : ℕ) (f : Func) → i < length fs → f ≡ get_or fs i f → func_size f + 1 ≤ funcs_size (funcs fs)
func_size-at [] i f h e = absurd (omega arith)
func_size-at (g ∷ gs) zero f h e = let same = ap func_size e in omega arith
func_size-at (g ∷ gs) (suc i) f h e = omega (arith, func_size-at gs i f (omega arith) e)

-- the parts of an and or an or, and of a list
abbrev parts : Matcher → List Matcher
parts all = []
parts nothing = []
parts (is path test literal) = []
parts (negation m) = []
parts (both ms) = listed_matchers ms
parts (either ms) = listed_matchers ms

abbrev func_parts : Func → List Func
func_parts (at_path path) = []
func_parts (number n) = []
func_parts (bytes bs) = []
func_parts (count path) = []
func_parts (total path each) = []
func_parts (sum f g) = []
func_parts (list fs) = listed_funcs fs

pub listed-matchers : (ms : List Matcher) → listed_matchers (matchers ms) ≡ ms
listed-matchers [] = refl
listed-matchers (m ∷ ms) = ap (λ ns. m ∷ ns) (listed-matchers ms)

listed-funcs : (fs : List Func) → listed_funcs (funcs fs) ≡ fs
listed-funcs [] = refl
listed-funcs (f ∷ fs) = ap (λ gs. f ∷ gs) (listed-funcs fs)

-- equal ands, ors and lists have equal parts
pub both-parts : (ms ns : List Matcher) → both (matchers ms) ≡ both (matchers ns) → ms ≡ ns
both-parts ms ns e = sym (listed-matchers ms) ∙ ap parts e ∙ listed-matchers ns

pub either-parts : (ms ns : List Matcher) → either (matchers ms) ≡ either (matchers ns) → ms ≡ ns
either-parts ms ns e = sym (listed-matchers ms) ∙ ap parts e ∙ listed-matchers ns

pub list-parts : (fs gs : List Func) → list (funcs fs) ≡ list (funcs gs) → fs ≡ gs
list-parts fs gs e = sym (listed-funcs fs) ∙ ap func_parts e ∙ listed-funcs gs
