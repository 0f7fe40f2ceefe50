-- Lemmas on counted runs, and on the entries of a tree that stand for runs.
use Rattle.std.proofs.Common.{◌≡◌, ◌≢◌, ℕ, zero, suc, ◌+◌, ◌-◌, ◌<◌, ◌≤◌, Bool, true, false, cond, List, [], ◌∷◌, ◌++◌, length, replicate, insert, remove, set, Option, Some, refl, sym, ap, ◌∙◌, subst, arith}
use Rattle.std.specs.Option.{option_map}
use Rattle.std.proofs.lemmas.Bool.{lt-ltb}
use Rattle.std.specs.List.{slice_get}
use Rattle.gl_ranktree.specs.Tree.{with_own, list_sum}
use Rattle.gl_ranktree.specs.Sought.{IsSought, first_own, Passes}
use Rattle.gl_fourcolour.specs.Colours.{is_among, count_among}
use Rattle.gl_fourcolour.specs.Rows.{expanded, IsMaximal, first_run, last_run, last_run_from}
use Rattle.gl_fourcolour.specs.Counts.{plus_counts, total_of, counts_of, colour_of, run_of, part_of, weigh, sum_of, runs_of, AreRuns, Outweighs, IsFound}
use Rattle.gl_fourcolour.specs.Sums.{counts_sums, weigh-zero, weigh-plus, part-zero}
use Rattle.gl_fourcolour.specs.declared.run.Run.{Run}
use Rattle.gl_fourcolour.specs.declared.counts.Counts.{Counts}
use Rattle.gl_fourcolour.proofs.Expansions.{length-expanded-cons}

-- a run that is counted and read again
pub total-counted : (c n : ℕ) → c < 4 → total_of (counts_of (record { colour = c; len = n })) ≡ n
total-counted zero n below = omega arith
total-counted (suc zero) n below = omega arith
total-counted (suc (suc zero)) n below = omega arith
total-counted (suc (suc (suc zero))) n below = omega arith
total-counted (suc (suc (suc (suc c)))) n below = absurd (omega (arith, below))

colour-counted : (c n : ℕ) → c < 4 → colour_of (counts_of (record { colour = c; len = suc n })) ≡ c
colour-counted zero n below = let pick : Bool → ℕ = λ b. cond b 0 3 in ap pick (lt-ltb 0 (suc n) (omega arith))
colour-counted (suc zero) n below = let pick : Bool → ℕ = λ b. cond b 1 3 in ap pick (lt-ltb 0 (suc n) (omega arith))
colour-counted (suc (suc zero)) n below = let pick : Bool → ℕ = λ b. cond b 2 3 in ap pick (lt-ltb 0 (suc n) (omega arith))
colour-counted (suc (suc (suc zero))) n below = refl
colour-counted (suc (suc (suc (suc c)))) n below = absurd (omega (arith, below))

pub weigh-counted : (mask c n : ℕ) → c < 4 → weigh mask (counts_of (record { colour = c; len = n })) ≡ part_of mask c n
unfolding weigh
weigh-counted mask zero n below = omega (arith, part-zero mask 1, part-zero mask 2, part-zero mask 3)
weigh-counted mask (suc zero) n below = omega (arith, part-zero mask 0, part-zero mask 2, part-zero mask 3)
weigh-counted mask (suc (suc zero)) n below = omega (arith, part-zero mask 0, part-zero mask 1, part-zero mask 3)
weigh-counted mask (suc (suc (suc zero))) n below = omega (arith, part-zero mask 0, part-zero mask 1, part-zero mask 2)
weigh-counted mask (suc (suc (suc (suc c)))) n below = absurd (omega (arith, below))

abbrev make_run : ℕ → ℕ → Run
make_run c n = record { colour = c; len = n }

run_same : (c d m n : ℕ) → c ≡ d → m ≡ n → make_run c m ≡ make_run d n
run_same c d m n colours lens = ap (λ p. make_run p m) colours ∙ ap (λ q. make_run d q) lens

pub run-counted : (r : Run) → r.colour < 4 → 1 ≤ r.len → run_of (counts_of r) ≡ r
run-counted r below some = by_len r.len some
  where
    by_len : (n : ℕ) → 1 ≤ n → run_of (counts_of (make_run r.colour n)) ≡ make_run r.colour n
    by_len zero some = absurd (omega (arith, some))
    by_len (suc n) some = run_same (colour_of (counts_of (make_run r.colour (suc n)))) r.colour (total_of (counts_of (make_run r.colour (suc n)))) (suc n) (colour-counted r.colour n below) (total-counted r.colour (suc n) below)

-- runs, counted
pub count_among-replicate : (mask c n : ℕ) (ys : List ℕ) → count_among mask (replicate n c ++ ys) ≡ part_of mask c n + count_among mask ys
unfolding count_among
count_among-replicate mask c zero ys = omega (arith, part-zero mask c)
count_among-replicate mask c (suc n) ys = by_test (is_among mask c) (count_among mask (replicate n c ++ ys)) (count_among mask ys) (count_among-replicate mask c n ys)
  where
    by_test : (b : Bool) (x y : ℕ) → x ≡ cond b n 0 + y → cond b 1 0 + x ≡ cond b (suc n) 0 + y
    by_test true x y is = omega (arith, is)
    by_test false x y is = omega (arith, is)

pub weigh-sum : (bound mask : ℕ) (rs : List Run) → bound ≤ 4 → IsMaximal bound rs → weigh mask (sum_of rs) ≡ count_among mask (expanded rs)
unfolding count_among expanded
weigh-sum bound mask [] few m = weigh-zero mask
weigh-sum bound mask (r ∷ rs) few m =
    omega (arith, weigh-plus mask (counts_of r) (sum_of rs), weigh-counted mask r.colour r.len (omega (arith, m.0, few)), count_among-replicate mask r.colour r.len (expanded rs), weigh-sum bound mask rs few m.3)

pub total-sum : (bound : ℕ) (rs : List Run) → bound ≤ 4 → IsMaximal bound rs → total_of (sum_of rs) ≡ length (expanded rs)
unfolding expanded
total-sum bound [] few m = refl
total-sum bound (r ∷ rs) few m =
    omega (arith, total-counted r.colour r.len (omega (arith, m.0, few)), length-expanded-cons r rs, total-sum bound rs few m.3)

-- entries that stand for runs
pub sum-entries : (es : List (ℕ × Counts)) → AreRuns es → list_sum counts_sums es ≡ sum_of (runs_of es)
sum-entries [] a = refl
sum-entries (e ∷ es) a = ap (λ c. plus_counts c (list_sum counts_sums es)) a.0 ∙ ap (λ c. plus_counts (counts_of (run_of e.1)) c) (sum-entries es a.1)

AreRuns-append : (xs ys : List (ℕ × Counts)) → AreRuns xs → AreRuns ys → AreRuns (xs ++ ys)
AreRuns-append [] ys a b = b
AreRuns-append (x ∷ xs) ys a b = (a.0, AreRuns-append xs ys a.1 b)

pub AreRuns-prefix : (xs ys : List (ℕ × Counts)) → AreRuns (xs ++ ys) → AreRuns xs
AreRuns-prefix [] ys a = tt
AreRuns-prefix (x ∷ xs) ys a = (a.0, AreRuns-prefix xs ys a.1)

pub AreRuns-back : (xs ys : List (ℕ × Counts)) → AreRuns (xs ++ ys) → AreRuns ys
AreRuns-back [] ys a = a
AreRuns-back (x ∷ xs) ys a = AreRuns-back xs ys a.1

pub counted : (r : Run) → r.colour < 4 → 1 ≤ r.len → counts_of r ≡ counts_of (run_of (counts_of r))
counted r below some = ap counts_of (sym (run-counted r below some))

pub AreRuns-insert : (es : List (ℕ × Counts)) (position slot : ℕ) (r : Run) → r.colour < 4 → 1 ≤ r.len → AreRuns es → AreRuns (insert es position (slot, counts_of r))
AreRuns-insert [] zero slot r below some a = (counted r below some, tt)
AreRuns-insert [] (suc position) slot r below some a = (counted r below some, tt)
AreRuns-insert (e ∷ es) zero slot r below some a = (counted r below some, a)
AreRuns-insert (e ∷ es) (suc position) slot r below some a = (a.0, AreRuns-insert es position slot r below some a.1)

pub AreRuns-set : (es : List (ℕ × Counts)) (position : ℕ) (r : Run) → r.colour < 4 → 1 ≤ r.len → AreRuns es → AreRuns (with_own es position (counts_of r))
AreRuns-set [] position r below some a = tt
AreRuns-set (e ∷ es) zero r below some a = (counted r below some, a.1)
AreRuns-set (e ∷ es) (suc position) r below some a = (a.0, AreRuns-set es position r below some a.1)

pub AreRuns-remove : (es : List (ℕ × Counts)) (position : ℕ) → AreRuns es → AreRuns (remove es position)
AreRuns-remove [] zero a = tt
AreRuns-remove [] (suc position) a = tt
AreRuns-remove (e ∷ es) zero a = a.1
AreRuns-remove (e ∷ es) (suc position) a = (a.0, AreRuns-remove es position a.1)

pub runs-insert : (es : List (ℕ × Counts)) (position slot : ℕ) (r : Run) → r.colour < 4 → 1 ≤ r.len → runs_of (insert es position (slot, counts_of r)) ≡ insert (runs_of es) position r
runs-insert [] zero slot r below some = ap (λ x. x ∷ []) (run-counted r below some)
runs-insert [] (suc position) slot r below some = ap (λ x. x ∷ []) (run-counted r below some)
runs-insert (e ∷ es) zero slot r below some = ap (λ x. x ∷ runs_of (e ∷ es)) (run-counted r below some)
runs-insert (e ∷ es) (suc position) slot r below some = ap (λ xs. run_of e.1 ∷ xs) (runs-insert es position slot r below some)

pub runs-set : (es : List (ℕ × Counts)) (position : ℕ) (r : Run) → r.colour < 4 → 1 ≤ r.len → runs_of (with_own es position (counts_of r)) ≡ set (runs_of es) position r
runs-set [] position r below some = refl
runs-set (e ∷ es) zero r below some = ap (λ x. x ∷ runs_of es) (run-counted r below some)
runs-set (e ∷ es) (suc position) r below some = ap (λ xs. run_of e.1 ∷ xs) (runs-set es position r below some)

pub runs-remove : (es : List (ℕ × Counts)) (position : ℕ) → runs_of (remove es position) ≡ remove (runs_of es) position
runs-remove [] zero = refl
runs-remove [] (suc position) = refl
runs-remove (e ∷ es) zero = refl
runs-remove (e ∷ es) (suc position) = ap (λ xs. run_of e.1 ∷ xs) (runs-remove es position)

pub length-runs_of : (es : List (ℕ × Counts)) → length (runs_of es) ≡ length es
length-runs_of [] = refl
length-runs_of (e ∷ es) = ap suc (length-runs_of es)

pub runs-append : (xs ys : List (ℕ × Counts)) → runs_of (xs ++ ys) ≡ runs_of xs ++ runs_of ys
runs-append [] ys = refl
runs-append (x ∷ xs) ys = ap (λ zs. run_of x.1 ∷ zs) (runs-append xs ys)

pub runs-get : (es : List (ℕ × Counts)) (position : ℕ) → slice_get (runs_of es) position ≡ option_map (λ e. run_of e.1) (slice_get es position)
runs-get [] position = refl
runs-get (e ∷ es) zero = refl
runs-get (e ∷ es) (suc position) = runs-get es position

first-own : (es : List (ℕ × Counts)) → option_map run_of (first_own es) ≡ first_run (runs_of es)
first-own [] = refl
first-own (e ∷ es) = refl

outweighs : (mask so_far k : ℕ) (es : List (ℕ × Counts)) → AreRuns es → Passes (λ c. weigh mask c) so_far k es → Outweighs mask so_far k (runs_of es)
outweighs mask so_far k [] a h = tt
outweighs mask so_far k (e ∷ es) a h = omega (arith, h, ap (λ c. weigh mask c) a.0)

-- what a search in the tree finds among the runs
pub found : (mask k position : ℕ) (es : List (ℕ × Counts)) (before : Counts) (own : Option Counts) (run : Option Run) → AreRuns es → IsSought counts_sums (λ c. weigh mask c) es k position before own → run ≡ option_map run_of own → IsFound mask k (runs_of es) position before run
found mask k position es before own run a s is =
    let both : AreRuns (s.prefix ++ s.back) = subst (λ xs. AreRuns xs) s.is a in
    let prefix_is = sum-entries s.prefix (AreRuns-prefix s.prefix s.back both) in
    let weight_is : weigh mask (list_sum counts_sums s.prefix) ≡ weigh mask (sum_of (runs_of s.prefix)) = ap (λ c. weigh mask c) prefix_is in
    record {
      prefix = runs_of s.prefix;
      back = runs_of s.back;
      is = ap (λ xs. runs_of xs) s.is ∙ runs-append s.prefix s.back;
      position_is = s.position_is ∙ sym (length-runs_of s.prefix);
      before_is = s.before_is ∙ prefix_is;
      run_is = is ∙ (ap (λ o. option_map run_of o) s.own_is ∙ first-own s.back);
      reached = omega (arith, s.reached, weight_is);
      passed = subst (λ n. Outweighs mask n k (runs_of s.back)) weight_is (outweighs mask _ k s.back (AreRuns-back s.prefix s.back both) s.passed);
    }

-- the run before a place
pub last-get : (prefix back : List Run) (r : Run) → slice_get (r ∷ prefix ++ back) (length prefix) ≡ Some (last_run_from r prefix)
last-get [] back r = refl
last-get (x ∷ prefix) back r = last-get prefix back x

pub before_is : (runs prefix back : List Run) (position : ℕ) (result : Option Run) → runs ≡ prefix ++ back → position ≡ length prefix → position ≢ 0 → result ≡ slice_get runs (position - 1) → result ≡ last_run prefix
before_is runs [] back position result is position_is some got = absurd (some position_is)
before_is runs (r ∷ prefix) back position result is position_is some got =
    let index : position - 1 ≡ length prefix = omega (arith, position_is) in
    got ∙ (ap (λ xs. slice_get xs (position - 1)) is ∙ (ap (λ k. slice_get (r ∷ prefix ++ back) k) index ∙ last-get prefix back r))
