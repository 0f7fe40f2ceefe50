-- Lemmas for the questions about colours.
use Rattle.std.proofs.Common.{◌≡◌, ℕ, zero, suc, ◌+◌, ◌-◌, ◌<◌, ◌≤◌, Bool, true, false, cond, List, [], ◌∷◌, ◌++◌, length, take, drop, replicate, Option, Some, None, refl, sym, ap, ◌∙◌, subst, arith, append-nil, IsTrue}
use Rattle.std.specs.Prelude.{MatchOption, IsSome, slice_index}
use Rattle.std.proofs.Math.Seq.{take-append_seam, take-length}
use Rattle.std.proofs.lemmas.List.{take-append-drop}
use Rattle.gl_fourcolour.specs.Colours.{is_among, count_among, IsKth}
use Rattle.gl_fourcolour.specs.Rows.{Row, expanded, IsMaximal, IsKept, IsSpot, first_run}
use Rattle.gl_fourcolour.specs.Counts.{weigh, total_of, sum_of, part_of, IsFound, Outweighs}
use Rattle.gl_fourcolour.specs.declared.run.Run.{Run}
use Rattle.gl_fourcolour.specs.declared.counts.Counts.{Counts}
use Rattle.gl_fourcolour.proofs.Expansions.{expanded_cut, length-prefix, length-expanded-append, length-expanded-cons}
use Rattle.gl_fourcolour.proofs.Maximal.{parts}
use Rattle.gl_fourcolour.proofs.Weights.{weigh-sum, total-sum, weigh-counted, count_among-replicate}
use Rattle.gl_fourcolour.proofs.Spots.{weigh-all, run_facts, at_run, none_back}

pub count_among-append : (mask : ℕ) (xs ys : List ℕ) → count_among mask (xs ++ ys) ≡ count_among mask xs + count_among mask ys
unfolding count_among
count_among-append mask [] ys = omega arith
count_among-append mask (x ∷ xs) ys = omega (arith, count_among-append mask xs ys)

pub count_among-none : (mask : ℕ) → count_among mask [] ≡ 0
unfolding count_among
count_among-none mask = refl

-- the first part of a list in two parts
get_seam : (xs ys : List ℕ) (k y : ℕ) (n : ℕ) → k ≡ length xs → 1 ≤ n → slice_index (xs ++ (replicate n y ++ ys)) k ≡ y
get_seam xs ys k y n is some = ap (λ j. slice_index (xs ++ (replicate n y ++ ys)) j) is ∙ at_end xs n some
  where
    at_end : (xs : List ℕ) (n : ℕ) → 1 ≤ n → slice_index (xs ++ (replicate n y ++ ys)) (length xs) ≡ y
    at_end [] zero some = absurd (omega (arith, some))
    at_end [] (suc n) some = refl
    at_end (x ∷ xs) n some = at_end xs n some

-- a place within a run: its colour, and what is counted before it
pub record Within (mask at : ℕ) (runs : List Run) (prefix : List Run) (here : Run) (o : ℕ) : Type 0 where
  pub colour : slice_index (expanded runs) at ≡ here.colour
  pub before : count_among mask (take at (expanded runs)) ≡ count_among mask (expanded prefix) + part_of mask here.colour o
  pub in_range : at < length (expanded runs)

pub within : (mask at o : ℕ) (runs prefix rest : List Run) (here : Run) → runs ≡ prefix ++ here ∷ rest → at ≡ length (expanded prefix) + o → o < here.len → Within mask at runs prefix here o
within mask at o runs prefix rest here is at_is inside =
    let whole : expanded runs ≡ (expanded prefix ++ replicate o here.colour) ++ (replicate (here.len - o) here.colour ++ expanded rest) =
    ap expanded is ∙ expanded_cut prefix rest here.colour here.len o (omega (arith, inside)) in
    let prefix_length = length-prefix prefix here.colour o in
    let taken : take at (expanded runs) ≡ expanded prefix ++ replicate o here.colour =
    ap (λ zs. take at zs) whole ∙ (ap (λ k. take k ((expanded prefix ++ replicate o here.colour) ++ (replicate (here.len - o) here.colour ++ expanded rest))) (at_is ∙ sym prefix_length) ∙ take-append_seam (expanded prefix ++ replicate o here.colour) (replicate (here.len - o) here.colour ++ expanded rest)) in
    record {
      colour = ap (λ zs. slice_index zs at) whole ∙ get_seam (expanded prefix ++ replicate o here.colour) (expanded rest) at here.colour (here.len - o) (at_is ∙ sym prefix_length) (omega (arith, inside));
      before = omega (arith, ap (count_among mask) taken, count_among-append mask (expanded prefix) (replicate o here.colour), ap (count_among mask) (append-nil (replicate o here.colour)), count_among-replicate mask here.colour o [], count_among-none mask);
      in_range = omega (arith, at_is, inside, ap (λ rs. length (expanded rs)) is, length-expanded-append prefix (here ∷ rest), length-expanded-cons here rest);
    }

-- what a search finds
pub record FoundRun (mask k : ℕ) (runs : List Run) (before : Counts) (here : Run) : Type 0 where
  pub prefix : List Run
  pub rest : List Run
  pub is : runs ≡ prefix ++ here ∷ rest
  pub total_is : total_of before ≡ length (expanded prefix)
  pub before_is : before ≡ sum_of prefix
  pub prefix_max : IsMaximal 4 prefix
  pub reached : weigh mask before ≤ k
  pub passed : k < weigh mask before + part_of mask here.colour here.len

four : (bound : ℕ) (rs : List Run) → bound ≤ 4 → IsMaximal bound rs → IsMaximal 4 rs
four bound [] few m = tt
four bound (r ∷ rs) few m = (omega (arith, m.0, few), m.1, m.2, four bound rs few m.3)

found_back : (mask k : ℕ) (runs prefix back : List Run) (before : Counts) (here : Run) → runs ≡ prefix ++ back → before ≡ sum_of prefix → Some here ≡ first_run back → IsMaximal 4 prefix → IsMaximal 4 back → weigh mask (sum_of prefix) ≤ k → Outweighs mask (weigh mask (sum_of prefix)) k back → FoundRun mask k runs before here
found_back mask k runs prefix [] before here is before_is run_is prefix_max back_max reached passed = absurd (cc)
found_back mask k runs prefix (r ∷ rest) before here is before_is run_is prefix_max back_max reached passed =
    let same : r ≡ here = cc in
    let weight = ap (weigh mask) before_is in
    record {
      prefix = prefix;
      rest = rest;
      is = is ∙ ap (λ x. prefix ++ x ∷ rest) same;
      total_is = ap total_of before_is ∙ total-sum 4 prefix (omega arith) prefix_max;
      before_is = before_is;
      prefix_max = prefix_max;
      reached = omega (arith, reached, weight);
      passed = omega (arith, passed, weight, weigh-counted mask r.colour r.len back_max.0, ap (λ (x : Run). part_of mask x.colour x.len) same);
    }

pub found_run : (bound mask k position : ℕ) (row : Row) (before : Counts) (here : Run) → IsKept bound row → IsFound mask k row.runs position before (Some here) → FoundRun mask k row.runs before here
found_run bound mask k position row before here kept f =
    let p = parts 4 f.prefix f.back (subst (λ rs. IsMaximal 4 rs) f.is (four bound row.runs kept.few_colours kept.maximal)) in
    found_back mask k row.runs f.prefix f.back before here f.is f.before_is f.run_is p.prefix_is p.back_is f.reached f.passed

-- no place of the set is left where none is found
pub found_none : (bound mask k position : ℕ) (row : Row) (before : Counts) → IsKept bound row → IsFound mask k row.runs position before None → (count_among mask (expanded row.runs) ≤ k) × (before ≡ sum_of row.runs)
found_none bound mask k position row before kept f =
    let all = none_back row.runs f.prefix f.back f.is f.run_is in
    let weight = weigh-sum bound mask row.runs kept.few_colours kept.maximal in
    (omega (arith, f.reached, weight, ap (λ rs. weigh mask (sum_of rs)) all), f.before_is ∙ ap sum_of (sym all))

-- a set that has some of a run's places has its colour
part_among : (mask c n : ℕ) → 1 ≤ part_of mask c n → (is_among mask c ≡ true) × (part_of mask c n ≡ n)
part_among mask c n some = by_test (is_among mask c) some
  where
    by_test : (b : Bool) → 1 ≤ cond b n 0 → (b ≡ true) × (cond b n 0 ≡ n)
    by_test true some = (refl, refl)
    by_test false some = absurd (omega (arith, some))

part_all : (mask c n : ℕ) → is_among mask c ≡ true → part_of mask c n ≡ n
part_all mask c n is = let pick : Bool → ℕ = λ b. cond b n 0 in ap pick is

pub kth : (mask k position : ℕ) (runs : List Run) (before : Counts) (here : Run) → FoundRun mask k runs before here → position ≡ total_of before + (k - weigh mask before) → IsKth mask k (expanded runs) position
kth mask k position runs before here f position_is =
    let among = part_among mask here.colour here.len (omega (arith, f.passed, f.reached)) in
    let o = k - weigh mask before in
    let w = within mask position o runs f.prefix f.rest here f.is (omega (arith, position_is, f.total_is)) (omega (arith, f.passed, f.reached, among.1)) in
    record {
      in_range = w.in_range;
      among = ap (is_among mask) w.colour ∙ among.0;
      before = omega (arith, w.before, part_all mask here.colour o among.0, weigh-sum 4 mask f.prefix (omega arith) f.prefix_max, ap (weigh mask) f.before_is, f.reached);
    }

part_le : (mask c n : ℕ) → part_of mask c n ≤ n
part_le mask c n = by_test (is_among mask c)
  where
    by_test : (b : Bool) → cond b n 0 ≤ n
    by_test true = omega arith
    by_test false = omega arith

weigh_le : (mask : ℕ) (c : Counts) → weigh mask c ≤ total_of c
unfolding weigh
weigh_le mask c = omega (arith, part_le mask 0 c.first, part_le mask 1 c.second, part_le mask 2 c.third, part_le mask 3 c.fourth)

pub found_some : (bound bits mask k position : ℕ) (row : Row) (before : Counts) (run : Option Run) (here : Run) → IsKept bound row → bits ≡ mask → run ≡ Some here → IsFound bits k row.runs position before run → FoundRun mask k row.runs before here
found_some bound bits mask k position row before run here kept bits_are run_is f =
    found_run bound mask k position row before here kept (subst (λ r. IsFound mask k row.runs position before r) run_is (subst (λ b. IsFound b k row.runs position before run) bits_are f))

pub found_nothing : (bound bits mask k position : ℕ) (row : Row) (before : Counts) (run : Option Run) → IsKept bound row → bits ≡ mask → run ≡ None → IsFound bits k row.runs position before run → (count_among mask (expanded row.runs) ≤ k) × (before ≡ sum_of row.runs)
found_nothing bound bits mask k position row before run kept bits_are run_is f =
    found_none bound mask k position row before kept (subst (λ r. IsFound mask k row.runs position before r) run_is (subst (λ b. IsFound b k row.runs position before run) bits_are f))

-- what is counted before a place within a run
pub record Ranked (mask at : ℕ) (runs : List Run) (before : Counts) (here : Run) : Type 0 where
  pub reached : total_of before ≤ at
  pub colour : here.colour < 4
  pub bound : weigh mask before + part_of mask here.colour (at - total_of before) ≤ at
  pub is : weigh mask before + part_of mask here.colour (at - total_of before) ≡ count_among mask (take at (expanded runs))

pub ranked : (bound mask at : ℕ) (row : Row) (before : Counts) (here : Run) → IsKept bound row → FoundRun 15 at row.runs before here → Ranked mask at row.runs before here
ranked bound mask at row before here kept f =
    let all = weigh-all before in
    let o = at - total_of before in
    let facts = run_facts bound row.runs f.prefix f.rest here kept.few_colours kept.maximal f.is in
    let part = part_le 15 here.colour here.len in
    let w = within mask at o row.runs f.prefix f.rest here f.is (omega (arith, f.total_is, f.reached, all)) (omega (arith, f.passed, f.reached, all, part)) in
    record {
      reached = omega (arith, f.reached, all);
      colour = facts.colour;
      bound = omega (arith, weigh_le mask before, part_le mask here.colour o, f.reached, all);
      is = omega (arith, w.before, weigh-sum 4 mask f.prefix (omega arith) f.prefix_max, ap (weigh mask) f.before_is);
    }

count_among-all : (bound : ℕ) (rs : List Run) → bound ≤ 4 → IsMaximal bound rs → count_among 15 (expanded rs) ≡ length (expanded rs)
count_among-all bound rs few m = omega (arith, weigh-sum bound 15 rs few m, weigh-all (sum_of rs), total-sum bound rs few m)

pub ranked_end : (bound mask at : ℕ) (row : Row) (before : Counts) → IsKept bound row → at ≤ length (expanded row.runs) → count_among 15 (expanded row.runs) ≤ at → before ≡ sum_of row.runs → weigh mask before ≡ count_among mask (take at (expanded row.runs))
ranked_end bound mask at row before kept in_range reached before_is =
    let at_is : at ≡ length (expanded row.runs) = omega (arith, in_range, reached, count_among-all bound row.runs kept.few_colours kept.maximal) in
    let taken : take at (expanded row.runs) ≡ expanded row.runs = ap (λ k. take k (expanded row.runs)) at_is ∙ take-length (expanded row.runs) in
    ap (weigh mask) before_is ∙ (weigh-sum bound mask row.runs kept.few_colours kept.maximal ∙ ap (count_among mask) (sym taken))

pub colour_at : (runs : List Run) (at position start : ℕ) (run : Option Run) (here : Run) → IsSpot runs at position start run → run ≡ Some here → slice_index (expanded runs) at ≡ here.colour
colour_at runs at position start run here s run_is =
    let a = at_run runs at position start here (subst (λ r. IsSpot runs at position start r) run_is s) in
    (within 0 at (at - start) runs a.prefix a.rest here a.is (omega (arith, a.start_is, a.reached)) (omega (arith, a.inside, a.reached))).colour

pub one_counts : (b : Bool) (n : ℕ) → IsTrue b → 1 ≤ cond b 1 0 + n
one_counts true n here = omega arith
one_counts false n here = absurd (cc)

first_counts : (mask position : ℕ) (xs : List ℕ) → position < length xs → IsTrue (is_among mask (slice_index xs position)) → 1 ≤ count_among mask (drop position xs)
unfolding count_among
first_counts mask position [] inside here = absurd (omega (arith, inside))
first_counts mask zero (x ∷ xs) inside here = one_counts (is_among mask x) (count_among mask xs) here
first_counts mask (suc position) (x ∷ xs) inside here = first_counts mask position xs (omega (arith, inside)) here

-- some place is the k-th
pub kth_counts : (mask k position : ℕ) (xs : List ℕ) → IsKth mask k xs position → k < count_among mask xs
kth_counts mask k position xs h =
    let split : xs ≡ take position xs ++ drop position xs = sym (take-append-drop position xs) in
    omega (arith, ap (count_among mask) split, count_among-append mask (take position xs) (drop position xs), h.before, first_counts mask position xs h.in_range h.among)

pub counted_some : (mask k : ℕ) (xs ys : List ℕ) (result : Option ℕ) → xs ≡ ys → MatchOption result (count_among mask xs ≤ k) (IsKth mask k xs) → (IsSome result → k < count_among mask ys) × (k < count_among mask ys → IsSome result)
counted_some mask k xs ys None is h = (λ some. absurd (cc), λ more. absurd (omega (arith, more, h, ap (count_among mask) is)))
counted_some mask k xs ys (Some position) is h = (λ some. omega (arith, kth_counts mask k position xs h, ap (count_among mask) is), λ more. refl)
