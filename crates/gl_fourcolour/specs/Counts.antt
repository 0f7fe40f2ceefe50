-- How many places of each colour there are in some runs.
use Rattle.std.specs.Prelude.{◌≡◌, ℕ, ◌+◌, ◌<◌, ◌≤◌, cond, ◌==◌, nat_lt, Bool, List, [], ◌∷◌, ◌++◌, length, map, Option}
use Rattle.gl_fourcolour.specs.Colours.{is_among}
use Rattle.gl_fourcolour.specs.Rows.{first_run}
use Rattle.gl_fourcolour.specs.declared.run.Run.{Run}
use Rattle.gl_fourcolour.specs.declared.counts.Counts.{Counts}

abbrev pub no_counts : Counts
no_counts = record { first = 0; second = 0; third = 0; fourth = 0 }

abbrev pub plus_counts : Counts → Counts → Counts
plus_counts x y =
    record {
      first = x.first + y.first;
      second = x.second + y.second;
      third =
          x.third + y.third;
      fourth = x.fourth + y.fourth;
    }

abbrev pub total_of : Counts → ℕ
total_of c = c.first + c.second + c.third + c.fourth

unfoldable pub fits_counts : Counts → Bool
fits_counts c = nat_lt (total_of c) 4294967296

-- a run, counted
abbrev pub counts_of : Run → Counts
counts_of r =
    record {
      first = cond (r.colour == 0) r.len 0;
      second = cond (r.colour == 1) r.len 0;
      third =
          cond (r.colour == 2) r.len 0;
      fourth = cond (r.colour == 3) r.len 0;
    }

-- the colour of the places that were counted, if they have one colour
abbrev pub colour_of : Counts → ℕ
colour_of c = cond (nat_lt 0 c.first) 0 (cond (nat_lt 0 c.second) 1 (cond (nat_lt 0 c.third) 2 3))

-- the run that was counted
abbrev pub run_of : Counts → Run
run_of c = record { colour = colour_of c; len = total_of c }

-- the count if the set has the colour, and else 0
abbrev pub part_of : ℕ → ℕ → ℕ → ℕ
part_of mask colour n = cond (is_among mask colour) n 0

-- how many of the places that were counted have a colour of the set
unfoldable pub weigh : ℕ → Counts → ℕ
weigh mask c =
    part_of mask 0 c.first + part_of mask 1 c.second + part_of mask 2 c.third
    + part_of mask 3 c.fourth

-- all runs, counted
abbrev pub sum_of : List Run → Counts
sum_of [] = no_counts
sum_of (r ∷ rs) = plus_counts (counts_of r) (sum_of rs)

-- the runs of a tree's entries
abbrev pub runs_of : List (ℕ × Counts) → List Run
runs_of es = map (λ e. run_of e.1) es

-- each entry is a run, counted
abbrev pub AreRuns : List (ℕ × Counts) → Type 0
AreRuns [] = Unit {0}
AreRuns (e ∷ es) = (e.1 ≡ counts_of (run_of e.1)) × AreRuns es

-- with the first run, if there is one, the weight is passed
abbrev pub Outweighs : ℕ → ℕ → ℕ → List Run → Type 0
Outweighs mask so_far k [] = Unit {0}
Outweighs mask so_far k (r ∷ rs) = k < so_far + weigh mask (counts_of r)

-- the runs before this place weigh no more than k, and with the run there they weigh more
pub record IsFound (mask k : ℕ) (runs : List Run) (position : ℕ) (before : Counts)
    (run : Option Run) : Type 0 where
  pub prefix : List Run
  pub back : List Run
  pub is : runs ≡ prefix ++ back
  pub position_is : position ≡ length prefix
  pub before_is : before ≡ sum_of prefix
  pub run_is : run ≡ first_run back
  pub reached : weigh mask (sum_of prefix) ≤ k
  pub passed : Outweighs mask (weigh mask (sum_of prefix)) k back
