-- The list of runs that stands for a list of colours, and how a run is counted.
use Rattle.std.specs.Prelude.{◌≡◌, ◌≢◌, ℕ, ◌+◌, ◌<◌, ◌≤◌, ◌^◌, ◌⊎◌, cond, ◌==◌, List, [], ◌∷◌, ◌++◌, length, Option, Some, None, replicate}
use Rattle.gl_fourcolour.specs.Colours.{run_count, inserted, removed}
use Rattle.gl_fourcolour.specs.declared.run.Run.{Run}

-- the runs in order, and how many there is room for
pub record Row : Type 0 where
  pub runs : List Run
  pub room : ℕ

-- the colours of the places of these runs
unfoldable pub expanded : List Run → List ℕ
expanded [] = []
expanded (r ∷ rs) = replicate r.len r.colour ++ expanded rs

-- the first run, if there is one, has another colour
abbrev pub Differs : ℕ → List Run → Type 0
Differs colour [] = Unit {0}
Differs colour (r ∷ rs) = r.colour ≢ colour

-- no run is empty, no two neighbours have one colour, and all colours are below a bound
abbrev pub IsMaximal : ℕ → List Run → Type 0
IsMaximal bound [] = Unit {0}
IsMaximal bound (r ∷ rs) =
    (r.colour < bound) × (1 ≤ r.len) × Differs r.colour rs × IsMaximal bound rs

-- the colour of the last run, after a run of this colour
abbrev pub last_from : ℕ → List Run → ℕ
last_from colour [] = colour
last_from colour (r ∷ rs) = last_from r.colour rs

-- the last run of the front and the first of the back, if both are there, have two colours
abbrev pub Meets : List Run → List Run → Type 0
Meets [] back = Unit {0}
Meets (r ∷ rs) back = Differs (last_from r.colour rs) back

abbrev pub first_run : List Run → Option Run
first_run [] = None
first_run (r ∷ rs) = Some r

abbrev pub last_run_from : Run → List Run → Run
last_run_from r [] = r
last_run_from r (s ∷ rs) = last_run_from s rs

abbrev pub last_run : List Run → Option Run
last_run [] = None
last_run (r ∷ rs) = Some (last_run_from r rs)

-- the first of these runs, if there is one, goes past the place
abbrev pub GoesPast : ℕ → ℕ → List Run → Type 0
GoesPast start at [] = Unit {0}
GoesPast start at (r ∷ rs) = at < start + r.len

-- where the run stands that has a place of the list of colours, and where it starts
pub record IsSpot (runs : List Run) (at position start : ℕ) (run : Option Run) : Type 0 where
  pub prefix : List Run
  pub back : List Run
  pub is : runs ≡ prefix ++ back
  pub position_is : position ≡ length prefix
  pub start_is : start ≡ length (expanded prefix)
  pub run_is : run ≡ first_run back
  pub reached : start ≤ at
  pub passed : GoesPast start at back

-- the run if it has the colour
abbrev pub run_if : Option Run → ℕ → Option Run
run_if None colour = None
run_if (Some r) colour = cond (r.colour == colour) (Some r) None

-- the one run that two neighbours of one colour make
abbrev pub joined : Option Run → Option Run → Option Run
joined (Some l) (Some r) =
    cond (l.colour == r.colour) (Some (record { colour = l.colour; len = l.len + r.len })) None
joined _ _ = None

abbrev pub JoinFits : Option Run → Option Run → Type 0
JoinFits (Some l) (Some r) = l.len + r.len < 2 ^ 32
JoinFits _ _ = Unit {0}

-- a run may be put in at a place
pub record CanPut (bound : ℕ) (row : Row) (at : ℕ) (run : Run) : Type 0 where
  pub few_colours : bound ≤ 4
  pub maximal : IsMaximal bound row.runs
  pub colour : run.colour < bound
  pub some : 1 ≤ run.len
  pub in_range : at ≤ length (expanded row.runs)
  pub small : length (expanded row.runs) + run.len < 2 ^ 32
  pub room : (length row.runs + 2
      ≤ row.room) ⊎ (run_count (inserted (expanded row.runs) at run.colour run.len) ≤ row.room)

-- the runs stand for the colours with the run put in
pub record Puts (bound : ℕ) (old new : Row) (at : ℕ) (run : Run) : Type 0 where
  pub maximal : IsMaximal bound new.runs
  pub colours : expanded new.runs ≡ inserted (expanded old.runs) at run.colour run.len
  pub more : length new.runs ≤ length old.runs + 2
  pub room : new.room ≡ old.room

-- n places may be taken out
pub record CanCut (bound : ℕ) (row : Row) (at n : ℕ) : Type 0 where
  pub few_colours : bound ≤ 4
  pub maximal : IsMaximal bound row.runs
  pub in_range : at + n ≤ length (expanded row.runs)
  pub small : length (expanded row.runs) < 2 ^ 32

-- the runs stand for the colours without n places
pub record Cuts (bound : ℕ) (old new : Row) (at n : ℕ) : Type 0 where
  pub maximal : IsMaximal bound new.runs
  pub colours : expanded new.runs ≡ removed (expanded old.runs) at n
  pub fewer : length new.runs ≤ length old.runs
  pub room : new.room ≡ old.room

-- what a `Runs` keeps
pub record IsKept (bound : ℕ) (row : Row) : Type 0 where
  pub few_colours : bound ≤ 4
  pub maximal : IsMaximal bound row.runs
  pub small : length (expanded row.runs) < 2 ^ 32
