-- The summary of a plan in an order: how much was told, and how long the lists are at the end.
use Rattle.std.specs.Prelude.{ℕ, ◌+◌, suc, ◌==◌, if◌then◌else◌, List, [], ◌∷◌, ◌++◌, codes, decimal, length, sum, map, Option, option_map, slice_get}
use Rattle.spec_plans.specs.Tree.{Tree}
use Rattle.spec_states.specs.Delta.{Delta}
use Rattle.spec_states.specs.Changes.{changed_len}
use Rattle.gl_outside.specs.declared.gate.Actor.{Actor}
use Rattle.gl_lines.specs.declared.plan.ListDecl.{ListDecl}
use Rattle.gl_lines.specs.declared.plan.ListKind.{ListKind}
use Rattle.gl_lines.specs.declared.plan.ListenerDecl.{ListenerDecl}
use Rattle.spec_plans.specs.Plan.{Plan}
use Rattle.spec_states.specs.Shown.{Table, shows_in, table_of}
use Rattle.spec_states.specs.Opening.{opening}
use Rattle.spec_runs.specs.Telling.{Telling}
use Rattle.spec_runs.specs.Run.{run}
use Rattle.spec_runs.specs.Laws.{told_to}
use Rattle.spec_reports.specs.Report.{line_feed}

-- how many changes deltas have together
abbrev pub changes_in : List Delta → ℕ
changes_in ds = sum (map changed_len ds)

-- `told NAME T C` for each listener, the first of which has this number: how many tellings, and how many changes in them
abbrev pub told_counts : ℕ → List ListenerDecl → List Telling → List ℕ
told_counts number [] told = []
told_counts number (d ∷ listeners) told =
    codes "told " ++ d.name ++ codes " " ++ decimal (length (told_to number told)) ++ codes " "
    ++ decimal (changes_in (told_to number told)) ++ line_feed
    ++ told_counts (suc number) listeners told

-- `length NAME LEN` for each list
abbrev pub length_lines : List ListDecl → Table → List ℕ
length_lines [] shown = []
length_lines (d ∷ lists) [] = []
length_lines (d ∷ lists) (values ∷ shown) =
    codes "length " ++ d.name ++ codes " " ++ decimal (length values) ++ line_feed
    ++ length_lines lists shown

-- the kind of the first list
abbrev pub first_kind : Plan → Option ListKind
first_kind p = option_map (λ d. d.kind) (slice_get p.lists 0)

-- the opening length of the first list, the number of entries, what was told, and what each list's length is at the end
abbrev pub summary : Plan → List Actor → List ℕ
summary p order =
    codes "big " ++ decimal (length (shows_in (table_of (opening p)) 0)) ++ line_feed
    ++ codes "entries " ++ decimal (length order) ++ line_feed
    ++ told_counts 0 p.listeners (run p order).told
    ++ length_lines p.lists (table_of (run p order).state)
