-- The lines of a summary: of one listener, and of one list.
use Rattle.std.specs.Prelude.{ℕ, List, ◌++◌, length, codes, decimal}
use Rattle.spec_reports.specs.Telling.{Telling}
use Rattle.spec_reports.specs.Laws.{told_to}
use Rattle.spec_reports.specs.Report.{line_feed}
use Rattle.spec_reports.specs.Summary.{changes_in}

-- the listener of a number and a name, which was told what these tellings say
abbrev pub count_line : ℕ → List ℕ → List Telling → List ℕ
count_line listener name told =
    codes "told " ++ name ++ codes " " ++ decimal (length (told_to listener told)) ++ codes " "
    ++ decimal (changes_in (told_to listener told)) ++ line_feed

-- the list of this name and length
abbrev pub length_line : List ℕ → ℕ → List ℕ
length_line name len = codes "length " ++ name ++ codes " " ++ decimal len ++ line_feed
