-- The line of a list that is held.
use Rattle.std.specs.Prelude.{ℕ, List, [], ◌++◌, codes, decimal}
use Rattle.gl_world.specs.Hold.{Hold}
use Rattle.gl_world.specs.Hold.TheVariants.{Free, Frozen, Open, Queued}
use Rattle.spec_reports.specs.Report.{line_feed}

-- by whether the list of that name is frozen or open, or is a proxy; nothing of one that is free
abbrev pub hold_line : List ℕ → Hold → List ℕ
hold_line name Free = []
hold_line name Frozen = codes "held " ++ name ++ codes " frozen" ++ line_feed
hold_line name (Open depth) =
    codes "held " ++ name ++ codes " open " ++ decimal depth ++ line_feed
hold_line name (Queued count) =
    codes "held " ++ name ++ codes " queued " ++ decimal count ++ line_feed
