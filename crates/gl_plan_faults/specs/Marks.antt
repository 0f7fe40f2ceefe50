-- What the tables of lists stand for.
use Rattle.std.specs.Prelude.{◌≡◌, ◌||◌, ◌++◌, ℕ, Bool, List, [], ◌∷◌, Option, None, Some}
use Rattle.std.specs.List.{list_any, AllZip}
use Rattle.spec_order.specs.DependencyOrder.{has}
use Rattle.gl_lines.specs.declared.line.NumberedLine.{NumberedLine}
use Rattle.spec_plans.specs.Lines.{Head}
use Rattle.spec_plans.specs.Names.{heads, is_pumped, needed_by, numbers_in}
use Rattle.gl_plan_faults.specs.declared.listed.Listed.{Listed}
use Rattle.gl_plan_faults.specs.Marked.{is_marked}

-- whether a list is a proxy or needs a marked one
abbrev pub is_reached : List Bool → Listed → Bool
is_reached marks list = is_pumped list.class || list_any (is_marked marks) list.needs

-- it has the class of the head, and the numbers of the lists that this one depends on
pub record StandsFor (lines : List NumberedLine) (h : Head) (list : Listed) : Type 0 where
  pub class_is : list.class ≡ h.class
  pub needs_are : (b : ℕ) → has list.needs b ≡ has (needed_by lines h) b

-- they are those of the lists that the lines declare
abbrev pub AreListed : List NumberedLine → List Listed → Type 0
AreListed lines lists = AllZip (StandsFor lines) (heads lines) lists

-- more is the lists with one that has this head, where there is one, by these names
abbrev pub Lists : List (List ℕ) → List Listed → Option Head → List Listed → Type 0
Lists names lists None more = more ≡ lists
Lists names lists (Some h) more =
    (list : Listed) × (more ≡ lists ++ list ∷ []) × (list.class ≡ h.class)
    × ((b : ℕ) → has list.needs b ≡ has (numbers_in names (h.inputs ++ h.may)) b)
