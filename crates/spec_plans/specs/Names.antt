-- What names stand for. Lists and listeners are numbered from 0 in the order of their lines, each in a name space of its
-- own, and a name stands for the first line that declares it.
use Rattle.std.specs.Prelude.{ℕ, suc, zero, ◌==◌, ◌||◌, Bool, true, false, List, [], ◌++◌, map, length, position, filter_map, bytes_eq, Option, option_map, option_and_then, slice_get, unwrap_or}
use Rattle.std.specs.List.{list_any}
use Rattle.gl_lines.specs.declared.named.Named.{Named}
use Rattle.gl_lines.specs.declared.line.NumberedLine.{NumberedLine}
use Rattle.spec_plans.specs.declared.class.ListClass.{ListClass}
use Rattle.spec_plans.specs.declared.class.ListClass.TheVariants.{Pumped}
use Rattle.spec_plans.specs.Lines.{Head, Hearer, head_of, hearer_of}

-- the heads of the lists that the lines declare, by number
abbrev pub heads : List NumberedLine → List Head
heads lines = filter_map (λ l. head_of l.what) lines

abbrev pub hearers : List NumberedLine → List Hearer
hearers lines = filter_map (λ l. hearer_of l.what) lines

-- their names, by number
abbrev pub list_names : List NumberedLine → List (List ℕ)
list_names lines = map (λ h. h.name.name) (heads lines)

abbrev pub listener_names : List NumberedLine → List (List ℕ)
listener_names lines = map (λ h. h.name.name) (hearers lines)

-- the number of a name, where there is one
abbrev pub number_of : List (List ℕ) → List ℕ → Option ℕ
number_of names name = position (λ other. bytes_eq other name) names

-- the class of the list of a name, where there is one
abbrev pub class_of : List NumberedLine → List ℕ → Option ListClass
class_of lines name =
    option_map (λ h. h.class)
    (option_and_then (slice_get (heads lines)) (number_of (list_names lines) name))

-- the numbers of the names that stand for something
abbrev pub numbers_in : List (List ℕ) → List Named → List ℕ
numbers_in names listed = filter_map (λ named. number_of names named.name) listed

-- The numbers of the lists that a list depends on: its inputs, and those that may become members of a composite. A name that
-- no line declares leads nowhere.
abbrev pub needed_by : List NumberedLine → Head → List ℕ
needed_by lines h = numbers_in (list_names lines) (h.inputs ++ h.may)

-- the same of the list of a number
abbrev pub needed : List NumberedLine → ℕ → List ℕ
needed lines a = unwrap_or (option_map (needed_by lines) (slice_get (heads lines) a)) []

-- whether a list depends on another
abbrev pub depends_on : List NumberedLine → ℕ → ℕ → Bool
depends_on lines a b = list_any (λ m. m == b) (needed lines a)

abbrev pub is_pumped : ListClass → Bool
is_pumped Pumped = true
is_pumped other = false

-- whether the list of a number is a proxy
abbrev pub is_proxy : List Head → ℕ → Bool
is_proxy hs number = unwrap_or (option_map (λ h. is_pumped h.class) (slice_get hs number)) false

-- whether at most so many steps along dependencies lead from a list to a proxy
abbrev pub leads_to_proxy : List NumberedLine → ℕ → ℕ → Bool
leads_to_proxy lines zero a = is_proxy (heads lines) a
leads_to_proxy lines (suc steps) a =
    is_proxy (heads lines) a || list_any (leads_to_proxy lines steps) (needed lines a)

-- whether a list depends on a proxy, or is one: no way along dependencies needs more steps than there are lists
abbrev pub is_over_proxy : List NumberedLine → ℕ → Bool
is_over_proxy lines a = leads_to_proxy lines (length (heads lines)) a
