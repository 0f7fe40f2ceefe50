-- What is wrong with the names of a line, from left to right, and then with what it declares.
use Rattle.std.specs.Prelude.{ℕ, ◌==◌, ◌&&◌, Bool, true, false, if◌then◌else◌, List, [], map, flat_map, length, Option, Some, None, option_map, option_and_then, unwrap_or}
use Rattle.std.specs.Option.{is_some, option_or}
use Rattle.gl_lines.specs.declared.named.Named.{Named}
use Rattle.gl_lines.specs.declared.line.Line.{Line}
use Rattle.gl_lines.specs.declared.line.NumberedLine.{NumberedLine}
use Rattle.gl_lines.specs.declared.fault.PlanKind.{PlanKind}
use Rattle.gl_lines.specs.declared.fault.PlanKind.TheVariants.{Taken, Unknown, Kind, Member, Second, OverProxy}
use Rattle.spec_plans.specs.declared.fault.NameFault.{NameFault}
use Rattle.spec_plans.specs.declared.fault.FaultAt.{FaultAt}
use Rattle.spec_plans.specs.declared.class.ListClass.{ListClass}
use Rattle.spec_plans.specs.declared.class.ListClass.TheVariants.{Edited, Filtered, Ordered, Bounded, Mapped, Collected, Composed, Undone, Frozen, Pumped}
use Rattle.spec_plans.specs.Along.{first_said, first_some}
use Rattle.spec_plans.specs.Lines.{Head, Hearer, head_of, hearer_of, fed_by, commanded_by, attached_by}
use Rattle.spec_plans.specs.Place.{first_misplaced}
use Rattle.spec_plans.specs.Names.{heads, list_names, listener_names, number_of, class_of, depends_on, is_over_proxy}

-- the fault of this kind at a name
abbrev pub wrong : Named → PlanKind → Option NameFault
wrong named kind = Some (record { column = named.column; kind = kind })

-- the first fault of names
abbrev pub first_fault : (Named → Option NameFault) → List Named → Option NameFault
first_fault f listed = first_some (map f listed)

-- classes by number, in any order that tells them apart
abbrev pub class_number : ListClass → ℕ
class_number Edited = 0
class_number Filtered = 1
class_number Ordered = 2
class_number Bounded = 3
class_number Mapped = 4
class_number Collected = 5
class_number Composed = 6
class_number Undone = 7
class_number Frozen = 8
class_number Pumped = 9

-- whether a list of this class is what a line needs
abbrev pub meets : Option ListClass → ListClass → Bool
meets None class = true
meets (Some need) class = class_number need == class_number class

-- a declared name: an earlier line of the name space declares it too
abbrev pub taken_fault : List (List ℕ) → Named → Option NameFault
taken_fault earlier named =
    if is_some (number_of earlier named.name) then wrong named Taken else None

-- a used name, by the class of its list where there is one: no line declares it, or the list is of another class
abbrev pub use_fault_of : Option ListClass → Named → Option ListClass → Option NameFault
use_fault_of need named None = wrong named Unknown
use_fault_of need named (Some class) = if meets need class then None else wrong named Kind

abbrev pub use_fault : List NumberedLine → Option ListClass → Named → Option NameFault
use_fault lines need named = use_fault_of need named (class_of lines named.name)

-- a listener's name in `after`: no line declares it
abbrev pub after_fault : List NumberedLine → Named → Option NameFault
after_fault lines named =
    if is_some (number_of (listener_names lines) named.name) then None else wrong named Unknown

-- a transaction's input is a source; other lists may be over any
abbrev pub input_need : ListClass → Option ListClass
input_need Undone = Some Edited
input_need other = None

abbrev pub is_undone : ListClass → Bool
is_undone Undone = true
is_undone other = false

-- the inputs of the transactions
abbrev pub undone_inputs : List Head → List (List ℕ)
undone_inputs hs =
    flat_map (λ h. if is_undone h.class then map (λ input. input.name) h.inputs else []) hs

-- a transaction's input: an earlier transaction has it
abbrev pub second_fault : List Head → Named → Option NameFault
second_fault earlier named =
    if is_some (number_of (undone_inputs earlier) named.name) then wrong named Second else None

-- whether a list of this class may not depend on a proxy
abbrev pub shuns_proxies : ListClass → Bool
shuns_proxies Collected = true
shuns_proxies Composed = true
shuns_proxies other = false

-- a composite or a collection, by its number, that depends on a proxy
abbrev pub proxy_fault : List NumberedLine → ℕ → ListClass → Option NameFault
proxy_fault lines number class =
    if shuns_proxies class
    && is_over_proxy lines number then Some (record { column = 1; kind = OverProxy }) else None

-- a line that declares a list
abbrev pub list_fault : List NumberedLine → List NumberedLine → Head → Option NameFault
list_fault lines before h =
    option_or (taken_fault (list_names before) h.name)
    (option_or (first_fault (use_fault lines (input_need h.class)) h.inputs)
    (option_or (first_fault (use_fault lines None) h.may)
    (option_or
    (if is_undone h.class then first_fault (second_fault (heads before)) h.inputs else None)
    (proxy_fault lines (length (heads before)) h.class))))

-- a line that declares a listener
abbrev pub listener_fault : List NumberedLine → List NumberedLine → Hearer → Option NameFault
listener_fault lines before r =
    option_or (taken_fault (listener_names before) r.name)
    (option_or (use_fault lines None r.list)
    (first_fault (after_fault lines) r.after))

-- a list that is attached to a composite: it is neither a member nor one that may become a member
abbrev pub member_fault : List NumberedLine → Named → Named → Option NameFault
member_fault lines composite member =
    if depends_on lines
    (unwrap_or (number_of (list_names lines) composite.name) 0)
    (unwrap_or (number_of (list_names lines) member.name) 0)
    then None else wrong member Member

abbrev pub attach_fault : List NumberedLine → Named → Named → Option NameFault
attach_fault lines composite member =
    option_or (use_fault lines None member) (member_fault lines composite member)

-- a command, by its list with the class that is needed, and by what it attaches
abbrev pub command_fault : List NumberedLine → Line → Named × Option ListClass → Option NameFault
command_fault lines line about =
    option_or (use_fault lines about.1 about.0)
    (option_and_then (attach_fault lines about.0) (attached_by line))

-- what is wrong with the names of a line after the others, if anything is
abbrev pub name_fault : List NumberedLine → List NumberedLine → Line → Option NameFault
name_fault lines before line =
    option_or (option_and_then (list_fault lines before) (head_of line))
    (option_or (option_and_then (listener_fault lines before) (hearer_of line))
    (option_or (option_and_then (use_fault lines (Some Edited)) (fed_by line))
    (option_and_then (command_fault lines line) (commanded_by line))))

abbrev pub naming : List NumberedLine → List NumberedLine → NumberedLine → Option FaultAt
naming lines before l =
    option_map (λ f. record { line = l.line; column = f.column; kind = f.kind })
    (name_fault lines before l.what)

-- the first fault of names
abbrev pub first_misnamed : List NumberedLine → Option FaultAt
first_misnamed lines = first_said (naming lines) lines

-- the first fault of the lines: lines that are out of place or too many come first, then names
abbrev pub first_fault_at : List NumberedLine → Option FaultAt
first_fault_at lines =
    option_or
    (option_map (λ m. record { line = m.line; column = 1; kind = m.kind })
    (first_misplaced lines)) (first_misnamed lines)
