-- The kinds of the lists of a state, and which commands are for which of them.
use Rattle.std.specs.Prelude.{◌≡◌, ◌<◌, ℕ, [], length, Option, Some, None, ⊤}
use Rattle.gl_lines.specs.declared.plan.Command.{Command}
use Rattle.gl_lines.specs.declared.plan.Command.TheVariants as c
use Rattle.spec_lang.specs.Matcher.{all}
use Rattle.spec_lang.specs.Func.{at_path}
use Rattle.spec_lang.specs.declared.Bounds.TheVariants.{Head}
use Rattle.spec_plans.specs.declared.class.ListClass.{ListClass}
use Rattle.spec_plans.specs.declared.class.ListClass.TheVariants as class
use Rattle.spec_plans.specs.Plan.{origin as about}
use Rattle.spec_plans.specs.WellFormed.{needed_class}
use Rattle.spec_views.specs.View.{View, filter, sorted, unique, grouping, range, function, collection}
use Rattle.spec_states.specs.State.{Own, State, source, over, composite, transaction, freezable, proxy, own_at}
use Rattle.spec_states.specs.Laws.{MayAttach}

-- a list over one input with a parameter that says nothing: what is left is its kind. The children of a collection never change.
abbrev pub kind_of_view : View → View
kind_of_view (filter matcher) = filter all
kind_of_view (sorted keys) = sorted []
kind_of_view (unique keys) = unique []
kind_of_view (grouping keys) = grouping []
kind_of_view (range bounds) = range (Head 0 0)
kind_of_view (function func) = function (at_path [])
kind_of_view (collection path) = collection path

-- what a list keeps without what may change: its kind, and what it depends on
abbrev pub kind_of : Own → Own
kind_of (source contents) = source []
kind_of (over input view) = over input (kind_of_view view)
kind_of (composite needed members) = composite needed []
kind_of (transaction input levels) = transaction input []
kind_of (freezable input since) = freezable input None
kind_of (proxy input kept queue) = proxy input [] []

-- a state has as many lists as another, and each is of the kind, and over the inputs, that it was
pub record KeepsKinds (before after : State) : Type 0 where
  pub long : length after ≡ length before
  pub kinds : (list : ℕ) → kind_of (own_at after list) ≡ kind_of (own_at before list)

abbrev pub class_of_view : View → ListClass
class_of_view (filter matcher) = class.Filtered
class_of_view (sorted keys) = class.Ordered
class_of_view (unique keys) = class.Ordered
class_of_view (grouping keys) = class.Ordered
class_of_view (range bounds) = class.Bounded
class_of_view (function func) = class.Mapped
class_of_view (collection path) = class.Collected

-- the class of a list that keeps this, as far as lines tell classes apart
abbrev pub class_of_own : Own → ListClass
class_of_own (source contents) = class.Edited
class_of_own (over input view) = class_of_view view
class_of_own (composite needed members) = class.Composed
class_of_own (transaction input levels) = class.Undone
class_of_own (freezable input since) = class.Frozen
class_of_own (proxy input kept queue) = class.Pumped

-- a list that keeps this is of the class that is needed, where one is
abbrev pub HasClass : Option ListClass → Own → Type 0
HasClass None own = ⊤
HasClass (Some needed) own = class_of_own own ≡ needed

-- the command isn't `show`
abbrev pub IsChange : Command → Type 0
IsChange (c.Show list) = ⊥
IsChange other = ⊤

-- the state has the list that the command is about, it is of the class that the command needs, and a list that is attached is
-- one that the composite depends on
pub record IsFor (c : Command) (s : State) : Type 0 where
  pub within : about c < length s
  pub suits : HasClass (needed_class c) (own_at s (about c))
  pub may : MayAttach c (own_at s (about c))
