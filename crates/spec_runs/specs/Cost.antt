-- How often a wave may ask a matcher or compare two values, and how often an entry may.
use Rattle.std.specs.Prelude.{◌+◌, ◌*◌, ◌^◌, ◌-◌, ℕ, zero, suc, max, nat_lt, List, [], ◌∷◌, length, map, sum, if◌then◌else◌, Option, Some, None}
use Rattle.std.specs.List.{range_with_len}
use Rattle.spec_value.specs.Tree.{Tree}
use Rattle.spec_lists.specs.Piece.{kept, updated, deleted, inserted}
use Rattle.spec_lists.specs.Delta.{Delta}
use Rattle.spec_lists.specs.Leads.{applied}
use Rattle.spec_lang.specs.Matcher.{Matcher, accepts}
use Rattle.spec_lang.specs.Kind.{kind}
use Rattle.spec_lang.specs.declared.EditKind.{EditKind}
use Rattle.spec_lang.specs.declared.EditKind.TheVariants as kind_is
use Rattle.gl_outside.specs.declared.gate.Actor.{Actor}
use Rattle.gl_lines.specs.declared.plan.Command.{Command}
use Rattle.gl_lines.specs.declared.plan.Command.TheVariants as c
use Rattle.gl_lines.specs.declared.reply.Reply.{Reply}
use Rattle.spec_plans.specs.Plan.{Plan, origin as about}
use Rattle.spec_views.specs.Filter.{filter_view}
use Rattle.spec_views.specs.View.{View, Parameter, filter, sorted, unique, grouping, range, function, collection}
use Rattle.spec_views.specs.View as view
use Rattle.spec_states.specs.State.{Own, State, source, over, composite, transaction, freezable, proxy, own_at}
use Rattle.spec_states.specs.Shown.{shown}
use Rattle.spec_states.specs.Wave.{Cause, command, pump, subject, begins, is_at, parameter_of, delta_in, wave_deltas}
use Rattle.spec_states.specs.Step.{refusal, step}
use Rattle.spec_runs.specs.Entry.{Deed, section, pumping, nothing, next_deed}
use Rattle.spec_runs.specs.Fits.{queue_of}
use Rattle.spec_runs.specs.Run.{run}

-- how many elements of the new list a delta tells the value of: the inserted and the updated ones
abbrev pub told_len : Delta → ℕ
told_len [] = 0
told_len (kept ∷ ps) = told_len ps
told_len (updated v w ∷ ps) = suc (told_len ps)
told_len (deleted v ∷ ps) = told_len ps
told_len (inserted w ∷ ps) = suc (told_len ps)

-- the least number of at least k, at most so many more, whose power of two is above n
abbrev pub digits_from : ℕ → ℕ → ℕ → ℕ
digits_from zero k n = k
digits_from (suc more) k n = if nat_lt n (2 ^ k) then k else digits_from more (suc k) n

-- the least number whose power of two is above n
abbrev pub digits_of : ℕ → ℕ
digits_of n = digits_from n 0 n

-- what finding the place of so many elements may take in an order of lists of at most n
abbrev pub search_cost : ℕ → ℕ → ℕ
search_cost count n = count * (4 * (digits_of n + 1))

-- what a list over one input may take to follow a change of its input, which had so many elements and now has so many
abbrev pub follow_cost : View → Delta → ℕ → ℕ → ℕ
follow_cost (filter matcher) d before after = told_len d
follow_cost (sorted keys) d before after = search_cost (told_len d) (max before after)
follow_cost (unique keys) d before after = search_cost (told_len d) (max before after)
follow_cost (grouping keys) d before after = search_cost (told_len d) (max before after)
follow_cost (range bounds) d before after = 0
follow_cost (function func) d before after = 0
follow_cost (collection path) d before after = 0

-- what another matcher may take: it asks about nothing, about what is shown, about what is hidden, or about everything
abbrev pub match_cost : EditKind → ℕ → ℕ → ℕ
match_cost kind_is.All shown_len all_len = 0
match_cost kind_is.Nothing shown_len all_len = 0
match_cost kind_is.Constrained shown_len all_len = shown_len
match_cost kind_is.Relaxed shown_len all_len = all_len - shown_len
match_cost kind_is.Changed shown_len all_len = all_len

-- what another parameter may take over these elements; another order counts each of them as inserted
abbrev pub change_cost : Option Parameter → View → List Tree → ℕ
change_cost (Some (view.matcher m)) (filter old) xs =
    match_cost (kind old m) (length (filter_view (accepts old) xs)) (length xs)
change_cost (Some (view.order keys)) (sorted old) xs = search_cost (length xs) (length xs)
change_cost (Some (view.order keys)) (unique old) xs = search_cost (length xs) (length xs)
change_cost (Some (view.order keys)) (grouping old) xs = search_cost (length xs) (length xs)
change_cost given other xs = 0

abbrev pub own_follow_cost : Own → (ℕ → List Tree) → (ℕ → Delta) → ℕ
own_follow_cost (over input v) shows delta =
    follow_cost v (delta input) (length (shows input))
    (length (applied (delta input) (shows input)))
own_follow_cost other shows delta = 0

abbrev pub own_change_cost : Cause → Own → (ℕ → List Tree) → ℕ
own_change_cost (command c) (over input v) shows = change_cost (parameter_of c) v (shows input)
own_change_cost cause other shows = 0

-- what a list may take in a wave
abbrev pub list_cost : Cause → State → ℕ → ℕ
list_cost cause s list =
    if is_at (begins cause (own_at s (subject cause))) list
    then own_change_cost cause (own_at s list) (shown s)
    else own_follow_cost (own_at s list) (shown s) (delta_in (wave_deltas s cause))

-- what a wave may take, whether or not a list grows too long in it
abbrev pub cost : State → Cause → ℕ
cost s cause = sum (map (list_cost cause s) (range_with_len 0 (length s)))

-- what a command may take: nothing where it makes no wave or the state refuses it
abbrev pub command_cost : State → Command → ℕ
command_cost s (c.Show list) = 0
command_cost s other = unless_refused (refusal s other)
  where
    unless_refused : Option Reply → ℕ
    unless_refused None = cost s (command other)
    unless_refused (Some reply) = 0

abbrev pub section_cost : ℕ → State → List Command → ℕ
section_cost limit s [] = 0
section_cost limit s (c ∷ cs) = command_cost s c + section_cost limit (step limit s c).state cs

-- what an entry may take
abbrev pub deed_cost : ℕ → State → Deed → ℕ
deed_cost limit s (section commands) = section_cost limit s commands
deed_cost limit s (pumping list) = unless_empty (queue_of (own_at s list))
  where
    unless_empty : List Delta → ℕ
    unless_empty [] = 0
    unless_empty (d ∷ queue) = cost s (pump list)
deed_cost limit s nothing = 0

-- what the next entry of an actor after an order may take
abbrev pub allowance : Plan → List Actor → Actor → ℕ
allowance p order a = deed_cost p.limit (run p order).state (next_deed p order a)
