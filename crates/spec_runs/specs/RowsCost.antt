-- What waves and entries may take, in small cases worked out by hand.
use Rattle.std.specs.Prelude.{◌≡◌, ℕ, [], ◌∷◌, refl, codes}
use Rattle.spec_lang.specs.Matcher.{Matcher, all, nothing, is, both, matchers}
use Rattle.spec_lang.specs.declared.Test.TheVariants.{Gt, Lt}
use Rattle.spec_lists.specs.Delta.{one_insert}
use Rattle.spec_views.specs.View.{filter, sorted}
use Rattle.gl_outside.specs.declared.gate.Actor.TheVariants.{Writer, Proxy}
use Rattle.gl_lines.specs.declared.plan.Command.TheVariants as c
use Rattle.gl_lines.specs.declared.plan.ListKind.TheVariants as kinds
use Rattle.spec_plans.specs.Plan.{Plan}
use Rattle.spec_states.specs.State.{State, source, over}
use Rattle.spec_states.specs.Wave.{command}
use Rattle.spec_runs.specs.Cost.{search_cost, follow_cost, cost, command_cost, allowance}
use Rattle.spec_runs.specs.RowsWords.{number, numbers, whole_up, whole_down}

-- one element more in an order of a thousand numbers: 2 ^ 10 is above 1001, so 4 * 11
thousand : search_cost 1 1001 ≡ 44
thousand = refl

thousand_followed :
    follow_cost (sorted (whole_up ∷ [])) (one_insert 1000 1000 (number 7)) 1000 1001 ≡ 44
thousand_followed = refl

-- 2 ^ 3 is above 7, and not above 8
seven : search_cost 1 7 ≡ 16
seven = refl

eight : search_cost 1 8 ≡ 20
eight = refl

abbrev above : ℕ → Matcher
above n = is [] Gt (number n)

abbrev below : ℕ → Matcher
below n = is [] Lt (number n)

abbrev between : ℕ → ℕ → Matcher
between m n = both (matchers (above m ∷ below n ∷ []))

-- four numbers under a filter and a sorted list, and a sorted list over the filter
abbrev four_under : Matcher → State
four_under m =
    source (numbers (1 ∷ 2 ∷ 3 ∷ 4 ∷ []))
    ∷ over 0 (filter m)
    ∷ over 0 (sorted (whole_up ∷ []))
    ∷ over 1 (sorted (whole_up ∷ []))
    ∷ []

abbrev four : State
four = four_under (above 2)

-- one for the filter, and 4 * 4 for the sorted list of five; the filter hides it, so the list over it has nothing to do
hidden : cost four (command (c.Add 0 (number 1))) ≡ 17
hidden = refl

-- where it is shown, 4 * 3 for the sorted list of three
shown : cost four (command (c.Add 0 (number 7))) ≡ 29
shown = refl

updated : cost four (command (c.Set 0 3 (number 9))) ≡ 29
updated = refl

-- a removal asks nothing
removed : cost four (command (c.Remove 0 3)) ≡ 0
removed = refl

-- four elements more: 4 for the filter, 4 * (4 * 5) for the list of eight, and 4 * (4 * 4) for that of six
four_more : cost four (command (c.AddAll 0 (numbers (5 ∷ 6 ∷ 7 ∷ 8 ∷ [])))) ≡ 148
four_more = refl

-- `all` asks the filter nothing; two elements are newly shown, 2 * (4 * 4) for the list over it
all_matched : cost four (command (c.Match 1 all)) ≡ 32
all_matched = refl

nothing_matched : cost four (command (c.Match 1 nothing)) ≡ 0
nothing_matched = refl

-- a stricter matcher is asked about the two that are shown
constrained : cost four (command (c.Match 1 (between 2 4))) ≡ 2
constrained = refl

-- one that is less strict about the three that are hidden; one of them is shown, 4 * 3 for the list over the filter
relaxed : cost (four_under (between 2 4)) (command (c.Match 1 (above 2))) ≡ 15
relaxed = refl

-- any other about all four, and again 4 * 3
changed : cost four (command (c.Match 1 (below 2))) ≡ 16
changed = refl

-- a new order counts each of its four elements
reordered : cost four (command (c.Order 2 (whole_down ∷ []))) ≡ 64
reordered = refl

-- what the state refuses makes no wave
refused : command_cost four (c.Remove 0 4) ≡ 0
refused = refl

-- Four numbers, of which lists may have five, under a filter and a proxy, and a sorted list over the proxy. In the section an
-- element is added, one is one too many, one can't be removed, and the source is shown.
abbrev tight : Plan
tight = record {
  limit = 5;
  lists =
      record { name = codes "s"; kind = kinds.Source (numbers (1 ∷ 2 ∷ 3 ∷ 4 ∷ [])) }
      ∷ record { name = codes "f"; kind = kinds.Filter 0 (above 2) }
      ∷ record { name = codes "p"; kind = kinds.Proxy 0 }
      ∷ record { name = codes "o"; kind = kinds.Sorted 2 (whole_up ∷ []) }
      ∷ [];
  listeners = [];
  writers =
      ((c.Add 0 (number 5) ∷ c.Add 0 (number 6) ∷ c.Remove 0 9 ∷ c.Show 0 ∷ []) ∷ []) ∷ [];
}

-- the wave that is refused because the source grows too long counts too
tight_section : allowance tight [] (Writer 0) ≡ 2
tight_section = refl

-- the proxy has nothing to take before the section, and after it one element, which the sorted list of five places
tight_nothing : allowance tight [] (Proxy 0) ≡ 0
tight_nothing = refl

tight_pump : allowance tight (Writer 0 ∷ []) (Proxy 0) ≡ 16
tight_pump = refl

no_section_left : allowance tight (Writer 0 ∷ []) (Writer 0) ≡ 0
no_section_left = refl
