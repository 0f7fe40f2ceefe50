-- Where no list opens too long, none ever shows more elements than the limit.
use Rattle.std.proofs.Common.{◌≡◌, ◌<◌, ◌≤◌, ℕ, Bool, true, false, cond, List, [], ◌∷◌, length, refl, subst, inl, inr}
use Rattle.std.specs.Prelude.{Some, None, nat_le}
use Rattle.std.specs.List.{Contains}
use Rattle.std.proofs.lemmas.Bool.{leb-true, le-leb}
use Rattle.spec_plans.proofs.Acyclic.{Contains-order}
use Rattle.spec_plans.proofs.Members.{Contains-nil, Contains-cons_cases, Contains-here, Contains-later}
use Rattle.gl_lines.specs.declared.plan.Command.{Command}
use Rattle.gl_lines.specs.declared.reply.Reply.TheVariants.{TooLong}
use Rattle.spec_states.specs.State.{State, edges_of, dependency_order}
use Rattle.spec_states.specs.Shown.{Table, shows_in, table_of, shown}
use Rattle.spec_states.specs.Step.{step, first_longer, too_long}
use Rattle.spec_states.specs.Laws.{IsOrdered}
use Rattle.spec_states.proofs.DependencyOrder.{ordered}
use Rattle.spec_states.proofs.Waves.{step_within}
use Rattle.spec_runs.specs.Section.{state_after}
use Rattle.spec_states.proofs.Longer.{none_longer}

pub after_within : (limit : ℕ) (s : State) (cs : List Command) → too_long limit s ≡ None
    → too_long limit (state_after limit s cs) ≡ None
after_within limit s [] h = h
after_within limit s (c ∷ cs) h = after_within limit (step limit s c).state cs (step_within limit s c h)

-- in a state where no list is too long each is as long as the limit at most
pub shown_few : (limit : ℕ) (s : State) (list : ℕ) → IsOrdered s → too_long limit s ≡ None
    → list < length s → length (shown s list) ≤ limit
shown_few limit s list h none within =
    none_longer limit (table_of s) (dependency_order s) list none
    (Contains-order (length s) (edges_of s) (dependency_order s) (ordered s h) list within)
