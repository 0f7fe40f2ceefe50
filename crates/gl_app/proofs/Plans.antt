-- What holds of each plan that a text spells: in every run each list shows its view of its inputs, unless it is held, and then what it
-- did; each listener hears of its list, and each is told after those that it depends on; each proxy follows its input.
use Rattle.std.proofs.Common.{ℕ, List, sym, subst}
use Rattle.gl_outside.specs.declared.gate.Actor.{Actor}
use Rattle.spec_reports.specs.Plan.{Plan}
use Rattle.spec_reports.specs.Shown.{EachShowsItsView}
use Rattle.spec_reports.specs.WellFormed.{IsWellFormed}
use Rattle.spec_reports.proofs.Sound.{sound_lines_well_formed}
use Rattle.spec_reports.specs.Text.{SpellsPlan}
use Rattle.spec_reports.specs.Laws.{EachHeldStays, EachHears, EachToldAfterNeeded, EachProxyFollows}
use Rattle.spec_reports.specs.Run.{run}
use Rattle.spec_reports.proofs.HeldLists.{each_held_stays}
use Rattle.spec_reports.proofs.Heard.{hears_well_formed}
use Rattle.spec_reports.proofs.Ordered.{views_of_run}
use Rattle.spec_reports.proofs.ToldAfter.{told_after_needed}
use Rattle.spec_reports.proofs.Proxies.{each_proxy_follows}

spelled_plan_formed : (bytes : List ℕ) (p : Plan) → SpellsPlan bytes p → IsWellFormed p
spelled_plan_formed bytes p spells =
    subst IsWellFormed (sym spells.makes) (sound_lines_well_formed spells.lines spells.sound)

-- in every run of the plan each list shows its view of what its inputs show
pub views_of_spelled : (bytes : List ℕ) (p : Plan) (order : List Actor) → SpellsPlan bytes p
    → EachShowsItsView (run p order).state
views_of_spelled bytes p order spells =
    views_of_run p order (spelled_plan_formed bytes p spells) spells.acyclic

-- each list that is held after a command shows what it showed before it
pub held_of_spelled : (bytes : List ℕ) (p : Plan) → SpellsPlan bytes p → EachHeldStays p
held_of_spelled bytes p spells = each_held_stays p (spelled_plan_formed bytes p spells) spells.acyclic

-- and each listener hears of its list
pub hears_of_spelled : (bytes : List ℕ) (p : Plan) → SpellsPlan bytes p → EachHears p
hears_of_spelled bytes p spells = hears_well_formed p (spelled_plan_formed bytes p spells) spells.acyclic

-- after those that it depends on
pub in_turn_of_spelled : (bytes : List ℕ) (p : Plan) → SpellsPlan bytes p → EachToldAfterNeeded p
in_turn_of_spelled bytes p spells = told_after_needed p (spelled_plan_formed bytes p spells) spells.acyclic

-- and each proxy follows its input, later
pub proxies_of_spelled : (bytes : List ℕ) (p : Plan) → SpellsPlan bytes p → EachProxyFollows p
proxies_of_spelled bytes p spells = each_proxy_follows p (spelled_plan_formed bytes p spells) spells.acyclic
