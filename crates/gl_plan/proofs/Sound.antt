-- What lines without a fault have.
use Rattle.std.proofs.Common.{◌≡◌, ℕ, ◌≤◌, List, length, sym, ap, subst, ◌∙◌, inl, inr}
use Rattle.std.specs.Prelude.{None, All}
use Rattle.std.proofs.lemmas.List.{length-map}
use Rattle.spec_plans.specs.Edges.{AreWithin}
use Rattle.spec_plans.specs.Cycle.{HasCycle}
use Rattle.gl_lines.specs.declared.line.NumberedLine.{NumberedLine}
use Rattle.gl_lines.specs.declared.plan.ListDecl.{ListDecl}
use Rattle.gl_lines.specs.declared.plan.ListenerDecl.{ListenerDecl}
use Rattle.spec_lines.specs.Within.{IsWithin}
use Rattle.spec_plans.specs.Names.{heads, hearers}
use Rattle.spec_plans.specs.NameFaults.{first_fault_at}
use Rattle.spec_plans.specs.Plan.{Plan, list_edges, listener_edges}
use Rattle.spec_plans.specs.Making.{plan_of}
use Rattle.spec_plans.specs.Cycles.{NamesCycle}
use Rattle.spec_plans.proofs.Made.{names_are, hearers_are, as_many_lists, as_many_listeners}
use Rattle.spec_plans.proofs.Sound.{sound_lines_well_formed}
use Rattle.spec_plans.proofs.Within.{lists_within, listeners_within}
use Rattle.gl_plan.specs.declared.tables.Tables.{Tables}
use Rattle.gl_plan.specs.declared.fault.PlanFault.{PlanFault}
use Rattle.gl_plan.specs.declared.fault.PlanFault.TheVariants.{At, Cycle, Memory}
use Rattle.gl_plan.specs.Tables.{AreTables}
use Rattle.gl_plan.specs.Whole.{IsWhole, IsPrepared}
use Rattle.gl_plan.specs.Fault.{IsFaultOf, IsRound, IsCycleFault}
use Rattle.gl_plan.proofs.Limits.{limit_made}

pub few_lists : (lines : List NumberedLine) → first_fault_at lines ≡ None → length (heads lines) ≤ 256
few_lists lines sound =
    subst (λ n. n ≤ 256) (as_many_lists lines) (sound_lines_well_formed lines sound).few_lists

pub few_listeners : (lines : List NumberedLine) → first_fault_at lines ≡ None → length (hearers lines) ≤ 256
few_listeners lines sound =
    subst (λ n. n ≤ 256) (as_many_listeners lines) (sound_lines_well_formed lines sound).few_listeners

-- ---- what is known of the plan of lines without a fault

pub prepared : (lines : List NumberedLine) (tables : Tables) (p : Plan) (names listeners : List (List ℕ))
    → first_fault_at lines ≡ None → All (λ l. IsWithin l.what) lines → AreTables tables lines
    → p ≡ plan_of lines → names ≡ tables.lists → listeners ≡ tables.listeners
    → IsPrepared p names listeners
prepared lines tables p names listeners sound within are is names_is listeners_is =
    subst (λ q. IsPrepared q names listeners) (sym is) (record {
      formed = sound_lines_well_formed lines sound;
      limit = limit_made lines within;
      names_are = names_are lines ∙ sym (names_is ∙ are.lists_are);
      listeners_are = hearers_are lines ∙ sym (listeners_is ∙ are.listeners_are);
    })

-- what the search for the order of the lists needs, and what that of the listeners needs
pub record IsSearched (n : ℕ) (names : List (List ℕ)) (edges : List (ℕ × ℕ)) : Type 0 where
  pub few : n ≤ 256
  pub long : length names ≡ n
  pub within : AreWithin n edges

pub prepared_lists : (p : Plan) (names listeners : List (List ℕ)) → IsPrepared p names listeners
    → IsSearched (length p.lists) names (list_edges p)
prepared_lists p names listeners is = record {
  few = is.formed.few_lists;
  long = ap length (sym is.names_are) ∙ length-map p.lists (λ (d : ListDecl). d.name);
  within = lists_within p is.formed;
}

pub prepared_listeners : (p : Plan) (names listeners : List (List ℕ)) → IsPrepared p names listeners
    → IsSearched (length p.listeners) listeners (listener_edges p)
prepared_listeners p names listeners is = record {
  few = is.formed.few_listeners;
  long = ap length (sym is.listeners_are) ∙ length-map p.listeners (λ (d : ListenerDecl). d.name);
  within = listeners_within p is.formed;
}

pub lists_round : (p : Plan) (names listeners : List (List ℕ)) (fault : PlanFault)
    → IsPrepared p names listeners → IsRound (list_edges p) names fault → IsCycleFault p fault
lists_round p names listeners (At line column what) is round = absurd round
lists_round p names listeners (Cycle cycle) is round =
    inl (subst (λ ns. NamesCycle (list_edges p) ns cycle) (sym is.names_are) round)
lists_round p names listeners Memory is round = tt

pub listeners_round : (p : Plan) (names listeners : List (List ℕ)) (fault : PlanFault)
    → IsPrepared p names listeners → ¬ HasCycle (list_edges p)
    → IsRound (listener_edges p) listeners fault → IsCycleFault p fault
listeners_round p names listeners (At line column what) is lists round = absurd round
listeners_round p names listeners (Cycle cycle) is lists round =
    inr (lists, subst (λ ns. NamesCycle (listener_edges p) ns cycle) (sym is.listeners_are) round)
listeners_round p names listeners Memory is lists round = tt

pub whole : (p : Plan) (names listeners : List (List ℕ)) → IsPrepared p names listeners
    → ¬ HasCycle (list_edges p) → ¬ HasCycle (listener_edges p) → IsWhole p
whole p names listeners is lists hears = record {
  formed = is.formed;
  limit = is.limit;
  few_lists = is.formed.few_lists;
  few_listeners = is.formed.few_listeners;
  few_writers = is.formed.few_writers;
  lists_within = lists_within p is.formed;
  listeners_within = listeners_within p is.formed;
  acyclic = record { lists = lists; listeners = hears };
}

pub fault_of : (lines : List NumberedLine) (fault : PlanFault) → first_fault_at lines ≡ None
    → IsCycleFault (plan_of lines) fault → IsFaultOf lines fault
fault_of lines (At line column what) sound cycle = absurd cycle
fault_of lines (Cycle names) sound cycle = (sound, cycle)
fault_of lines Memory sound cycle = tt
