-- What all commands of a plan have, those of each section have.
use Rattle.std.specs.Prelude.{List, flat_map}
use Rattle.std.specs.List.{AllByRecursion}
use Rattle.gl_lines.specs.declared.plan.Command.{Command}
use Rattle.spec_plans.specs.Plan.{Plan}
use Rattle.spec_plans.specs.WellFormed.{all_commands}
use Rattle.spec_basics.proofs.Lists.{all_weaker, all_parts}

pub in_sections : (P : Command → Type 0) (p : Plan) → AllByRecursion P (all_commands p)
    → AllByRecursion (AllByRecursion (AllByRecursion P)) p.writers
in_sections P p h =
    all_weaker (λ sections. AllByRecursion P (flat_map (λ section. section) sections))
    (AllByRecursion (AllByRecursion P))
    (λ sections k. all_parts P (λ section. section) sections k) p.writers
    (all_parts P (λ sections. flat_map (λ section. section) sections) p.writers h)
