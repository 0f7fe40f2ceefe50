-- Sound lines make a well formed plan.
use Rattle.std.proofs.Common.{◌≡◌, List, None}
use Rattle.std.specs.Prelude.{option_map}
use Rattle.gl_lines.specs.declared.line.NumberedLine.{NumberedLine}
use Rattle.gl_lines.specs.declared.fault.Misplaced.{Misplaced}
use Rattle.spec_plans.specs.declared.fault.FaultAt.{FaultAt}
use Rattle.spec_plans.specs.Place.{first_misplaced}
use Rattle.spec_plans.specs.NameFaults.{first_misnamed, first_fault_at}
use Rattle.spec_plans.specs.Making.{plan_of}
use Rattle.spec_plans.specs.WellFormed.{IsWellFormed}
use Rattle.spec_plans.proofs.SoundLists.{list_names_distinct, listener_names_distinct, has_inputs, all_heard}
use Rattle.spec_plans.proofs.SoundCommands.{all_commanded, all_attachable}
use Rattle.spec_plans.proofs.SoundUndone.{one_transaction_each}
use Rattle.spec_plans.proofs.SoundFew.{few_lists_made, few_listeners_made, few_writers_made}
use Rattle.spec_plans.proofs.SoundProxies.{over_no_proxy}
use Rattle.spec_basics.proofs.Options.{first_none, second_none, unmapped}

pub sound_lines_well_formed : (lines : List NumberedLine) → first_fault_at lines ≡ None → IsWellFormed (plan_of lines)
sound_lines_well_formed lines sound =
    let at_start : Misplaced → FaultAt = λ m. record { line = m.line; column = 1; kind = m.kind } in
    let placed : first_misplaced lines ≡ None =
    unmapped at_start (first_misplaced lines) (first_none (option_map at_start (first_misplaced lines))
    (first_misnamed lines) sound) in
    let named : first_misnamed lines ≡ None = second_none (option_map at_start (first_misplaced lines))
    (first_misnamed lines) sound in
    record {
      list_names = list_names_distinct lines named;
      listener_names = listener_names_distinct lines named;
      inputs = has_inputs lines named;
      heard = all_heard lines named;
      commanded = all_commanded lines named;
      attached = all_attachable lines named;
      one_transaction = one_transaction_each lines named;
      no_proxies = over_no_proxy lines named;
      few_lists = few_lists_made lines placed;
      few_listeners = few_listeners_made lines placed;
      few_writers = few_writers_made lines placed;
    }
