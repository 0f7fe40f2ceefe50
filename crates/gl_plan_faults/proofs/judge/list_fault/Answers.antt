use Rattle.std.proofs.Common.{None, ap, ◌∙◌, take, length, cond}
use Rattle.spec_plans.specs.Names.{heads, list_names}
use Rattle.spec_plans.specs.NameFaults.{first_fault, use_fault, taken_fault, second_fault, proxy_fault, is_undone, input_need}
use Rattle.gl_plan_faults.specs.Passed.{again_fault}
use Rattle.gl_plan_faults.proofs.Finds.{five}
use Rattle.gl_plan_faults.proofs.judge.list_fault.Goals as goal

pub returns : goal.returns
returns c =
    let lines = c.args.known.now.lines.now in
    let before = take c.args.passed.now.place lines in
    let h = c.args.head in
    five c.first.result c.list_taken_fault.result c.first-inputs.result c.first_use_fault-2.result c.first-may.result
    c.first_use_fault.result c.first-again.result c.second_fault.result c.proxy_fault-over.result
    (taken_fault (list_names before) h.name.now)
    (first_fault (use_fault lines (input_need h.class)) h.inputs.now)
    (first_fault (use_fault lines None) h.may.now)
    (cond (is_undone h.class) (first_fault (second_fault (heads before)) h.inputs.now) None)
    (proxy_fault lines (length (heads before)) h.class)
    c.first.ensures c.first-inputs.ensures c.first-may.ensures c.first-again.ensures
    c.list_taken_fault.ensures
    (c.first_use_fault-2.ensures ∙ ap (λ need. first_fault (use_fault lines need) h.inputs.now) c.input_need-need.ensures)
    c.first_use_fault.ensures
    (c.second_fault.ensures ∙ ap (λ undone. cond (is_undone h.class) (first_fault (again_fault undone) h.inputs.now) None) c.requires.passed.undone)
    (c.proxy_fault-over.ensures ∙ ap (λ n. proxy_fault lines n h.class) c.requires.passed.lists)
