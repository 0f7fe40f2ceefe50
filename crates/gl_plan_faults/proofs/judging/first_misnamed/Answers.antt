use Rattle.std.proofs.Common.{◌≡◌, ◌+◌, ◌<◌, None, length, get_or, take, sym, ap, subst, ◌∙◌}
use Rattle.std.specs.Prelude.{option_map}
use Rattle.spec_plans.specs.declared.fault.NameFault.{NameFault}
use Rattle.spec_plans.specs.NameFaults.{name_fault, naming}
use Rattle.gl_plan_faults.proofs.PassedLines.{nothing_said, passed_more}
use Rattle.gl_plan_faults.proofs.judging.first_misnamed.Goals as goal

pub loop-line-preserved : goal.loop-line-preserved
loop-line-preserved c =
    let lines = c.args.known.now.lines.now in
    let i = c.loop-line.line-index in
    let l = c.line-item.result in
    let at = c.loop-line.invariant.place in
    let none : None ≡ name_fault lines (take i lines) l.what =
    c.in-None.ensures ∙ ap (λ k. name_fault lines (take k lines) l.what) at in
    record {
      place = c.in_ok-passed-in-None.ensures.place ∙ ap (λ k. k + 1) at;
      passed = passed_more c.loop-line.passed c.in_ok-passed-in-None.passed lines l c.loop-line.invariant.passed
          (subst (λ k. k < length lines) (sym at) c.loop-line-test.true)
          (subst (λ k. l ≡ get_or lines k l) (sym at) c.line-item.is)
          c.in_ok-passed-in-None.ensures.place c.in_ok-passed-in-None.ensures.lists c.in_ok-passed-in-None.ensures.listeners c.in_ok-passed-in-None.ensures.undone;
      left = nothing_said (naming lines) lines i l c.loop-line-test.true c.line-item.is
          (ap (option_map (λ (f : NameFault). record { line = l.line; column = f.column; kind = f.kind })) none)
          ∙ c.loop-line.invariant.left;
    }
