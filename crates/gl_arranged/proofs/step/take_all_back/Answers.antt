use Rattle.std.proofs.Common.{◌∙◌, List, ap, sym, subst}
use Rattle.gl_order.specs.Arranged.{Arranged}
use Rattle.gl_arranged.specs.declared.step.Step.{Step}
use Rattle.gl_arranged.specs.Steps.{all_taken_back, CanTakeAllBack}
use Rattle.gl_arranged.proofs.Backward.{back_last, can_last}
use Rattle.gl_arranged.proofs.step.take_all_back.Goals as goal

abbrev CanFrom : Arranged → List Step → Type 0
CanFrom a ss = CanTakeAllBack ss a

pub take_back-requires : goal.take_back-requires
take_back-requires c =
    (can_last c.pop.new.self.items c.in-Some.step c.steps.tree (subst (CanFrom c.steps.tree) c.in-Some.ensures.items c.steps.invariant.can)).0

pub steps-preserved : goal.steps-preserved
steps-preserved c =
    let rest = c.pop.new.self.items in
    let step = c.in-Some.step in
    let now = c.steps.tree in
    let can = can_last rest step now (subst (CanFrom now) c.in-Some.ensures.items c.steps.invariant.can) in
    record {
      back = ap (all_taken_back rest) c.take_back.ensures ∙ (sym (back_last rest step now) ∙ (ap (λ ss. all_taken_back ss now) (sym c.in-Some.ensures.items) ∙ c.steps.invariant.back));
      can = subst (CanTakeAllBack rest) (sym c.take_back.ensures) can.1;
    }
