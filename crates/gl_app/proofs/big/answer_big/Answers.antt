use Rattle.gl_app.proofs.AllSections.{opens}
use Rattle.gl_app.proofs.big.answer_big.Goals as goal

pub unreachable-requires : goal.unreachable-requires
unreachable-requires g c =
    let long = rw c.in-Err-TooLong.field-0-is at c.in-Err-TooLong.ensures.fault in
    opens c.in_ok-plan.plan c.args.size _ c.in_ok-plan.ensures c.requires long
