use Rattle.gl_app.proofs.CallOutcomes.{too_large_answer}
use Rattle.gl_app.proofs.outcome.answer_source.Goals as goal

pub returns-in-Err-TooLarge-clause-answer : goal.returns-in-Err-TooLarge-clause-answer
returns-in-Err-TooLarge-clause-answer g c =
    let whole = rw c.in-Err-TooLarge.field-0-is at c.in-Err-TooLarge.ensures.whole in
    too_large_answer c.args.request.now (g.S.Source.remaining c.args.source.now)
    (g.S.Source.remaining c.read_all.new.source) whole
