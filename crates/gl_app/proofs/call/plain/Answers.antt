use Rattle.std.proofs.Common.{◌-◌, length, sym, subst}
use Rattle.gl_app.specs.Answer.{text_at}
use Rattle.gl_app.specs.Call.{IsAhead}
use Rattle.gl_app.proofs.CallOutcomes.{is_answer, quiet_answer, reports_run, writes_plan, writes_summary, summary_status, usage_without_form, not_ahead, read_by_status, room_for}
use Rattle.gl_app.proofs.call.plain.Goals as goal

pub returns-in-Ok-clause-answer : goal.returns-in-Ok-clause-answer
returns-in-Ok-clause-answer g c =
    let held = g.S.Source.remaining c.args.source.now in
    let old = g.K.Sink.contents c.args.sink.now in
    let new = g.K.Sink.contents c.give.new.sink in
    let is = is_answer c.args.words.now held old new c.in-Ok.answer c.give.result c.in-Ok.ensures.answer
    c.give.ensures.given in
    quiet_answer c.args.words.now held old new c.give.result _ _ is
    (λ e. absurd (not_ahead old new c.in-Ok.answer c.give.result c.give.ensures.given (subst IsAhead (sym e) tt)))
    c.give.ensures.write

pub returns-in-Ok-clause-by_status : goal.returns-in-Ok-clause-by_status
returns-in-Ok-clause-by_status g c = is_answer c.args.words.now _ _ _ c.in-Ok.answer c.give.result
    c.in-Ok.ensures.answer c.give.ensures.given

pub returns-in-Ok-clause-headline : goal.returns-in-Ok-clause-headline
returns-in-Ok-clause-headline g c = λ order asks done. reports_run c.args.words.now _ _ _ c.give.result order
    (is_answer c.args.words.now _ _ _ c.in-Ok.answer c.give.result c.in-Ok.ensures.answer c.give.ensures.given) asks
    done

pub returns-in-Ok-clause-written : goal.returns-in-Ok-clause-written
returns-in-Ok-clause-written g c = writes_plan c.args.words.now _ _ _ c.give.result
    (is_answer c.args.words.now _ _ _ c.in-Ok.answer c.give.result c.in-Ok.ensures.answer c.give.ensures.given)

pub returns-in-Ok-clause-summary : goal.returns-in-Ok-clause-summary
returns-in-Ok-clause-summary g c = writes_summary c.args.words.now _ _ _ c.give.result
    (is_answer c.args.words.now _ _ _ c.in-Ok.answer c.give.result c.in-Ok.ensures.answer c.give.ensures.given)

pub returns-in-Ok-clause-reading : goal.returns-in-Ok-clause-reading
returns-in-Ok-clause-reading g c = λ none. read_by_status _ _ _ _ c.in-Ok.answer c.give.result c.give.ensures.given
    (c.in-Ok.ensures.reading none)

pub returns-in-Ok-clause-size : goal.returns-in-Ok-clause-size
returns-in-Ok-clause-size g c = λ n asks.
    let before = c.in-Ok.ensures.size n asks in
    (summary_status _ _ c.in-Ok.answer c.give.result c.give.ensures.given before.0, before.1)

pub returns-in-Ok-clause-usage : goal.returns-in-Ok-clause-usage
returns-in-Ok-clause-usage g c = usage_without_form c.args.words.now _ _ _ c.give.result
    (is_answer c.args.words.now _ _ _ c.in-Ok.answer c.give.result c.in-Ok.ensures.answer c.give.ensures.given)

pub returns-in-Ok-clause-room : goal.returns-in-Ok-clause-room
returns-in-Ok-clause-room g c = λ n most room.
    let size = length (text_at c.in-Ok.answer) in
    c.give.ensures.room (n - size) (subst (g.K.Sink.has_room c.args.sink.now)
    (sym (room_for c.args.words.now _ c.in-Ok.answer n c.in-Ok.ensures.answer most)) room)
