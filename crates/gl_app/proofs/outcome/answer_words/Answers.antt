use Rattle.std.proofs.Common.{rules, ◌≡◌, true, false}
use Rattle.std.specs.Prelude.{is_some}
use Rattle.spec_reports.specs.Words.{big}
use Rattle.gl_app.specs.Words.{asked}
use Rattle.gl_app.proofs.CallOutcomes.{usage_answer, size_answer}
use Rattle.gl_app.proofs.SpelledWords.{formed, unformed}
use Rattle.gl_app.proofs.outcome.answer_words.Goals as goal

pub returns-then-not-have_form-clause-answer : goal.returns-then-not-have_form-clause-answer
returns-then-not-have_form-clause-answer g c =
    let none : is_some (asked c.args.words.now) ≡ false = search rules in
    usage_answer c.args.words.now (g.S.Source.remaining c.args.source.now) (unformed c.args.words.now none)

pub returns-in_err-read_words-clause-no_form : goal.returns-in_err-read_words-clause-no_form
returns-in_err-read_words-clause-no_form g c =
    let some : is_some (asked c.args.words.now) ≡ true = search rules in
    λ none. absurd (formed c.args.words.now some none)

pub returns-in-None-clause-answer : goal.returns-in-None-clause-answer
returns-in-None-clause-answer g c =
    let none = rw c.in-None.is at c.in_ok-read_words.ensures.none in
    usage_answer c.args.words.now (g.S.Source.remaining c.args.source.now) none

pub returns-then-not-have_form-clause-size : goal.returns-then-not-have_form-clause-size
returns-then-not-have_form-clause-size g c =
    let none : is_some (asked c.args.words.now) ≡ false = search rules in
    λ n asks. absurd (unformed c.args.words.now none (big n) asks)

pub returns-in-None-clause-size : goal.returns-in-None-clause-size
returns-in-None-clause-size g c =
    let none = rw c.in-None.is at c.in_ok-read_words.ensures.none in
    λ n asks. absurd (none (big n) asks)

pub returns-in_ok-answer_big-in-Some-Big-clause-answer : goal.returns-in_ok-answer_big-in-Some-Big-clause-answer
returns-in_ok-answer_big-in-Some-Big-clause-answer g c =
    let found = rw c.in-Some-Big.is at c.in_ok-read_words.ensures.found in
    let asks = rw c.in-Some-Big.field-0-is at found in
    size_answer c.args.words.now (g.S.Source.remaining c.args.source.now) c.in-Some-Big.size
    c.in_ok-answer_big-in-Some-Big.field-0 asks c.in_ok-answer_big-in-Some-Big.ensures
