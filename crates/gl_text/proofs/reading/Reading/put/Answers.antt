use Rattle.std.proofs.Common.{rules, ◌≡◌, ◌∷◌, ◌++◌, [], refl}
use Rattle.spec_plan_texts.specs.Reading.{numbered}
use Rattle.gl_text.proofs.Progress.{reading_more}
use Rattle.gl_text.proofs.reading.Reading.put.Goals as goal

pub returns-clause-is : goal.returns-clause-is
returns-clause-is c =
    let lines = c.args.self.now.lines in
    let l = numbered c.args.number c.args.line in
    let are : c.push.new.lines ≡ lines ++ l ∷ [] = search rules in
    reading_more c.args.self.now (record { lines = c.push.new.lines; before = c.with-before.result; number = c.args.self.now.number }) lines l c.requires.is c.requires.few refl are
    (c.with-before.ensures lines l refl c.requires.is.stands)
