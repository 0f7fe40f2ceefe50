use Rattle.std.proofs.Common.{rules, ◌≡◌, ◌+◌, ◌∷◌, ◌++◌, [], None, Some}
use Rattle.spec_plan_texts.specs.Place.{place_fault}
use Rattle.spec_plan_texts.specs.Reading.{numbered, opened_by}
use Rattle.gl_text.specs.declared.reading.Reading.{Reading}
use Rattle.gl_text.specs.Goes.{IsReading}
use Rattle.gl_text.proofs.Progress.{plain_goes, opening_either, later}
use Rattle.gl_text.proofs.reading.with_line.Goals as goal

pub returns-in-Some-opened : goal.returns-in-Some-opened
returns-in-Some-opened c =
    let a = c.args.reading.now in
    let m : Reading = record { lines = c.put.new.self.lines; before = c.put.new.self.before; number = c.put.new.self.number + 1 } in
    let lines : m.lines ≡ a.lines ++ numbered a.number c.args.line ∷ [] = search rules in
    let number : m.number ≡ a.number + 1 = search rules in
    let placed : None ≡ place_fault a.lines c.args.line = search rules in
    let some : Some c.in-Some-opened.named ≡ opened_by c.args.line = search rules in
    opening_either a m c.with_block.new.reading c.args.line c.in-Some-opened.named c.args.others.now c.with_block.result lines number placed some c.with_block.ensures

pub returns-in-None : goal.returns-in-None
returns-in-None c =
    let a = c.args.reading.now in
    let b : Reading = record { lines = c.put.new.self.lines; before = c.put.new.self.before; number = c.put.new.self.number + 1 } in
    let lines : b.lines ≡ a.lines ++ numbered a.number c.args.line ∷ [] = search rules in
    let number : b.number ≡ a.number + 1 = search rules in
    let is : IsReading c.put.new.self = search rules in
    let placed : None ≡ place_fault a.lines c.args.line = search rules in
    let none : None ≡ opened_by c.args.line = search rules in
    plain_goes a b c.args.line c.args.others.now lines number (later c.put.new.self (c.put.new.self.number + 1) is) placed none c.requires.utf8
