use Rattle.std.proofs.Common.{◌-◌, ◌++◌, ◌∙◌, sym, arith}
use Rattle.spec_syntax.proofs.Folds.{folded_ends, folded_made}
use Rattle.spec_syntax.specs.ValueReader.{begins_char, read_char}
use Rattle.gl_syntax.proofs.text.chars_ahead.Goals as goal

pub chars-preserved : goal.chars-preserved
chars-preserved c =
    let before = c.chars.invariant in
    record {
      most = before.most - 1;
      enough = omega (arith, before.enough, c.in_ok-rest.ensures.shorter);
      whole =
          sym (folded_made ◌++◌ c.chars.chars c.add_char.new.chars before.most begins_char read_char c.chars.rest.now c.in_ok-rest.rest.now
          (omega (arith, before.enough, c.in_ok-rest.ensures.shorter)) (sym c.begins_char.ensures ∙ c.chars-test.true) c.in_ok-rest.ensures.read)
          ∙ before.whole;
    }

pub returns : goal.returns
returns c =
    let before = c.chars.invariant in
    sym before.whole ∙ folded_ends ◌++◌ c.chars.chars before.most begins_char read_char c.chars.rest.now (sym c.begins_char.ensures ∙ c.chars-test.false)
