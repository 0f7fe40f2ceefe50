use Rattle.std.proofs.Common.{◌≡◌, [], ◌∷◌, ◌++◌, ◌-◌, ◌∙◌, sym, ap, subst, arith, MatchResult}
use Rattle.spec_syntax.specs.Reader.{found, folded, made}
use Rattle.spec_syntax.proofs.Folds.{folded_on}
use Rattle.spec_syntax.specs.ValueReader.{is}
use Rattle.spec_syntax.specs.LanguageReader.{read_chain, read_unit}
use Rattle.gl_syntax.specs.Stop.{IsStop}
use Rattle.gl_line_reader.specs.Chains.{joint_of, put, finish, read_part, read_others}
use Rattle.gl_line_reader.proofs.Chains.{joined_rest, chain_on}
use Rattle.gl_line_reader.proofs.matcher.+matcher.Goals as goal

pub others_ahead-units-smaller : goal.others_ahead-units-smaller
others_ahead-units-smaller t c =
    joined_rest c.args.depth c.units.rest.now (joint_of c.in_ok-joint.joint, c.in_ok-joint.unit) c.in_ok-joint.others.now c.in_ok-joint.ensures

pub others_ahead-units-preserved : goal.others_ahead-units-preserved
others_ahead-units-preserved t c =
    let before = c.units.invariant in
    let rest = c.units.rest.now in
    let others = c.in_ok-joint.others.now in
    let r = read_part (read_unit c.args.depth) in
    let shorter = joined_rest c.args.depth rest (joint_of c.in_ok-joint.joint, c.in_ok-joint.unit) others c.in_ok-joint.ensures in
    record {
      most = before.most - 1;
      enough = omega (arith, before.enough, shorter);
      some = c.in_ok-parts.ensures.some;
      whole =
          ap (λ parts. folded put parts (before.most - 1) (is 32) r others) c.in_ok-parts.ensures.value
          ∙ sym (folded_on put c.units.parts before.most (is 32) r rest (joint_of c.in_ok-joint.joint, c.in_ok-joint.unit) others
          (omega (arith, before.enough, shorter)) (sym c.begins_with.ensures ∙ c.units-test.true) c.in_ok-joint.ensures)
          ∙ before.whole;
    }

pub chain_ahead-returns : goal.chain_ahead-returns
chain_ahead-returns t c =
    let r = read_unit c.args.depth in
    let rest = c.in_ok-first.rest.now in
    let units : c.in_ok-units.units ≡ c.in_ok-first.first ∷ [] = c.in_ok-units.ensures ∙ ap (λ list. list ++ c.in_ok-first.first ∷ []) c.new.ensures in
    let same : read_chain r c.args.bytes.now ≡ made finish (read_others r (c.new-2.result, c.in_ok-units.units) rest) =
    chain_on r c.args.bytes.now rest c.in_ok-first.first (c.new-2.result, c.in_ok-units.units) c.in_ok-first.ensures (ap (λ list. (list, c.in_ok-units.units)) c.new-2.ensures ∙ ap (λ list. ([], list)) units) in
    subst (λ step. MatchResult c.chain_from.result (λ x. step ≡ found x.0 x.1.now) (IsStop step)) (sym same) c.chain_from.ensures
