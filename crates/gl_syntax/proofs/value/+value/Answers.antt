use Rattle.std.proofs.Common.{◌≡◌, [], ◌∷◌, ◌-◌, ◌++◌, ◌∙◌, sym, ap, subst, arith, codes, MatchResult}
use Rattle.spec_syntax.specs.Reader.{found, after_word, folded}
use Rattle.spec_syntax.proofs.Folds.{folded_on}
use Rattle.spec_syntax.specs.ValueReader.{is, read_elements, read_nested, read_others, snoc}
use Rattle.spec_syntax.proofs.Verdicts.{element_rest}
use Rattle.spec_syntax.proofs.Enclosed.{elements_found}
use Rattle.gl_syntax.specs.Stop.{IsStop}
use Rattle.gl_syntax.proofs.value.+value.Goals as goal

pub others_ahead-elements-smaller : goal.others_ahead-elements-smaller
others_ahead-elements-smaller t c = element_rest c.args.depth c.elements.rest.now c.in_ok-value.value c.in_ok-value.others.now c.in_ok-value.ensures

pub others_ahead-elements-preserved : goal.others_ahead-elements-preserved
others_ahead-elements-preserved t c =
    let before = c.elements.invariant in
    let rest = c.elements.rest.now in
    let others = c.in_ok-value.others.now in
    let shorter = element_rest c.args.depth rest c.in_ok-value.value others c.in_ok-value.ensures in
    record {
      most = before.most - 1;
      enough = omega (arith, before.enough, shorter);
      whole =
          ap (λ values. folded snoc values (before.most - 1) (is 44) (after_word (codes ",") (read_nested c.args.depth)) others) c.in_ok-values.ensures
          ∙ sym (folded_on snoc c.elements.values before.most (is 44) (after_word (codes ",") (read_nested c.args.depth)) rest c.in_ok-value.value others
          (omega (arith, before.enough, shorter)) (sym c.begins_with.ensures ∙ c.elements-test.true) c.in_ok-value.ensures)
          ∙ before.whole;
    }

pub elements_ahead-returns : goal.elements_ahead-returns
elements_ahead-returns t c =
    let r = read_nested c.args.depth in
    let rest = c.in_ok-first.rest.now in
    let values : c.in_ok-values.values ≡ c.in_ok-first.first ∷ [] = c.in_ok-values.ensures ∙ ap (λ list. list ++ c.in_ok-first.first ∷ []) c.new-2.ensures in
    let same : read_elements r c.args.bytes.now ≡ read_others r c.in_ok-values.values rest =
    elements_found r c.args.bytes.now c.in_ok-first.first rest (sym c.begins_with.ensures ∙ c.if-begins_with.false) c.in_ok-first.ensures
    ∙ ap (λ list. read_others r list rest) (sym values) in
    subst (λ step. MatchResult c.others_ahead.result (λ x. step ≡ found x.0 x.1.now) (IsStop step)) (sym same) c.others_ahead.ensures
