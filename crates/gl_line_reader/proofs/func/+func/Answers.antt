use Rattle.std.proofs.Common.{◌≡◌, [], ◌∷◌, ◌-◌, ◌++◌, ◌∙◌, sym, ap, subst, arith, codes, MatchResult}
use Rattle.spec_syntax.specs.Reader.{found, after_word, folded}
use Rattle.spec_syntax.proofs.Folds.{folded_on}
use Rattle.spec_syntax.specs.ValueReader.{is, read_elements, read_others, snoc}
use Rattle.spec_syntax.specs.LanguageReader.{read_func}
use Rattle.spec_syntax.proofs.Enclosed.{elements_found}
use Rattle.gl_syntax.specs.Stop.{IsStop}
use Rattle.gl_line_reader.proofs.Funcs.{func_rest}
use Rattle.gl_line_reader.proofs.func.+func.Goals as goal

pub others_ahead-funcs-smaller : goal.others_ahead-funcs-smaller
others_ahead-funcs-smaller t c = func_rest c.args.depth c.funcs.rest.now c.in_ok-func.func c.in_ok-func.others.now c.in_ok-func.ensures

pub others_ahead-funcs-preserved : goal.others_ahead-funcs-preserved
others_ahead-funcs-preserved t c =
    let before = c.funcs.invariant in
    let rest = c.funcs.rest.now in
    let others = c.in_ok-func.others.now in
    let shorter = func_rest c.args.depth rest c.in_ok-func.func others c.in_ok-func.ensures in
    record {
      most = before.most - 1;
      enough = omega (arith, before.enough, shorter);
      whole =
          ap (λ funcs. folded snoc funcs (before.most - 1) (is 44) (after_word (codes ",") (read_func c.args.depth)) others) c.in_ok-funcs.ensures
          ∙ sym (folded_on snoc c.funcs.funcs before.most (is 44) (after_word (codes ",") (read_func c.args.depth)) rest c.in_ok-func.func others
          (omega (arith, before.enough, shorter)) (sym c.begins_with.ensures ∙ c.funcs-test.true) c.in_ok-func.ensures)
          ∙ before.whole;
    }

pub elements_ahead-returns : goal.elements_ahead-returns
elements_ahead-returns t c =
    let r = read_func c.args.depth in
    let rest = c.in_ok-first.rest.now in
    let funcs : c.in_ok-funcs.funcs ≡ c.in_ok-first.first ∷ [] = c.in_ok-funcs.ensures ∙ ap (λ list. list ++ c.in_ok-first.first ∷ []) c.new-2.ensures in
    let same : read_elements r c.args.bytes.now ≡ read_others r c.in_ok-funcs.funcs rest =
    elements_found r c.args.bytes.now c.in_ok-first.first rest (sym c.begins_with.ensures ∙ c.if-begins_with.false) c.in_ok-first.ensures
    ∙ ap (λ list. read_others r list rest) (sym funcs) in
    subst (λ step. MatchResult c.others_ahead.result (λ x. step ≡ found x.0 x.1.now) (IsStop step)) (sym same) c.others_ahead.ensures
