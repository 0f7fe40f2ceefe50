use Rattle.std.proofs.Common.{length, sym, ap, ◌∙◌, arith, subst}
use Rattle.gl_fourcolour.specs.Rows.{expanded, IsMaximal}
use Rattle.gl_fourcolour.proofs.Expansions.{nothing, expanded_none}
use Rattle.gl_fourcolour.proofs.runs.Runs.new.Goals as goal

pub invariant_of-result : goal.invariant_of-result
invariant_of-result g c =
    let none = c.new.ensures.empty in
    record {
      few_colours = c.requires.at_most;
      maximal = subst (λ rs. IsMaximal g.row.C rs) (sym none) tt;
      small = omega (arith, ap (λ rs. length (expanded rs)) none, nothing);
    }

pub returns-clause-empty : goal.returns-clause-empty
returns-clause-empty g c = ap expanded c.new.ensures.empty ∙ expanded_none
