use Rattle.std.proofs.Common.{◌∷◌, length, length-append, ap, ◌∙◌, arith, subst}
use Rattle.gl_fourcolour.specs.Rows.{expanded}
use Rattle.gl_fourcolour.specs.Rows.{IsMaximal}
use Rattle.gl_fourcolour.proofs.Expansions.{length-expanded-append, length-expanded-cons}
use Rattle.gl_fourcolour.proofs.Spots.{remove_here}
use Rattle.gl_fourcolour.proofs.edit.take_out.Goals as goal

pub close_gap-requires : goal.close_gap-requires
close_gap-requires g c =
    let r = c.requires in
    record {
      prefix = r.prefix;
      run = r.run;
      back = r.back;
      is = c.remove.ensures.runs ∙ remove_here _ r.prefix r.back r.run c.args.position r.is r.position_is;
      position_is = r.position_is;
      few_colours = r.few_colours;
      maximal = subst (λ rs. IsMaximal g.row.C rs) r.is r.maximal;
      small = omega (arith, r.small, ap (λ rs. length (expanded rs)) r.is, ap (λ rs. length (expanded rs)) (c.remove.ensures.runs ∙ remove_here _ r.prefix r.back r.run c.args.position r.is r.position_is), length-expanded-append r.prefix (r.run ∷ r.back), length-expanded-cons r.run r.back, length-expanded-append r.prefix r.back);
    }

pub returns : goal.returns
returns g c = λ prefix back r is position_is.
    let out = c.close_gap.ensures prefix back r (c.remove.ensures.runs ∙ remove_here _ prefix back r c.args.position is position_is) (subst (λ rs. IsMaximal g.row.C rs) is c.requires.maximal) position_is in
    record { maximal = out.maximal; colours = out.colours; fewer = omega (arith, out.fewer, ap length (c.remove.ensures.runs ∙ remove_here _ prefix back r c.args.position is position_is), ap length is, length-append prefix back, length-append prefix (r ∷ back)); room = out.room ∙ c.remove.ensures.room }
