use Rattle.std.proofs.Common.{◌≡◌, ◌-◌, ◌∷◌, ◌++◌, length, length-append, append_assoc, [], sym, ap, ◌∙◌, arith}
use Rattle.gl_fourcolour.specs.Rows.{expanded, run_if}
use Rattle.gl_fourcolour.proofs.Expansions.{length-expanded-append, length-expanded-cons, nothing}
use Rattle.gl_fourcolour.proofs.Spots.{run_facts, has_colour, ends, meets_last}
use Rattle.gl_fourcolour.proofs.Puts.{grown, fresh_run, fresh_done}
use Rattle.gl_fourcolour.proofs.edit.put_after.Goals as goal

pub returns-in_default : goal.returns-in_default
returns-in_default g c =
    let b = c.requires.between in
    let none = sym c.in_default.is ∙ (c.run_if.ensures ∙ ap (λ o. run_if o c.args.run.colour) (c.before-2.ensures b.prefix b.back b.is b.position_is)) in
    let f = fresh_run g.row.C c.args.at c.args.row.now c.args.run b.prefix b.back c.requires.can b.is b.at_is (meets_last c.args.run.colour c.args.run.len b.prefix none) b.differs in
    fresh_done g.row.C c.args.at c.args.position c.args.row.now c.insert.new.self c.args.run b.prefix b.back b.is b.position_is f c.insert.ensures.runs c.insert.ensures.room

pub insert-requires : goal.insert-requires
insert-requires g c =
    let b = c.requires.between in
    let none = sym c.in_default.is ∙ (c.run_if.ensures ∙ ap (λ o. run_if o c.args.run.colour) (c.before-2.ensures b.prefix b.back b.is b.position_is)) in
    let f = fresh_run g.row.C c.args.at c.args.row.now c.args.run b.prefix b.back c.requires.can b.is b.at_is (meets_last c.args.run.colour c.args.run.len b.prefix none) b.differs in
    record {
      in_range = omega (arith, b.position_is, ap length b.is, length-append b.prefix b.back);
      few = omega (arith, f.space.few);
      spare = omega (arith, f.space.room);
      colour = omega (arith, c.requires.can.colour, c.requires.can.few_colours);
      some = c.requires.can.some;
      small = omega (arith, c.requires.can.small);
    }

pub overflow_add-whole : goal.overflow_add-whole
overflow_add-whole g c =
    let b = c.requires.between in
    let h = has_colour _ _ _ (sym c.in-Some.is ∙ c.run_if.ensures) in
    let last = c.before-2.ensures b.prefix b.back b.is b.position_is in
    let e = ends b.prefix c.in-Some.before (sym last ∙ h.is) in
    let is = b.is ∙ (ap (λ zs. zs ++ b.back) e.is ∙ append_assoc e.start (c.in-Some.before ∷ []) b.back) in
    let f = run_facts g.row.C _ e.start b.back c.in-Some.before c.requires.can.few_colours c.requires.can.maximal is in
    let position_is : c.args.position - 1 ≡ length e.start = omega (arith, b.position_is, ap length e.is, length-append e.start (c.in-Some.before ∷ [])) in
    omega (arith, f.size, c.requires.can.small)

pub set-requires : goal.set-requires
set-requires g c =
    let b = c.requires.between in
    let h = has_colour _ _ _ (sym c.in-Some.is ∙ c.run_if.ensures) in
    let last = c.before-2.ensures b.prefix b.back b.is b.position_is in
    let e = ends b.prefix c.in-Some.before (sym last ∙ h.is) in
    let is = b.is ∙ (ap (λ zs. zs ++ b.back) e.is ∙ append_assoc e.start (c.in-Some.before ∷ []) b.back) in
    let f = run_facts g.row.C _ e.start b.back c.in-Some.before c.requires.can.few_colours c.requires.can.maximal is in
    let position_is : c.args.position - 1 ≡ length e.start = omega (arith, b.position_is, ap length e.is, length-append e.start (c.in-Some.before ∷ [])) in
    record { in_range = omega (arith, f.within, position_is); colour = f.colour; some = omega (arith, f.some); small = omega (arith, f.size, c.requires.can.small) }

pub returns : goal.returns
returns g c =
    let b = c.requires.between in
    let h = has_colour _ _ _ (sym c.in-Some.is ∙ c.run_if.ensures) in
    let last = c.before-2.ensures b.prefix b.back b.is b.position_is in
    let e = ends b.prefix c.in-Some.before (sym last ∙ h.is) in
    let is = b.is ∙ (ap (λ zs. zs ++ b.back) e.is ∙ append_assoc e.start (c.in-Some.before ∷ []) b.back) in
    let f = run_facts g.row.C _ e.start b.back c.in-Some.before c.requires.can.few_colours c.requires.can.maximal is in
    let position_is : c.args.position - 1 ≡ length e.start = omega (arith, b.position_is, ap length e.is, length-append e.start (c.in-Some.before ∷ [])) in
    let none_left : length (expanded []) ≡ 0 = nothing in
    grown g.row.C c.args.at c.in-Some.before.len (c.args.position - 1) c.args.row.now c.set.new.self c.args.run c.in-Some.before e.start b.back c.requires.can is position_is h.colour_is (omega arith) (omega (arith, b.at_is, ap (λ rs. length (expanded rs)) e.is, length-expanded-append e.start (c.in-Some.before ∷ []), length-expanded-cons c.in-Some.before [], none_left)) c.set.ensures.runs c.set.ensures.room
