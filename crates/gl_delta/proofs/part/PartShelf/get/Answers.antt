use Rattle.std.proofs.Common.{◌≡◌, ◌∙◌, ◌+◌, ◌-◌, None, Some, drop, take, ap, sym}
use Rattle.std.specs.Option.{option_copied}
use Rattle.spec_lists.specs.Sides.{sides}
use Rattle.gl_delta.specs.Part.{plain_position, plain_len}
use Rattle.gl_delta.proofs.PlainPairs.{part_prefix, part_found, at_position}
use Rattle.gl_delta.proofs.part.PartShelf.get.Goals as goal

pub returns-then-position-self : goal.returns-then-position-self
returns-then-position-self g c =
    let p = c.args.self.now in
    c.get.ensures ∙ sym (part_prefix (drop p.upto (sides p.delta.now.pieces).new) (g.S.Shelf.items p.new.now) p.upto c.args.position c.if-position-self.true)

pub returns-in_err-plain_position : goal.returns-in_err-plain_position
returns-in_err-plain_position g c =
    let p = c.args.self.now in
    let xs = (sides p.delta.now.pieces).new in
    let ys = g.S.Shelf.items p.new.now in
    let none : plain_position xs (plain_len (take p.upto xs) + (c.args.position - p.upto)) ≡ None = ap (λ n. plain_position xs (n + (c.args.position - p.upto))) (sym c.plain_before-before.ensures.value) ∙ (sym c.plain_position.ensures ∙ c.in_err-plain_position.was) in
    ap option_copied c.from_residual.ensures ∙ sym (part_found xs ys p.upto c.args.position c.if-position-self.false ∙ ap (at_position ys) none)

pub returns : goal.returns
returns g c =
    let p = c.args.self.now in
    let xs = (sides p.delta.now.pieces).new in
    let ys = g.S.Shelf.items p.new.now in
    let some : plain_position xs (plain_len (take p.upto xs) + (c.args.position - p.upto)) ≡ Some c.in_ok-plain_position.field-0 = ap (λ n. plain_position xs (n + (c.args.position - p.upto))) (sym c.plain_before-before.ensures.value) ∙ (sym c.plain_position.ensures ∙ c.in_ok-plain_position.was) in
    c.get-2.ensures ∙ sym (part_found xs ys p.upto c.args.position c.if-position-self.false ∙ ap (at_position ys) some)
