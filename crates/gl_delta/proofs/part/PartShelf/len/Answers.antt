use Rattle.std.proofs.Common.{◌∙◌, ◌+◌, ◌-◌, ◌≤◌, drop, take, ap, sym, arith}
use Rattle.spec_lists.specs.Sides.{sides}
use Rattle.gl_delta.specs.Part.{plain_len}
use Rattle.gl_delta.proofs.PlainPairs.{part_all, part_length}
use Rattle.gl_delta.proofs.part.PartShelf.len.Goals as goal

pub returns-then-self-all : goal.returns-then-self-all
returns-then-self-all g c =
    let p = c.args.self.now in
    let ys = g.S.Shelf.items p.new.now in
    c.len-all.ensures ∙ sym (part_all (drop p.upto (sides p.delta.now.pieces).new) ys p.upto (omega (arith, c.len-all.ensures, c.if-self-all.true)))

pub overflow_sub-result : goal.overflow_sub-result
overflow_sub-result g c =
    let p = c.args.self.now in
    let xs = (sides p.delta.now.pieces).new in
    let ys = g.S.Shelf.items p.new.now in
    let l = part_length xs ys p.upto (omega (arith, c.len-all.ensures, c.if-self-all.false)) in
    let n = ap (λ k. plain_len (take k xs)) c.len-all.ensures in
    omega (arith, l.rises, n, c.plain_before.ensures.value, c.plain_before-before.ensures.value)

pub overflow_add-result : goal.overflow_add-result
overflow_add-result g c =
    let p = c.args.self.now in
    let xs = (sides p.delta.now.pieces).new in
    let ys = g.S.Shelf.items p.new.now in
    let l = part_length xs ys p.upto (omega (arith, c.len-all.ensures, c.if-self-all.false)) in
    let n = ap (λ k. plain_len (take k xs)) c.len-all.ensures in
    let few : p.upto + (c.plain_before.result - c.plain_before-before.result) ≤ c.len-all.result = omega (arith, l.few, n, c.len-all.ensures, c.plain_before.ensures.value, c.plain_before-before.ensures.value) in
    omega (arith, few)

pub returns : goal.returns
returns g c =
    let p = c.args.self.now in
    let xs = (sides p.delta.now.pieces).new in
    let ys = g.S.Shelf.items p.new.now in
    let l = part_length xs ys p.upto (omega (arith, c.len-all.ensures, c.if-self-all.false)) in
    let n = ap (λ k. plain_len (take k xs)) c.len-all.ensures in
    omega (arith, l.is, n, c.plain_before.ensures.value, c.plain_before-before.ensures.value)
