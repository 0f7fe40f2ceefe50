use Rattle.std.proofs.Common.{◌≡◌, ◌∙◌, ◌+◌, ◌-◌, ◌++◌, ◌≤◌, replicate, ap, sym, arith}
use Rattle.spec_views.specs.Piece.{kept, normal}
use Rattle.spec_views.proofs.Normal.{normal_is}
use Rattle.gl_kernel.proofs.Spreads.{told_more, can_tell_part}
use Rattle.gl_kernel.proofs.Made.{append_nothing}
use Rattle.gl_range.specs.Told.{shows, told_in, told_alike}
use Rattle.gl_range.proofs.Kept.{stretch_told, alike_less}
use Rattle.gl_range.proofs.keeps.tell_keeps.Goals as goal

pub tell_alike-requires-clause-can : goal.tell_alike-requires-clause-can
tell_alike-requires-clause-can g c =
    let ys = g.S.Shelf.items c.args.input.now in
    let slices = c.args.slices in
    let i = c.stretches.walk.old_position in
    let j = c.stretches.walk.new_position in
    let left = c.stretches.left in
    let size = c.alike-size.result in
    let out = c.stretches.walk.out.pieces in
    let few : size ≤ left = omega (arith, c.alike.ensures.most, c.alike-size.ensures.most) in
    let was = alike_less (shows slices.was) i c.alike.result size c.alike-size.ensures.most c.alike.ensures.alike in
    let split = stretch_told ys slices c.shows-was.result c.shows-is.result i j left size few c.shows-was.ensures c.shows-is.ensures was c.alike-size.ensures.alike in
    can_tell_part c.args.walk.now.out.pieces out (told_in ys slices c.args.walk.now.old_position c.args.walk.now.new_position (replicate c.args.n kept))
    (told_alike ys c.shows-was.result c.shows-is.result j size) (told_in ys slices (i + size) (j + size) (replicate (left - size) kept)) c.requires.can
    (ap (λ ps. normal (out ++ ps)) (sym split) ∙ c.stretches.invariant.told)

pub stretches-preserved : goal.stretches-preserved
stretches-preserved g c =
    let ys = g.S.Shelf.items c.args.input.now in
    let slices = c.args.slices in
    let i = c.stretches.walk.old_position in
    let j = c.stretches.walk.new_position in
    let left = c.stretches.left in
    let size = c.alike-size.result in
    let out = c.stretches.walk.out.pieces in
    let few : size ≤ left = omega (arith, c.alike.ensures.most, c.alike-size.ensures.most) in
    let was = alike_less (shows slices.was) i c.alike.result size c.alike-size.ensures.most c.alike.ensures.alike in
    let split = stretch_told ys slices c.shows-was.result c.shows-is.result i j left size few c.shows-was.ensures c.shows-is.ensures was c.alike-size.ensures.alike in
    let all = normal (c.args.walk.now.out.pieces ++ told_in ys slices c.args.walk.now.old_position c.args.walk.now.new_position (replicate c.args.n kept)) in
    record {
      told = told_more all out c.tell_alike.new.out.pieces (told_alike ys c.shows-was.result c.shows-is.result j size)
          (told_in ys slices (i + size) (j + size) (replicate (left - size) kept))
          (ap (λ ps. normal (out ++ ps)) (sym split) ∙ c.stretches.invariant.told) c.in_ok-tell_alike.ensures;
      olds = omega (arith, few, c.stretches.invariant.olds);
      news = omega (arith, few, c.stretches.invariant.news);
    }

pub returns : goal.returns
returns g c =
    let ys = g.S.Shelf.items c.args.input.now in
    let i = c.stretches.walk.old_position in
    let j = c.stretches.walk.new_position in
    let out = c.stretches.walk.out.pieces in
    let none : c.stretches.left ≡ 0 = grind (arith, c.stretches-test.false) in
    record {
      told_is = sym (normal_is out c.old_len-normal.ensures.normal)
          ∙ (ap normal (sym (append_nothing out))
          ∙ (ap (λ k. normal (out ++ told_in ys c.args.slices i j (replicate k kept))) (sym none) ∙ c.stretches.invariant.told));
      old_is = omega (arith, none, c.stretches.invariant.olds);
      new_is = omega (arith, none, c.stretches.invariant.news);
    }
