use Rattle.std.proofs.Common.{◌≡◌, ◌∙◌, ◌+◌, ◌-◌, ◌<◌, refl, arith}
use Rattle.gl_fourcolour.specs.Colours.{painted}
use Rattle.gl_delta.proofs.InverseColours.{gap_is, gap_insertions, gap_deletions, gap_room, gap_len, gap_order, gap_none}
use Rattle.gl_delta.proofs.turn.turn_gap.Goals as goal

pub returns-then-start-end-clause-turning : goal.returns-then-start-end-clause-turning
returns-then-start-end-clause-turning c =
    λ start t.
    let g = gap_is start c.args.colours.now c.args.at c.next-start.result c.next-end.result c.requires.more t c.len-below.ensures.colours c.next-start.ensures.reached c.next-end.ensures.reached in
    gap_order start c.args.colours.now c.args.colours.now c.args.at c.next-start.result c.next-end.result g (gap_none start c.args.colours.now c.args.at c.next-start.result c.next-end.result g c.if-start-end.true) refl

pub returns-then-start-end-clause-goes : goal.returns-then-start-end-clause-goes
returns-then-start-end-clause-goes c =
    let t = c.requires.turning in
    let g = gap_is t.0 c.args.colours.now c.args.at c.next-start.result c.next-end.result c.requires.more t.1 c.len-below.ensures.colours c.next-start.ensures.reached c.next-end.ensures.reached in
    g.goes

pub overflow_sub-deleted : goal.overflow_sub-deleted
overflow_sub-deleted c =
    let t = c.requires.turning in
    let g = gap_is t.0 c.args.colours.now c.args.at c.next-start.result c.next-end.result c.requires.more t.1 c.len-below.ensures.colours c.next-start.ensures.reached c.next-end.ensures.reached in
    omega (arith, c.rank.ensures, c.rank-2.ensures, g.count_is)

pub overflow_sub-inserted : goal.overflow_sub-inserted
overflow_sub-inserted c =
    let t = c.requires.turning in
    let g = gap_is t.0 c.args.colours.now c.args.at c.next-start.result c.next-end.result c.requires.more t.1 c.len-below.ensures.colours c.next-start.ensures.reached c.next-end.ensures.reached in
    omega (arith, g.end_is)

pub overflow_sub-inserted-2 : goal.overflow_sub-inserted-2
overflow_sub-inserted-2 c =
    let t = c.requires.turning in
    let g = gap_is t.0 c.args.colours.now c.args.at c.next-start.result c.next-end.result c.requires.more t.1 c.len-below.ensures.colours c.next-start.ensures.reached c.next-end.ensures.reached in
    omega (arith, c.rank.ensures, c.rank-2.ensures, g.count_is, g.end_is)

pub paint_reserved-requires : goal.paint_reserved-requires
paint_reserved-requires c =
    let t = c.requires.turning in
    let g = gap_is t.0 c.args.colours.now c.args.at c.next-start.result c.next-end.result c.requires.more t.1 c.len-below.ensures.colours c.next-start.ensures.reached c.next-end.ensures.reached in
    let D = c.rank.result - c.rank-2.result in
    let I = c.next-end.result - c.next-start.result - D in
    let d_is : D ≡ g.d = omega (arith, c.rank.ensures, c.rank-2.ensures, g.count_is) in
    let i_is : I ≡ g.i = omega (arith, d_is, g.end_is) in
    let done = gap_insertions t.0 c.args.colours.now c.args.at c.next-start.result c.next-end.result D I g d_is i_is c.if-deleted-inserted.true in
    let some : c.next-start.result < c.next-end.result = omega (arith, c.if-start-end.false, g.end_is) in
    let n = gap_len t.0 c.args.colours.now c.args.at c.next-start.result c.next-end.result (painted c.args.colours.now.colours (c.next-start.result + D) (I - D) 2) g done in
    (omega arith, (omega (arith, d_is, i_is, g.end_is, n.1, c.if-deleted-inserted.true), (omega arith, gap_room t.0 c.args.colours.now c.args.at c.next-start.result c.next-end.result (painted c.args.colours.now.colours (c.next-start.result + D) (I - D) 2) g some done)))

pub paint_reserved-requires-else-deleted-inserted : goal.paint_reserved-requires-else-deleted-inserted
paint_reserved-requires-else-deleted-inserted c =
    let t = c.requires.turning in
    let g = gap_is t.0 c.args.colours.now c.args.at c.next-start.result c.next-end.result c.requires.more t.1 c.len-below.ensures.colours c.next-start.ensures.reached c.next-end.ensures.reached in
    let D = c.rank.result - c.rank-2.result in
    let I = c.next-end.result - c.next-start.result - D in
    let d_is : D ≡ g.d = omega (arith, c.rank.ensures, c.rank-2.ensures, g.count_is) in
    let i_is : I ≡ g.i = omega (arith, d_is, g.end_is) in
    let done = gap_deletions t.0 c.args.colours.now c.args.at c.next-start.result c.next-end.result D I g d_is i_is (omega (arith, c.if-deleted-inserted.false)) in
    let some : c.next-start.result < c.next-end.result = omega (arith, c.if-start-end.false, g.end_is) in
    let n = gap_len t.0 c.args.colours.now c.args.at c.next-start.result c.next-end.result (painted c.args.colours.now.colours (c.next-start.result + I) (D - I) 3) g done in
    (omega arith, (omega (arith, d_is, i_is, g.end_is, n.1, c.if-deleted-inserted.false), (omega arith, gap_room t.0 c.args.colours.now c.args.at c.next-start.result c.next-end.result (painted c.args.colours.now.colours (c.next-start.result + I) (D - I) 3) g some done)))

pub returns-then-deleted-inserted-clause-turning : goal.returns-then-deleted-inserted-clause-turning
returns-then-deleted-inserted-clause-turning c =
    λ start t.
    let g = gap_is start c.args.colours.now c.args.at c.next-start.result c.next-end.result c.requires.more t c.len-below.ensures.colours c.next-start.ensures.reached c.next-end.ensures.reached in
    let D = c.rank.result - c.rank-2.result in
    let I = c.next-end.result - c.next-start.result - D in
    let d_is : D ≡ g.d = omega (arith, c.rank.ensures, c.rank-2.ensures, g.count_is) in
    let i_is : I ≡ g.i = omega (arith, d_is, g.end_is) in
    let done = gap_insertions start c.args.colours.now c.args.at c.next-start.result c.next-end.result D I g d_is i_is c.if-deleted-inserted.true in
    gap_order start c.args.colours.now c.paint_reserved.new.self c.args.at c.next-start.result c.next-end.result g (c.paint_reserved.ensures.colours ∙ done) c.paint_reserved.ensures.room

pub returns-then-deleted-inserted-clause-within : goal.returns-then-deleted-inserted-clause-within
returns-then-deleted-inserted-clause-within c =
    let t = c.requires.turning in
    let g = gap_is t.0 c.args.colours.now c.args.at c.next-start.result c.next-end.result c.requires.more t.1 c.len-below.ensures.colours c.next-start.ensures.reached c.next-end.ensures.reached in
    let D = c.rank.result - c.rank-2.result in
    let I = c.next-end.result - c.next-start.result - D in
    let d_is : D ≡ g.d = omega (arith, c.rank.ensures, c.rank-2.ensures, g.count_is) in
    let i_is : I ≡ g.i = omega (arith, d_is, g.end_is) in
    let done = gap_insertions t.0 c.args.colours.now c.args.at c.next-start.result c.next-end.result D I g d_is i_is c.if-deleted-inserted.true in
    let n = gap_len t.0 c.args.colours.now c.args.at c.next-start.result c.next-end.result _ g (c.paint_reserved.ensures.colours ∙ done) in
    omega (arith, n.0, n.1)

pub returns-then-deleted-inserted-clause-len : goal.returns-then-deleted-inserted-clause-len
returns-then-deleted-inserted-clause-len c =
    let t = c.requires.turning in
    let g = gap_is t.0 c.args.colours.now c.args.at c.next-start.result c.next-end.result c.requires.more t.1 c.len-below.ensures.colours c.next-start.ensures.reached c.next-end.ensures.reached in
    let D = c.rank.result - c.rank-2.result in
    let I = c.next-end.result - c.next-start.result - D in
    let d_is : D ≡ g.d = omega (arith, c.rank.ensures, c.rank-2.ensures, g.count_is) in
    let i_is : I ≡ g.i = omega (arith, d_is, g.end_is) in
    let done = gap_insertions t.0 c.args.colours.now c.args.at c.next-start.result c.next-end.result D I g d_is i_is c.if-deleted-inserted.true in
    let n = gap_len t.0 c.args.colours.now c.args.at c.next-start.result c.next-end.result _ g (c.paint_reserved.ensures.colours ∙ done) in
    n.0

pub returns-else-deleted-inserted-clause-turning : goal.returns-else-deleted-inserted-clause-turning
returns-else-deleted-inserted-clause-turning c =
    λ start t.
    let g = gap_is start c.args.colours.now c.args.at c.next-start.result c.next-end.result c.requires.more t c.len-below.ensures.colours c.next-start.ensures.reached c.next-end.ensures.reached in
    let D = c.rank.result - c.rank-2.result in
    let I = c.next-end.result - c.next-start.result - D in
    let d_is : D ≡ g.d = omega (arith, c.rank.ensures, c.rank-2.ensures, g.count_is) in
    let i_is : I ≡ g.i = omega (arith, d_is, g.end_is) in
    let done = gap_deletions start c.args.colours.now c.args.at c.next-start.result c.next-end.result D I g d_is i_is (omega (arith, c.if-deleted-inserted.false)) in
    gap_order start c.args.colours.now c.paint_reserved-else-deleted-inserted.new.self c.args.at c.next-start.result c.next-end.result g (c.paint_reserved-else-deleted-inserted.ensures.colours ∙ done) c.paint_reserved-else-deleted-inserted.ensures.room

pub returns-else-deleted-inserted-clause-goes : goal.returns-else-deleted-inserted-clause-goes
returns-else-deleted-inserted-clause-goes c =
    let t = c.requires.turning in
    let g = gap_is t.0 c.args.colours.now c.args.at c.next-start.result c.next-end.result c.requires.more t.1 c.len-below.ensures.colours c.next-start.ensures.reached c.next-end.ensures.reached in
    g.goes

pub returns-else-deleted-inserted-clause-within : goal.returns-else-deleted-inserted-clause-within
returns-else-deleted-inserted-clause-within c =
    let t = c.requires.turning in
    let g = gap_is t.0 c.args.colours.now c.args.at c.next-start.result c.next-end.result c.requires.more t.1 c.len-below.ensures.colours c.next-start.ensures.reached c.next-end.ensures.reached in
    let D = c.rank.result - c.rank-2.result in
    let I = c.next-end.result - c.next-start.result - D in
    let d_is : D ≡ g.d = omega (arith, c.rank.ensures, c.rank-2.ensures, g.count_is) in
    let i_is : I ≡ g.i = omega (arith, d_is, g.end_is) in
    let done = gap_deletions t.0 c.args.colours.now c.args.at c.next-start.result c.next-end.result D I g d_is i_is (omega (arith, c.if-deleted-inserted.false)) in
    let n = gap_len t.0 c.args.colours.now c.args.at c.next-start.result c.next-end.result _ g (c.paint_reserved-else-deleted-inserted.ensures.colours ∙ done) in
    omega (arith, n.0, n.1)

pub returns-else-deleted-inserted-clause-len : goal.returns-else-deleted-inserted-clause-len
returns-else-deleted-inserted-clause-len c =
    let t = c.requires.turning in
    let g = gap_is t.0 c.args.colours.now c.args.at c.next-start.result c.next-end.result c.requires.more t.1 c.len-below.ensures.colours c.next-start.ensures.reached c.next-end.ensures.reached in
    let D = c.rank.result - c.rank-2.result in
    let I = c.next-end.result - c.next-start.result - D in
    let d_is : D ≡ g.d = omega (arith, c.rank.ensures, c.rank-2.ensures, g.count_is) in
    let i_is : I ≡ g.i = omega (arith, d_is, g.end_is) in
    let done = gap_deletions t.0 c.args.colours.now c.args.at c.next-start.result c.next-end.result D I g d_is i_is (omega (arith, c.if-deleted-inserted.false)) in
    let n = gap_len t.0 c.args.colours.now c.args.at c.next-start.result c.next-end.result _ g (c.paint_reserved-else-deleted-inserted.ensures.colours ∙ done) in
    n.0
