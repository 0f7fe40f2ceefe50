use Rattle.std.proofs.Common.{refl, arith}
use Rattle.gl_ranktree.specs.Tree.{DifferByAtMost}
use Rattle.gl_ranktree.proofs.Trees.{height-le-size}
use Rattle.gl_ranktree.proofs.Links.{head_read}
use Rattle.gl_ranktree.proofs.join.join.Goals as goal

pub overflow_add-right_height : goal.overflow_add-right_height
overflow_add-right_height g c =
    let s = c.requires.sides in
    let hr = head_read _ _ _ _ _ s.addressed s.right_is s.right_stands c.read-right_height.ensures in
    omega (arith, hr.height, height-le-size c.requires.r, s.small)

pub overflow_add-left_height : goal.overflow_add-left_height
overflow_add-left_height g c =
    let s = c.requires.sides in
    let hl = head_read _ _ _ _ _ s.addressed s.left_is s.left_stands c.read-left_height.ensures in
    omega (arith, hl.height, height-le-size c.requires.l, s.small)

pub rotate_right-requires : goal.rotate_right-requires
rotate_right-requires g c =
    let s = c.requires.sides in
    let near = c.requires.near in
    let hl = head_read _ _ _ _ _ s.addressed s.left_is s.left_stands c.read-left_height.ensures in
    let hr = head_read _ _ _ _ _ s.addressed s.right_is s.right_stands c.read-right_height.ensures in
    record { l = c.requires.l; r = c.requires.r; sides = s; tilt = omega (arith, hl.height, hr.height, near) }

pub rotate_left-requires : goal.rotate_left-requires
rotate_left-requires g c =
    let s = c.requires.sides in
    let near = c.requires.near in
    let hl = head_read _ _ _ _ _ s.addressed s.left_is s.left_stands c.read-left_height.ensures in
    let hr = head_read _ _ _ _ _ s.addressed s.right_is s.right_stands c.read-right_height.ensures in
    record { l = c.requires.l; r = c.requires.r; sides = s; tilt = omega (arith, hl.height, hr.height, near) }

pub make-requires : goal.make-requires
make-requires g c =
    let s = c.requires.sides in
    let hl = head_read _ _ _ _ _ s.addressed s.left_is s.left_stands c.read-left_height.ensures in
    let hr = head_read _ _ _ _ _ s.addressed s.right_is s.right_stands c.read-right_height.ensures in
    record { l = c.requires.l; r = c.requires.r; sides = s; near = (omega (arith, hl.height, hr.height), omega (arith, hl.height, hr.height)) }

pub returns-then-left_height-right_height : goal.returns-then-left_height-right_height
returns-then-left_height-right_height g c =
    λ l r s.
    let s0 = c.requires.sides in
    let near = c.requires.near in
    let hl = head_read _ _ _ l _ s.addressed s.left_is s.left_stands c.read-left_height.ensures in
    let hr = head_read _ _ _ r _ s.addressed s.right_is s.right_stands c.read-right_height.ensures in
    let hl0 = head_read _ _ _ c.requires.l _ s0.addressed s0.left_is s0.left_stands c.read-left_height.ensures in
    let hr0 = head_read _ _ _ c.requires.r _ s0.addressed s0.right_is s0.right_stands c.read-right_height.ensures in
    c.rotate_right.ensures l r s (omega (arith, hl.height, hr.height, hl0.height, hr0.height, near))

pub returns-then-right_height-left_height : goal.returns-then-right_height-left_height
returns-then-right_height-left_height g c =
    λ l r s.
    let s0 = c.requires.sides in
    let near = c.requires.near in
    let hl = head_read _ _ _ l _ s.addressed s.left_is s.left_stands c.read-left_height.ensures in
    let hr = head_read _ _ _ r _ s.addressed s.right_is s.right_stands c.read-right_height.ensures in
    let hl0 = head_read _ _ _ c.requires.l _ s0.addressed s0.left_is s0.left_stands c.read-left_height.ensures in
    let hr0 = head_read _ _ _ c.requires.r _ s0.addressed s0.right_is s0.right_stands c.read-right_height.ensures in
    c.rotate_left.ensures l r s (omega (arith, hl.height, hr.height, hl0.height, hr0.height, near))

pub returns-else-right_height-left_height : goal.returns-else-right_height-left_height
returns-else-right_height-left_height g c =
    λ l r s.
    let hl = head_read _ _ _ l _ s.addressed s.left_is s.left_stands c.read-left_height.ensures in
    let hr = head_read _ _ _ r _ s.addressed s.right_is s.right_stands c.read-right_height.ensures in
    let near : DifferByAtMost 1 l r = (omega (arith, hl.height, hr.height), omega (arith, hl.height, hr.height)) in
    record { tree = _; becomes = c.make.ensures l r s near; order = refl; settled = record { low = omega arith; high = omega arith; level = λ _. refl } }
