use Rattle.gl_ranktree.proofs.Edits.{filled_from_slot}
use Rattle.gl_ranktree.proofs.Removals.{merge_left_alone, merge_right_part, merge_sides, merge_done}
use Rattle.gl_ranktree.proofs.edit.merge.Goals as goal

pub returns-then-right-eq-ABSENT : goal.returns-then-right-eq-ABSENT
returns-then-right-eq-ABSENT g c = λ l r can. merge_left_alone g.S.Summary.sums _ _ _ l r can c.if-right-eq-ABSENT.true

pub take_first-first-requires : goal.take_first-first-requires
take_first-first-requires g c =
    let m = g.S.Summary.sums in
    let can = c.requires.can in
    record { tree = c.requires.r; stands = merge_right_part m _ _ _ c.requires.l c.requires.r can; filled = filled_from_slot m _ c.requires.r can.right_is c.if-right-eq-ABSENT.false }

pub join-requires : goal.join-requires
join-requires g c =
    let m = g.S.Summary.sums in
    let l = c.requires.l in
    let r = c.requires.r in
    let can = c.requires.can in
    let tk = c.take_first-first.ensures r (merge_right_part m _ _ _ l r can) (filled_from_slot m _ r can.right_is c.if-right-eq-ABSENT.false) in
    let s = merge_sides m _ _ _ _ _ _ l r can tk in
    record { l = l; r = tk.tree; sides = s.0; near = s.1 }

pub returns : goal.returns
returns g c =
    λ l r can.
    let m = g.S.Summary.sums in
    let tk = c.take_first-first.ensures r (merge_right_part m _ _ _ l r can) (filled_from_slot m _ r can.right_is c.if-right-eq-ABSENT.false) in
    let s = merge_sides m _ _ _ _ _ _ l r can tk in
    merge_done m _ _ _ _ _ _ _ _ l r can tk (c.join.ensures l tk.tree s.0)
