use Rattle.std.proofs.Common.{arith}
use Rattle.gl_ranktree.proofs.Vacancies.{entry_within, take_out_done}
use Rattle.gl_ranktree.proofs.slots.take_out.Goals as goal

pub slot_at-slot-requires : goal.slot_at-slot-requires
slot_at-slot-requires g c = record { tree = c.requires.tree; stands = c.requires.ranks.stands; in_range = c.requires.in_range }

pub remove-top-requires : goal.remove-top-requires
remove-top-requires g c = record { tree = c.requires.tree; stands = c.requires.ranks.stands; in_range = c.requires.in_range }

pub put-requires : goal.put-requires
put-requires g c =
    let r = c.requires in
    let entry = c.slot_at-slot.ensures r.tree r.ranks.stands r.in_range in
    let rm = c.remove-top.ensures r.tree r.ranks.stands r.in_range in
    omega (arith, entry_within g.S.Summary.sums _ r.tree _ _ _ r.ranks.stands.stands entry, rm.becomes.len, c.set_parent.ensures.len)

pub returns : goal.returns
returns g c =
    λ t free r within.
    take_out_done g.S.Summary.sums _ _ _ _ _ _ _ _ _ c.read-gone.result t free r within (c.slot_at-slot.ensures t r.stands within) (c.remove-top.ensures t r.stands within) c.set_parent.ensures c.put.ensures
