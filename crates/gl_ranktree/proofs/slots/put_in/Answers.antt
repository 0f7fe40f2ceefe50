use Rattle.std.proofs.Common.{arith}
use Rattle.std.proofs.lemmas.List.{with_items_is}
use Rattle.gl_ranktree.proofs.Vacancies.{vacant_within, none_vacant, claimed, put_in_done}
use Rattle.gl_ranktree.proofs.slots.put_in.Goals as goal

pub claim-slot-requires-clause-room : goal.claim-slot-requires-clause-room
claim-slot-requires-clause-room g c =
    λ none.
    let can = c.requires.can in
    let r = can.ranks in
    omega (arith, none_vacant g.S.Summary.sums _ _ c.requires.free r.stands.addressed r.chain none, r.counted, can.spare, c.args.nodes.now.ok.0)

pub claim-slot-requires-clause-few : goal.claim-slot-requires-clause-few
claim-slot-requires-clause-few g c =
    λ none.
    let can = c.requires.can in
    let r = can.ranks in
    omega (arith, none_vacant g.S.Summary.sums _ _ c.requires.free r.stands.addressed r.chain none, r.counted, can.few, c.args.nodes.now.ok.0)

pub claim-slot-requires-clause-known : goal.claim-slot-requires-clause-known
claim-slot-requires-clause-known g c =
    λ some. omega (arith, vacant_within g.S.Summary.sums _ _ c.requires.free c.requires.can.ranks.chain some, c.args.nodes.now.ok.0)

pub hang-root-requires : goal.hang-root-requires
hang-root-requires g c =
    let r = c.requires in
    let cd = claimed g.S.Summary.sums _ _ _ _ _ _ _ _ _ r.tree r.free r.can c.claim-slot.ensures.claims in
    record { tree = r.tree; can = rw c.as_mut_slice.ensures.value cd.can }

pub returns-clause-puts : goal.returns-clause-puts
returns-clause-puts g c =
    λ t free can.
    let m = g.S.Summary.sums in
    let cd = claimed m _ _ _ _ _ _ _ _ _ t free can c.claim-slot.ensures.claims in
    let hg = c.hang-root.ensures t (rw c.as_mut_slice.ensures.value cd.can) in
    let hung = rw c.as_mut_slice.ensures.value at hg in
    rw (with_items_is c.claim-slot.new.nodes c.hang-root.new.nodes (omega (arith, hung.becomes.len, c.claim-slot.new.nodes.ok.0)))
    (put_in_done m _ _ _ _ _ _ _ _ _ _ _ t free can c.claim-slot.ensures.claims hung)
