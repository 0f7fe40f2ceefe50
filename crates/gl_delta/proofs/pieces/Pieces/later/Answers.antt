use Rattle.std.proofs.Common.{◌≡◌, ◌∙◌, ◌-◌, ◌<◌, suc, ap, arith}
use Rattle.spec_lists.specs.Changes.{changed_len, after_changes}
use Rattle.gl_delta.proofs.Stores.{held_is, colours_len}
use Rattle.gl_delta.proofs.Ranks.{counted, counts_changed, none_left}
use Rattle.gl_delta.proofs.CellRuns.{changed_at, after_changed}
use Rattle.gl_delta.proofs.pieces.Pieces.later.Goals as goal

pub unreachable-requires : goal.unreachable-requires
unreachable-requires c =
    let i = c.self.inside in
    let ps = c.args.self.now.pieces in
    let h = held_is i.colours i.olds i.news i.room c.args.self.now c.self.invariant c.self.view_is in
    let n : c.args.changes - 1 < changed_len ps = omega (arith, c.requires, c.if-changes-eq0.false) in
    absurd (omega (arith, n, none_left _ _ c.in-None.ensures.some, counted 14 changed_len counts_changed i.colours.colours ps h.stored.colours_are))

pub returns-clause-rest : goal.returns-clause-rest
returns-clause-rest c =
    let i = c.self.inside in
    let ps = c.args.self.now.pieces in
    let h = held_is i.colours i.olds i.news i.room c.args.self.now c.self.invariant c.self.view_is in
    let n : suc (c.args.changes - 1) ≡ c.args.changes = omega (arith, c.if-changes-eq0.false) in
    let at = changed_at (c.args.changes - 1) i.colours.colours ps c.in-Some.last h.stored.colours_are c.in-Some.ensures.position in
    after_changed ps c.in-Some.last (c.args.changes - 1) at ∙ ap (λ k. after_changes k ps) n

pub overflow_add-result : goal.overflow_add-result
overflow_add-result c =
    let i = c.self.inside in
    let ps = c.args.self.now.pieces in
    let h = held_is i.colours i.olds i.news i.room c.args.self.now c.self.invariant c.self.view_is in
    let at = changed_at (c.args.changes - 1) i.colours.colours ps c.in-Some.last h.stored.colours_are c.in-Some.ensures.position in
    omega (arith, at.within, colours_len i.colours.colours ps h.stored.colours_are, c.len-few.ensures.small)
