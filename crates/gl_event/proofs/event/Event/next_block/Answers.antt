use Rattle.std.proofs.Common.{◌≡◌, ◌∙◌, ◌∷◌, drop, sym, arith}
use Rattle.spec_lists.specs.Changes.{changes}
use Rattle.gl_event.specs.Changes.{change_ref, changes_rest}
use Rattle.gl_event.proofs.Blocks.{left_few, block_at}
use Rattle.gl_event.proofs.event.Event.next_block.Goals as goal

pub run-more-requires-clause-fits : goal.run-more-requires-clause-fits
run-more-requires-clause-fits c =
    let ps = c.self.inside.delta.pieces in
    let k = c.self.inside.given in
    let is : drop k (changes ps) ≡ change_ref c.in_ok-first.first ∷ changes_rest c.step.new.self = sym c.rest-walk.ensures.changes ∙ c.in_ok-first.ensures.gives in
    omega (arith, left_few ps k _ _ is, c.changes-few.ensures.value, c.changes-few.ensures.few)

pub overflow_add-count : goal.overflow_add-count
overflow_add-count c =
    let ps = c.self.inside.delta.pieces in
    let k = c.self.inside.given in
    let is : drop k (changes ps) ≡ change_ref c.in_ok-first.first ∷ changes_rest c.step.new.self = sym c.rest-walk.ensures.changes ∙ c.in_ok-first.ensures.gives in
    let at = block_at ps k _ _ _ c.kind-kind.result _ _ _ is c.run-more.ensures.count c.run-more.ensures.at c.in_ok-first.ensures.index_after c.self.invariant in
    omega (arith, at.within, c.changes-few.ensures.value, c.changes-few.ensures.few)

pub overflow_add-self : goal.overflow_add-self
overflow_add-self c =
    let ps = c.self.inside.delta.pieces in
    let k = c.self.inside.given in
    let is : drop k (changes ps) ≡ change_ref c.in_ok-first.first ∷ changes_rest c.step.new.self = sym c.rest-walk.ensures.changes ∙ c.in_ok-first.ensures.gives in
    let at = block_at ps k _ _ _ c.kind-kind.result _ _ _ is c.run-more.ensures.count c.run-more.ensures.at c.in_ok-first.ensures.index_after c.self.invariant in
    omega (arith, at.within, c.changes-few.ensures.value, c.changes-few.ensures.few)

pub invariant_of-self : goal.invariant_of-self
invariant_of-self c =
    let ps = c.self.inside.delta.pieces in
    let k = c.self.inside.given in
    let is : drop k (changes ps) ≡ change_ref c.in_ok-first.first ∷ changes_rest c.step.new.self = sym c.rest-walk.ensures.changes ∙ c.in_ok-first.ensures.gives in
    block_at ps k _ _ _ c.kind-kind.result _ _ _ is c.run-more.ensures.count c.run-more.ensures.at c.in_ok-first.ensures.index_after c.self.invariant
