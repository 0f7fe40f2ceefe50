use Rattle.std.proofs.Common.{◌≡◌, ◌∙◌, ◌∷◌, [], None, drop, slice_get, option_map, ap, sym, refl, arith}
use Rattle.spec_lists.specs.Changes.{changes}
use Rattle.gl_event.specs.Heard.{Heard}
use Rattle.gl_event.specs.Changes.{change_ref, changes_rest}
use Rattle.gl_event.proofs.Blocks.{left_more, left_none, next_at, get_first, get_none}
use Rattle.gl_event.proofs.event.Event.next.Goals as goal

pub returns-in_err-change : goal.returns-in_err-change
returns-in_err-change c =
    let ps = c.self.inside.delta.pieces in
    let k = c.self.inside.given in
    let is : drop k (changes ps) ≡ [] = sym c.rest-walk.ensures.changes ∙ c.in_err-change.ensures.gives.0 in
    let seen : None ≡ slice_get (changes c.args.self.now.pieces) c.args.self.now.given = get_none (changes ps) k is ∙ ap (λ (h : Heard). slice_get (changes h.pieces) h.given) c.self.view_is in
    ((refl, (λ _. tt), left_none ps k c.args.self.now is c.self.view_is c.self.invariant.within), record { gives = ap (option_map change_ref) c.from_residual.ensures ∙ seen; after = tt })

pub overflow_add-self : goal.overflow_add-self
overflow_add-self c = omega (arith, c.self.invariant.within, c.changes-few.ensures.value, c.changes-few.ensures.few)

pub invariant_of-self-2 : goal.invariant_of-self-2
invariant_of-self-2 c =
    let ps = c.self.inside.delta.pieces in
    let k = c.self.inside.given in
    let is : drop k (changes ps) ≡ change_ref c.in_ok-change.change ∷ changes_rest c.step.new.self = sym c.rest-walk.ensures.changes ∙ c.in_ok-change.ensures.gives in
    next_at ps k _ _ _ _ is c.in_ok-change.ensures.index_after c.self.invariant

pub returns : goal.returns
returns c =
    let ps = c.self.inside.delta.pieces in
    let k = c.self.inside.given in
    let is : drop k (changes ps) ≡ change_ref c.in_ok-change.change ∷ changes_rest c.step.new.self = sym c.rest-walk.ensures.changes ∙ c.in_ok-change.ensures.gives in
    let seen = get_first (changes ps) k _ _ is ∙ ap (λ (h : Heard). slice_get (changes h.pieces) h.given) c.self.view_is in
    ((refl, (λ _. tt), left_more ps k c.args.self.now _ _ is c.self.view_is), record { gives = seen; after = tt })
