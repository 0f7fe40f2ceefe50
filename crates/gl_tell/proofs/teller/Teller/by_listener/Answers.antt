use Rattle.std.proofs.Common.{◌≡◌, ◌∙◌, ◌≤◌, ◌<◌, ℕ, [], List, length, ap, sym, subst, arith}
use Rattle.std.specs.Prelude.{replicate, None, slice_index_or}
use Rattle.std.specs.List.{AllByRecursion}
use Rattle.std.proofs.lemmas.List.{get_or_default}
use Rattle.spec_states.specs.Plan.{Plan}
use Rattle.spec_runs.proofs.Ordered.{heard_within}
use Rattle.gl_tell.specs.Listeners.{listeners_of}
use Rattle.gl_tell.proofs.ByList.{listeners_below}
use Rattle.gl_tell.proofs.Handings.{handed_none, handed_more, handed_all}
use Rattle.gl_tell.proofs.teller.Teller.by_listener.Goals as goal

pub loop-list-init : goal.loop-list-init
loop-list-init c =
    let plan : c.self.inside.plan ≡ c.args.self.now.plan = ap (λ t. t.plan) c.self.view_is in
    handed_none c.args.self.now.plan c.args.deltas c.in_ok-heard.heard
    (c.in_ok-heard.ensures
    ∙ ap (λ ds. replicate (length ds) None) (c.listeners.ensures.listeners ∙ ap (λ p. p.listeners) plan))

pub hand-requires-clause-list : goal.hand-requires-clause-list
hand-requires-clause-list c =
    let plan : c.self.inside.plan ≡ c.args.self.now.plan = ap (λ t. t.plan) c.self.view_is in
    omega (
      arith,
      c.loop-list-test.true,
      ap length c.deref-listeners-items.ensures.value,
      c.self.invariant.listeners.long,
      ap (λ p. length p.lists) plan,
      c.requires,
      c.loop-list.invariant.many,
    )

pub hand-requires-clause-known : goal.hand-requires-clause-known
hand-requires-clause-known c =
    let w = c.self.inside in
    let list = c.loop-list.list in
    let ks = c.as_slice.result.now in
    let n = length c.loop-list.heard in
    let plan : w.plan ≡ c.args.self.now.plan = ap (λ t. t.plan) c.self.view_is in
    let there = c.loop-list-test.true in
    let value = c.deref-listeners-items.ensures.value in
    let is : ks ≡ listeners_of w.plan.listeners list =
    c.as_slice.ensures ∙ c.listeners-item.is
    ∙ get_or_default c.deref-listeners-items.result.now list c.listeners-item.result [] there
    ∙ ap (λ rows. slice_index_or rows list []) value ∙ c.self.invariant.listeners.each list in
    let many : length w.plan.listeners ≤ n =
    omega (arith, ap (λ p. length p.listeners) plan, c.loop-list.invariant.long) in
    let Below : List ℕ → Type 0 = λ js. AllByRecursion (λ k. k < n) js in
    subst Below (sym is) (listeners_below 0 n list w.plan.listeners (omega (arith, many)))

pub loop-list-preserved : goal.loop-list-preserved
loop-list-preserved c =
    let w = c.self.inside in
    let list = c.loop-list.list in
    let ks = c.as_slice.result.now in
    let plan : w.plan ≡ c.args.self.now.plan = ap (λ t. t.plan) c.self.view_is in
    let is : ks ≡ listeners_of c.args.self.now.plan.listeners list =
    c.as_slice.ensures ∙ c.listeners-item.is
    ∙ get_or_default c.deref-listeners-items.result.now list c.listeners-item.result [] c.loop-list-test.true
    ∙ ap (λ rows. slice_index_or rows list []) c.deref-listeners-items.ensures.value
    ∙ c.self.invariant.listeners.each list ∙ ap (λ p. listeners_of p.listeners list) plan in
    rw c.hand.ensures.left
    (handed_more c.args.self.now.plan list ks c.args.deltas c.loop-list.deltas c.loop-list.heard c.hand.new.heard
    c.loop-list.invariant is c.in_ok-hand.ensures.handed)

pub returns : goal.returns
returns c =
    let w = c.self.inside in
    let plan : w.plan ≡ c.args.self.now.plan = ap (λ t. t.plan) c.self.view_is in
    let On : Plan → Type 0 = λ p. AllByRecursion (λ d. d.list < length p.lists) p.listeners in
    let past : length c.args.self.now.plan.lists ≤ c.loop-list.list =
    omega (
      arith,
      c.loop-list-test.false,
      ap length c.deref-listeners-items.ensures.value,
      c.self.invariant.listeners.long,
      ap (λ p. length p.lists) plan,
    ) in
    handed_all c.args.self.now.plan c.loop-list.list c.args.deltas c.loop-list.deltas c.loop-list.heard
    c.loop-list.invariant past (subst On plan (heard_within w.plan c.self.invariant.whole.formed))
