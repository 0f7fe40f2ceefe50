use Rattle.std.proofs.lemmas.List.{nil_from_length}
use Rattle.std.proofs.Common.{◌<◌, List, [], ◌∷◌, ℕ, length, sym, subst, arith, refl}
use Rattle.std.specs.List.{AllByRecursion}
use Rattle.gl_tell.specs.Handed.{AreGiven}
use Rattle.spec_states.proofs.Lists.{all_left, all_right}
use Rattle.gl_tell.proofs.Handings.{given_none, given_more}
use Rattle.gl_tell.proofs.handing.give.Goals as goal

pub give_copies-requires : goal.give_copies-requires
give_copies-requires c =
    let n = length c.args.heard.now in
    let Below : List ℕ → Type 0 = λ ks. AllByRecursion (λ k. k < n) ks in
    let all = subst Below c.in-Some.ensures.cases.0 c.requires.known in
    record { known = all_left (λ k. k < n) c.in-Some.others.now (c.in-Some.last.now ∷ []) all }

pub put-requires : goal.put-requires
put-requires c =
    let n = length c.args.heard.now in
    let Below : List ℕ → Type 0 = λ ks. AllByRecursion (λ k. k < n) ks in
    let all = subst Below c.in-Some.ensures.cases.0 c.requires.known in
    let given : AreGiven c.args.delta.pieces c.in-Some.others.now c.args.heard.now c.give_copies.new.heard =
    c.in_ok-give_copies-in-Some.ensures in
    let last : c.in-Some.last.now < n =
    (all_right (λ k. k < n) c.in-Some.others.now (c.in-Some.last.now ∷ []) all).0 in
    omega (arith, last, given.long)

pub returns-in-None : goal.returns-in-None
returns-in-None c =
    let Given : List ℕ → Type 0 = λ ks. AreGiven c.args.delta.pieces ks c.args.heard.now c.args.heard.now in
    subst Given (sym (nil_from_length c.args.listeners.now c.in-None.ensures.cases)) (given_none c.args.delta.pieces c.args.heard.now)

pub returns-in_ok-give_copies-in-Some : goal.returns-in_ok-give_copies-in-Some
returns-in_ok-give_copies-in-Some c =
    let n = length c.args.heard.now in
    let Below : List ℕ → Type 0 = λ ks. AllByRecursion (λ k. k < n) ks in
    let all = subst Below c.in-Some.ensures.cases.0 c.requires.known in
    let last : c.in-Some.last.now < n =
    (all_right (λ k. k < n) c.in-Some.others.now (c.in-Some.last.now ∷ []) all).0 in
    rw (c.in-Some.ensures.cases.0, c.put.ensures)
    (given_more c.args.delta.pieces c.in-Some.others.now c.in-Some.last.now c.args.delta c.args.heard.now c.give_copies.new.heard
    c.in_ok-give_copies-in-Some.ensures last refl)
