use Rattle.std.proofs.Common.{◌≡◌, ◌∙◌, List, ◌∷◌, length, ap, sym, subst, arith}
use Rattle.spec_lists.specs.Piece.{old_len}
use Rattle.spec_lists.specs.Delta.{Delta, composed}
use Rattle.spec_states.specs.Wave.{committed}
use Rattle.gl_held.specs.Kept.{Kept}
use Rattle.gl_held.specs.Levels.{AreJoined}
use Rattle.gl_held.proofs.LevelLists.{first_of, second_of, joined_first}
use Rattle.gl_held.proofs.Retreats.{joined_committed, joined_back}
use Rattle.gl_held.proofs.transaction.Transaction.commit_inner.Goals as goal

pub then-requires : goal.then-requires
then-requires c = ap old_len c.in_ok-d.ensures ∙ joined_first c.self.inside.levels.levels c.level.result.now c.level-2.result.now c.self.invariant c.level.ensures c.level-2.ensures

pub push-requires : goal.push-requires
push-requires c = omega (arith, ap length c.take-level.ensures.levels, ap length c.take-outer.ensures.levels, c.take-level.ensures.fits, c.take-level.ensures.room, c.take-outer.ensures.room)

pub invariant_of-self : goal.invariant_of-self
invariant_of-self c =
    let Are : List Delta → Type 0 = λ ls. AreJoined ls in
    let level = c.take-level.result in
    let outer = c.take-outer.result in
    let rest = c.take-outer.new.self.levels in
    let all = c.self.inside.levels.levels in
    let took : all ≡ level ∷ outer ∷ rest = c.take-level.ensures.levels ∙ ap (λ ls. level ∷ ls) c.take-outer.ensures.levels in
    let inner : c.in_ok-d.d.pieces ≡ level = c.in_ok-d.ensures ∙ first_of all (outer ∷ rest) c.level.result.now level c.level.ensures took in
    let joined : c.in_ok-joined.joined ≡ composed outer level =
    c.in_ok-joined.ensures ∙ (ap (λ l. composed l c.in_ok-d.d.pieces) (second_of all rest c.level-2.result.now level outer c.level-2.ensures took) ∙ ap (composed outer) inner) in
    subst Are (sym c.push.ensures.levels) (joined_committed level outer c.in_ok-joined.joined rest joined (subst Are took c.self.invariant))

pub returns-clause-levels : goal.returns-clause-levels
returns-clause-levels c =
    let level = c.take-level.result in
    let outer = c.take-outer.result in
    let rest = c.take-outer.new.self.levels in
    let all = c.self.inside.levels.levels in
    let took : all ≡ level ∷ outer ∷ rest = c.take-level.ensures.levels ∙ ap (λ ls. level ∷ ls) c.take-outer.ensures.levels in
    let inner : c.in_ok-d.d.pieces ≡ level = c.in_ok-d.ensures ∙ first_of all (outer ∷ rest) c.level.result.now level c.level.ensures took in
    let joined : c.in_ok-joined.joined ≡ composed outer level =
    c.in_ok-joined.ensures ∙ (ap (λ l. composed l c.in_ok-d.d.pieces) (second_of all rest c.level-2.result.now level outer c.level-2.ensures took) ∙ ap (composed outer) inner) in
    c.push.ensures.levels ∙ (ap (λ l. l ∷ rest) joined ∙ ap committed (sym took ∙ ap (λ (k : Kept). k.levels) c.self.view_is))

pub returns-clause-undo : goal.returns-clause-undo
returns-clause-undo c =
    let Are : List Delta → Type 0 = λ ls. AreJoined ls in
    let level = c.take-level.result in
    let outer = c.take-outer.result in
    let rest = c.take-outer.new.self.levels in
    let same : c.self.inside.levels.levels ≡ c.args.self.now.levels = ap (λ (k : Kept). k.levels) c.self.view_is in
    let took : c.args.self.now.levels ≡ level ∷ outer ∷ rest = sym same ∙ (c.take-level.ensures.levels ∙ ap (λ ls. level ∷ ls) c.take-outer.ensures.levels) in
    joined_back c.args.self.now c.push.new.self level outer c.in_ok-joined.joined rest took c.push.ensures.levels (subst Are same c.self.invariant)
    (omega (arith, ap length same, c.take-level.ensures.fits, c.take-level.ensures.room, c.take-outer.ensures.room, c.push.ensures.room))
