use Rattle.std.proofs.Common.{◌≡◌, ◌∙◌, List, ◌∷◌, length, ap, sym, subst, arith}
use Rattle.spec_lists.specs.Piece.{old_len}
use Rattle.spec_lists.specs.Delta.{Delta, composed}
use Rattle.gl_held.specs.Kept.{Kept}
use Rattle.gl_held.specs.Levels.{AreJoined, BeginsWith, followed}
use Rattle.gl_held.proofs.LevelLists.{first_of}
use Rattle.gl_held.proofs.Retreats.{joined_followed, followed_back}
use Rattle.gl_held.proofs.transaction.Transaction.follow.Goals as goal

pub push-requires : goal.push-requires
push-requires c = omega (arith, ap length c.take-level.ensures.levels, c.take-level.ensures.fits, c.take-level.ensures.room)

pub invariant_of-self : goal.invariant_of-self
invariant_of-self c =
    let Are : List Delta → Type 0 = λ ls. AreJoined ls in
    let d = c.args.d.now.pieces in
    let level = c.take-level.result in
    let rest = c.take-level.new.self.levels in
    let took : c.self.inside.levels.levels ≡ level ∷ rest = c.take-level.ensures.levels in
    let is : c.args.self.now.levels ≡ level ∷ rest = sym (ap (λ (k : Kept). k.levels) c.self.view_is) ∙ took in
    let Begins : List Delta → Type 0 = λ ls. BeginsWith (old_len d) ls in
    let next : c.in_ok-next.next ≡ composed level d = c.in_ok-next.ensures ∙ ap (λ l. composed l d) (first_of c.self.inside.levels.levels rest c.level.result.now level c.level.ensures took) in
    subst Are (sym c.push.ensures.levels) (joined_followed level c.in_ok-next.next d rest next (sym (subst Begins is c.requires.begins)) (subst Are took c.self.invariant))

pub returns-clause-levels : goal.returns-clause-levels
returns-clause-levels c =
    let d = c.args.d.now.pieces in
    let level = c.take-level.result in
    let rest = c.take-level.new.self.levels in
    let took : c.self.inside.levels.levels ≡ level ∷ rest = c.take-level.ensures.levels in
    let is : c.args.self.now.levels ≡ level ∷ rest = sym (ap (λ (k : Kept). k.levels) c.self.view_is) ∙ took in
    let next : c.in_ok-next.next ≡ composed level d = c.in_ok-next.ensures ∙ ap (λ l. composed l d) (first_of c.self.inside.levels.levels rest c.level.result.now level c.level.ensures took) in
    c.push.ensures.levels ∙ (ap (λ l. l ∷ rest) next ∙ ap (λ ls. followed ls d) (sym is))

pub returns-clause-undo : goal.returns-clause-undo
returns-clause-undo c =
    let Are : List Delta → Type 0 = λ ls. AreJoined ls in
    let level = c.take-level.result in
    let rest = c.take-level.new.self.levels in
    let same : c.self.inside.levels.levels ≡ c.args.self.now.levels = ap (λ (k : Kept). k.levels) c.self.view_is in
    followed_back c.args.self.now c.push.new.self level c.in_ok-next.next rest (sym same ∙ c.take-level.ensures.levels) c.push.ensures.levels (subst Are same c.self.invariant)
    (omega (arith, ap length same, c.take-level.ensures.fits, c.take-level.ensures.room, c.push.ensures.room))
