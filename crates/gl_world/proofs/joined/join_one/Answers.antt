use Rattle.std.proofs.Common.{◌≡◌, ◌∙◌, ap}
use Rattle.spec_states.specs.Delta.{composed}
use Rattle.gl_world.proofs.JoinedDeltas.{put_joined}
use Rattle.gl_world.proofs.joined.join_one.Goals as goal

pub returns-in_ok-reserve_for-in-Some : goal.returns-in_ok-reserve_for-in-Some
returns-in_ok-reserve_for-in-Some c =
    let both : c.absorb.new.self.pieces ≡ composed c.in-Some.delta.pieces c.args.next.pieces = c.absorb.ensures.pieces
    ∙ ap (λ p. composed p c.args.next.pieces) c.reserve_for.ensures.pieces in
    put_joined c.args.sofar.now c.take.new.self c.put-in-Some.new.self c.args.list c.in-Some.delta c.args.next
    c.absorb.new.self c.requires.sofar c.in-Some.ensures.taken both c.in-Some.ensures.rest c.put-in-Some.ensures
