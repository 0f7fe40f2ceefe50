use Rattle.std.proofs.Common.{◌≡◌, ◌≤◌, ◌+◌, ◌*◌, List, length, sym, ap, subst, arith}
use Rattle.gl_kernel.specs.Edits.{CanPlay}
use Rattle.gl_kernel.proofs.Play.{can_play_reserved}
use Rattle.gl_kernel.proofs.log.apply.Goals as goal

pub play-requires-clause-can : goal.play-requires-clause-can
play-requires-clause-can g c =
    let need = g.E.Editable.need in
    let room = g.E.Editable.room c.reserve.new.self in
    let growth = g.E.Editable.growth in
    let es = c.args.log.items in
    let xs = g.E.Editable.items c.args.list.now in
    let ys = g.E.Editable.items c.reserve.new.self in
    let same : ys ≡ xs = c.reserve.ensures.items in
    let reserved : need ys + c.len-2.result * growth ≤ room = c.in_ok-reserve.ensures.ok in
    let count : c.len-2.result ≡ length es = omega (arith, c.len-2.ensures, c.args.log.ok.0) in
    let enough : need xs + length es * growth ≤ room = omega (arith, reserved, ap need same, ap (λ n. n * growth) count) in
    let Playable : List _ → Type 0 = λ zs. CanPlay need room es zs in
    subst Playable (sym same) (can_play_reserved need growth room g.met.E.Editable.grows es xs c.requires.within enough c.requires.few)
