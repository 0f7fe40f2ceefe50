use Rattle.std.proofs.Common.{◌∙◌, length, ap, arith}
use Rattle.std.specs.Prelude.{Err}
use Rattle.gl_held.proofs.proxy.Proxy.make.Goals as goal

pub unreachable-requires : goal.unreachable-requires
unreachable-requires g c =
    let n = c.in-Err-TooLong.field-0-0 in
    let r = (c.make.ensures.too_long n).0 (c.in-Err-TooLong.is ∙ ap Err c.in-Err-TooLong.field-0-is) in
    absurd (omega (arith, r.0, r.1, ap length c.in_ok-rows.ensures, c.requires))
