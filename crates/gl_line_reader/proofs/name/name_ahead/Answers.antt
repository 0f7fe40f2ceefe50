use Rattle.std.proofs.Common.{◌≡◌, rules, false, sym, ap, ◌∙◌, codes}
use Rattle.std.specs.Prelude.{bytes_eq}
use Rattle.gl_line_reader.proofs.Names.{name_is}
use Rattle.gl_line_reader.proofs.name.name_ahead.Goals as goal

pub name_of-requires : goal.name_of-requires
name_of-requires c =
    let other : bytes_eq c.cut.result.0.now (codes "may") ≡ false = ap (bytes_eq c.cut.result.0.now) (sym c.as_slice.ensures) ∙ sym c.eq.ensures ∙ c.if-eq.false in
    name_is c.args.bytes.now c.cut.result.0.now c.cut.result.1.now (search rules) c.cut.ensures.prefix c.cut.ensures.rest other
