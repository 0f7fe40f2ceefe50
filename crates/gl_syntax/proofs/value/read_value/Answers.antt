use Rattle.std.proofs.Common.{◌≡◌, ℕ, ◌<◌, true, false, eqb, length, sym, subst, arith}
use Rattle.std.proofs.lemmas.Bool.Decides.{nat_tests}
use Rattle.spec_syntax.specs.Reader.{stopped}
use Rattle.spec_syntax.specs.Value.{any_value}
use Rattle.spec_syntax.specs.ValueReader.{read_nested}
use Rattle.spec_syntax.proofs.Verdicts.{spelled_all, spelled_prefix, spelled_none, left_le, rest_of}
use Rattle.gl_syntax.specs.Fault.{IsFault}
use Rattle.gl_syntax.specs.Stop.{IsStop}
use Rattle.gl_syntax.proofs.value.read_value.Goals as goal

none_left : (n : ℕ) → true ≡ eqb n 0 → n ≡ 0
none_left n h = grind (arith, nat_tests)

some_left : (n : ℕ) → false ≡ eqb n 0 → 0 < n
some_left n h = grind (arith, nat_tests)

pub returns-then-is_empty : goal.returns-then-is_empty
returns-then-is_empty c = spelled_all c.args.bytes.now c.in-Ok.value c.in-Ok.rest.now c.in-Ok.ensures (none_left _ c.if-is_empty.ensures)

pub returns-else-is_empty : goal.returns-else-is_empty
returns-else-is_empty c =
    subst (IsFault any_value c.args.bytes.now) (sym c.fault_at.ensures)
    (spelled_prefix c.args.bytes.now c.in-Ok.value c.in-Ok.rest.now _ c.in-Ok.ensures (some_left _ c.if-is_empty.ensures)
    (omega (arith, rest_of c.args.bytes.now c.in-Ok.value c.in-Ok.rest.now c.in-Ok.ensures)))

pub returns-in-Err-Form : goal.returns-in-Err-Form
returns-in-Err-Form c =
    let stops : read_nested (length c.args.bytes.now) c.args.bytes.now ≡ stopped c.in-Err-Form.left = subst (IsStop (read_nested (length c.args.bytes.now) c.args.bytes.now)) c.in-Err-Form.field-0-is c.in-Err-Form.ensures in
    subst (IsFault any_value c.args.bytes.now) (sym c.fault_at-in-Err-Form.ensures)
    (spelled_none c.args.bytes.now c.in-Err-Form.left _ stops (omega (arith, left_le c.args.bytes.now c.in-Err-Form.left stops)))
