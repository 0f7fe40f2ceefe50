use Rattle.std.proofs.Common.{sym, subst}
use Rattle.std.specs.Prelude.{IsUtf8}
use Rattle.spec_syntax.proofs.Utf8.{text_is_utf8}
use Rattle.gl_syntax.proofs.text.text_ahead.Goals as goal

pub text_of-requires : goal.text_of-requires
text_of-requires c =
    subst IsUtf8 (sym c.as_slice.ensures)
    (text_is_utf8 c.args.bytes.now c.in_ok-inside.inside.now c.in_ok-chars.rest.now c.in_ok-after_word.after_word.now c.in_ok-chars.chars c.in_ok-inside.ensures c.in_ok-chars.ensures c.in_ok-after_word.ensures)
