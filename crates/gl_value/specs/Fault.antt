-- What bytes make of a text.
use Rattle.std.specs.Prelude.{◌≡◌, ℕ, List, IsUtf8}
use Rattle.std.specs.Str.Lossy.{utf8_valid_len}
use Rattle.gl_value.specs.declared.text.TextFault.{TextFault}
use Rattle.gl_value.specs.declared.text.TextFault.TheVariants.{NotUtf8, Memory}

-- the text has these bytes, which are UTF-8
pub record IsTextOf (bs text : List ℕ) : Type 0 where
  pub same : text ≡ bs
  pub whole : IsUtf8 bs

-- the bytes aren't UTF-8 and valid is the length of their longest front that is; or they are, and memory ran out
abbrev pub IsFaultOf : List ℕ → TextFault → Type 0
IsFaultOf bs (NotUtf8 valid) = (¬ IsUtf8 bs) × (valid ≡ utf8_valid_len bs)
IsFaultOf bs Memory = IsUtf8 bs
