-- Worked rows of the readers, each by computing.
use Rattle.std.specs.Prelude.{◌≡◌, refl, codes}
use Rattle.spec_syntax.specs.Reader.{found, stopped, read_word}

a_word : read_word (codes "ab") (codes "abc") ≡ found tt (codes "c")
a_word = refl

half_a_word : read_word (codes "ab") (codes "ac") ≡ stopped 1
half_a_word = refl
