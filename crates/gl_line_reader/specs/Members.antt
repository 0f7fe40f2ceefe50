-- Readers of the members of a composite in their columns, and of the lists that may become members.
use Rattle.std.specs.Prelude.{◌+◌, ℕ, List, [], ◌∷◌, ◌++◌, length, codes}
use Rattle.spec_syntax.specs.Reader.{Step, found, stopped, Reader, made, after_word, nearer}
use Rattle.spec_lines.specs.Line.{in_row, past}
use Rattle.spec_lines.specs.Reader.{read_may, read_composite}
use Rattle.gl_lines.specs.declared.named.Named.{Named}
use Rattle.gl_line_reader.specs.Named.{read_named}
use Rattle.gl_line_reader.specs.declared.composite.Part.{Part}
use Rattle.gl_line_reader.specs.declared.composite.Part.TheVariants.{Member, May}

-- the members with those after them, whose first space stands in this column, and the lists that may become members
abbrev pub put_before : List Named → ℕ → List (List ℕ) × List (List ℕ) → List Named × List Named
put_before members column parts =
    (members ++ in_row (column + 1) parts.0, in_row (past column parts.0 + 5) parts.1)

abbrev pub read_members : List Named → ℕ → ℕ → Reader (List Named × List Named)
read_members members column most bs = made (put_before members column) (read_composite most bs)

-- the lists that may become members, where a member stops with so many bytes left
abbrev pub may_or : ℕ → ℕ → Reader Part
may_or left column bs = made May (nearer (made (in_row (column + 5)) (read_may bs)) (stopped left))

abbrev pub member_or : Step Named → (ℕ → Step Part) → Step Part
member_or (found n rest) other = found (Member n) rest
member_or (stopped left) other = other left

-- a member, or the lists that may become members, after the space in this column
abbrev pub read_part : ℕ → Reader Part
read_part column bs =
    member_or (after_word (codes " ") (read_named (column + 1)) bs) (λ left. may_or left column bs)

-- what is read after a part
abbrev pub after_part : List Named → ℕ → ℕ → Part → Reader (List Named × List Named)
after_part members column most (Member n) rest =
    read_members (members ++ n ∷ []) (column + 1 + length n.name) most rest
after_part members column most (May lists) rest = found (members, lists) rest
