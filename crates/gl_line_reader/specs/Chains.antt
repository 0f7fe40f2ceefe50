-- The tables of words of matchers, as the code has them, and the units of a chain, put together one by one.
use Rattle.std.specs.Prelude.{ℕ, Bool, true, false, if◌then◌else◌, List, [], ◌∷◌, ◌++◌, length, codes}
use Rattle.spec_syntax.specs.Reader.{Reader, folded, table}
use Rattle.spec_lang.specs.Matcher as meant
use Rattle.spec_syntax.specs.Matcher as grammar
use Rattle.spec_syntax.specs.Matcher.{all_of, any_of, Form, ready, negated, enclosed, conjunction, disjunction, joint_words}
use Rattle.spec_syntax.specs.ValueReader.{is}
use Rattle.spec_syntax.specs.LanguageReader.{read_joined}
use Rattle.gl_line_reader.specs.declared.matcher.Joint.{Joint}
use Rattle.gl_line_reader.specs.declared.matcher.Joint.TheVariants.{And, Or}
use Rattle.gl_line_reader.specs.declared.matcher.Opening.{Opening}
use Rattle.gl_line_reader.specs.declared.matcher.Opening.TheVariants.{Not, Enclosed, All, Nothing}

abbrev pub joint_of : Joint → grammar.Joint
joint_of And = conjunction
joint_of Or = disjunction

abbrev pub joints : List (List ℕ × Joint)
joints = (codes " and ", And) ∷ (codes " or ", Or) ∷ []

abbrev pub opened : Opening → Form
opened Not = negated
opened Enclosed = enclosed
opened All = ready meant.all
opened Nothing = ready meant.nothing

abbrev pub openings : List (List ℕ × Opening)
openings =
    (codes "not ", Not) ∷ (codes "(", Enclosed) ∷ (codes "all", All) ∷ (codes "none", Nothing) ∷ []

-- the matcher that accepts everything, or the one that accepts nothing
abbrev pub constant : Bool → meant.Matcher
constant everything = if everything then meant.all else meant.nothing

abbrev pub flat_of : Bool → Form
flat_of everything = ready (constant everything)

abbrev pub flat_openings : List (List ℕ × Bool)
flat_openings = (codes "all", true) ∷ (codes "none", false) ∷ []

-- the parts of the `or` that are whole, and the units of the one that goes on
abbrev pub Parts : Type 0
Parts = List meant.Matcher × List meant.Matcher

-- a matcher of some parts; there is at least one
abbrev pub all_parts : List meant.Matcher → meant.Matcher
all_parts [] = meant.all
all_parts (m ∷ ms) = all_of m ms

abbrev pub any_part : List meant.Matcher → meant.Matcher
any_part [] = meant.nothing
any_part (m ∷ ms) = any_of m ms

-- one unit more
abbrev pub put : Parts → grammar.Joint × meant.Matcher → Parts
put parts (conjunction, m) = (parts.0, parts.1 ++ m ∷ [])
put parts (disjunction, m) = (parts.0 ++ all_parts parts.1 ∷ [], m ∷ [])

abbrev pub finish : Parts → meant.Matcher
finish parts = any_part (parts.0 ++ all_parts parts.1 ∷ [])

-- a joint and the unit after it
unfoldable pub read_part : Reader meant.Matcher → Reader (grammar.Joint × meant.Matcher)
read_part r bs = table (read_joined r) joint_words bs

-- the units after those that there are, put to them one by one
abbrev pub read_others : Reader meant.Matcher → Parts → Reader Parts
read_others r parts bs = folded put parts (length bs) (is 32) (read_part r) bs
