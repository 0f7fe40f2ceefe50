-- The matcher that a shape shows.
use Rattle.std.specs.Prelude.{◌≤◌, length, ⊤}
use Rattle.spec_lang.specs.Matcher as spec
use Rattle.gl_lang.specs.declared.matcher.MatcherShape.{MatcherShape}
use Rattle.gl_lang.specs.declared.matcher.MatcherShape.TheVariants.{All, Nothing, Is, Not, And, Or}

abbrev pub shown : MatcherShape → spec.Matcher
shown All = spec.all
shown Nothing = spec.nothing
shown (Is path test literal) = spec.is path.now test literal.now
shown (Not part) = spec.negation part.now
shown (And parts) = spec.both (spec.matchers parts.now)
shown (Or parts) = spec.either (spec.matchers parts.now)

-- an and and an or show at least two parts
abbrev pub ShowsParts : MatcherShape → Type 0
ShowsParts All = ⊤
ShowsParts Nothing = ⊤
ShowsParts (Is path test literal) = ⊤
ShowsParts (Not part) = ⊤
ShowsParts (And parts) = 2 ≤ length parts.now
ShowsParts (Or parts) = 2 ≤ length parts.now
