-- The matcher that a node is.
use Rattle.std.specs.Prelude.{◌≤◌, length, ⊤}
use Rattle.spec_lang.specs.Matcher as spec
use Rattle.gl_lang.specs.declared.matcher.Node.{Node}
use Rattle.gl_lang.specs.declared.matcher.Node.TheVariants.{All, Nothing, Is, Not, And, Or}

abbrev pub matcher_of : Node → spec.Matcher
matcher_of All = spec.all
matcher_of Nothing = spec.nothing
matcher_of (Is path test literal) = spec.is path test literal
matcher_of (Not part) = spec.negation part.value
matcher_of (And parts) = spec.both (spec.matchers parts.items)
matcher_of (Or parts) = spec.either (spec.matchers parts.items)

-- an and and an or have at least two parts
abbrev pub HasParts : Node → Type 0
HasParts All = ⊤
HasParts Nothing = ⊤
HasParts (Is path test literal) = ⊤
HasParts (Not part) = ⊤
HasParts (And parts) = 2 ≤ length parts.items
HasParts (Or parts) = 2 ≤ length parts.items
