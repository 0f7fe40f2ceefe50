-- Each part of a matcher is smaller than the matcher.
use Rattle.std.specs.Prelude.{◌+◌, ◌≤◌, max, List, [], ◌∷◌}
use Rattle.std.proofs.Common.{arith}
use denote.Param.Weighed.{most}
use Rattle.spec_lang.specs.Matcher as spec
use Rattle.gl_lang.specs.MatcherNode.{matcher_of}
use Rattle.gl_lang.specs.declared.matcher.Node.{Node}
use Rattle.gl_lang.specs.declared.matcher.Node.TheVariants.{All, Nothing, Is, Not, And, Or}
use Rattle.gl_lang.specs.declared.matcher.Matcher.TheDeep.{deep-Node}

pub most_le-matchers_size : (ms : List spec.Matcher)
    → most (λ m. spec.matcher_size m + 1) ms ≤ spec.matchers_size (spec.matchers ms)
most_le-matchers_size [] = omega arith
most_le-matchers_size (m ∷ ms) = omega (arith, most_le-matchers_size ms)

pub deep_le-matcher_size : (n : Node) → max (deep-Node n) 0 ≤ spec.matcher_size (matcher_of n)
deep_le-matcher_size All = omega arith
deep_le-matcher_size Nothing = omega arith
deep_le-matcher_size (Is path test literal) = omega arith
deep_le-matcher_size (Not part) = omega arith
deep_le-matcher_size (And parts) = omega (arith, most_le-matchers_size parts.items)
deep_le-matcher_size (Or parts) = omega (arith, most_le-matchers_size parts.items)
