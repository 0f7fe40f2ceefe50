-- The proxies among lists, one by one.
use Rattle.std.specs.Prelude.{ℕ, List, [], ◌∷◌}
use Rattle.gl_lines.specs.declared.plan.ListKind.{ListKind}
use Rattle.gl_lines.specs.declared.plan.ListKind.TheVariants.{Proxy}

-- the number of a list, if it is a proxy
abbrev pub proxy_here : ℕ → ListKind → List ℕ
proxy_here number (Proxy input) = number ∷ []
proxy_here number other = []
