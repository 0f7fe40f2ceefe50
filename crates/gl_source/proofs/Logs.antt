-- The edits of a delta are those of its cells, one after another.
use Rattle.std.specs.Prelude.{◌≡◌, List, [], ◌∷◌, map, refl}
use Rattle.std.proofs.Common.{ap}
use Rattle.spec_value.specs.Tree.{Tree}
use Rattle.gl_source.specs.Kept.{itself}

pub map-itself : (xs : List Tree) → map itself xs ≡ xs
map-itself [] = refl
map-itself (x ∷ xs) = ap (λ ys. x ∷ ys) (map-itself xs)
