-- What is told by the results that a function list keeps.
use Rattle.std.specs.Prelude.{ℕ, suc, pos, List, [], ◌∷◌, map, get_or}
use Rattle.spec_views.specs.Tree.{Tree, num}
use Rattle.spec_views.specs.Piece.{Piece, kept, updated, deleted, inserted}
use Rattle.gl_kernel.specs.Fates.{Fate, becomes}

-- the result at a place that there is
abbrev pub result_at : List Tree → ℕ → Tree
result_at vs i = get_or vs i (num (pos 0))

-- what these pieces of the input's change come to, after i old elements, where these are the old results
abbrev pub told_results : (Tree → Tree) → List Tree → ℕ → List Piece → List Piece
told_results f vs i [] = []
told_results f vs i (kept ∷ ps) = kept ∷ told_results f vs (suc i) ps
told_results f vs i (updated v w ∷ ps) =
    updated (result_at vs i) (f w) ∷ told_results f vs (suc i) ps
told_results f vs i (deleted v ∷ ps) = deleted (result_at vs i) ∷ told_results f vs (suc i) ps
told_results f vs i (inserted w ∷ ps) = inserted (f w) ∷ told_results f vs i ps

-- what becomes of the results where the function is another one
abbrev pub renewed : (Tree → Tree) → List Tree → List (Fate Tree)
renewed f xs = map (λ x. becomes (f x)) xs
