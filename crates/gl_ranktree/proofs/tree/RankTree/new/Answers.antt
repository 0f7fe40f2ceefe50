use Rattle.std.proofs.Common.{[]}
use Rattle.gl_ranktree.specs.Tree.{leaf}
use Rattle.gl_ranktree.proofs.Vacancies.{ranked_empty, entries_are}
use Rattle.gl_ranktree.proofs.tree.RankTree.new.Goals as goal

pub invariant_of-result : goal.invariant_of-result
invariant_of-result g c = record { tree = leaf; free = []; ranks = rw c.new.ensures.items (ranked_empty g.S.Summary.sums) }

pub returns-clause-empty : goal.returns-clause-empty
returns-clause-empty g c = rw c.new.ensures.items (entries_are g.S.Summary.sums _ _ leaf (ranked_empty g.S.Summary.sums).stands)
