-- What a list keeps that is seen through others.
use Rattle.std.specs.Prelude.{ℕ, List}
use Rattle.gl_graph.specs.declared.node.Node.{Node}

-- the nodes through which it is seen, the place of each list among all nodes, and its number
pub record Kept : Type 0 where
  pub prefix : List Node
  pub positions : List ℕ
  pub list : ℕ
