-- The element that is found where a list says that it stands.
use Rattle.std.specs.Prelude.{ℕ, List, [], Option, Some, None, slice_get}
use Rattle.spec_value.specs.Tree.{Tree}
use Rattle.gl_delta.specs.declared.find.Find.{Find}
use Rattle.gl_delta.specs.declared.find.Find.TheVariants.{Input, Child, Own}

-- for a list that stands for this input, the children of whose elements these are
abbrev pub found_among : (ℕ → List Tree) → List Tree → Option Find → Option Tree
found_among children xs None = None
found_among children xs (Some (Input i)) = slice_get xs i
found_among children xs (Some (Child i k)) = slice_get (children i) k
found_among children xs (Some (Own v)) = Some v.now

-- for a list that shows no children
abbrev pub found : Option Find → List Tree → Option Tree
found at xs = found_among (λ i. []) xs at
