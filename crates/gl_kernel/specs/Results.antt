-- A list that keeps one result for each element of its input, and the way back from a change of it.
use Rattle.std.specs.Prelude.{◌≡◌, List, map}
use Rattle.spec_value.specs.Tree.{Tree}

-- these are what a function gives of each element, in their order
abbrev pub AreResults : {T : Type 0} → (Tree → T) → List T → List Tree → Type 0
AreResults f items xs = items ≡ map f xs

-- an undo is of the last change: it leads back to what there was, and there is what the way back needs
pub record LeadsBack {C : Type 0} (before old : C) (CanGo : Type 0) : Type 0 where
  pub back : before ≡ old
  pub can : CanGo
