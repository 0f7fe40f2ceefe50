-- How an order is spelled, and the words that ask for its replay.
use Rattle.std.specs.Prelude.{◌≡◌, ◌<◌, ◌^◌, ℕ, List, [], ◌∷◌, ◌++◌, codes, decimal}
use Rattle.std.specs.List.{AllByRecursion}
use Rattle.gl_outside.specs.declared.gate.Actor.{Actor}
use Rattle.gl_outside.specs.declared.gate.Actor.TheVariants.{Writer, Proxy}

abbrev pub spelled_actor : Actor → List ℕ
spelled_actor (Writer w) = codes "w" ++ decimal w
spelled_actor (Proxy p) = codes "p" ++ decimal p

-- the actors after the first one, a comma before each
abbrev pub spelled_rest : List Actor → List ℕ
spelled_rest [] = []
spelled_rest (a ∷ order) = 44 ∷ spelled_actor a ++ spelled_rest order

-- an order without an entry is a dash
abbrev pub spelled_order : List Actor → List ℕ
spelled_order [] = codes "-"
spelled_order (a ∷ order) = spelled_actor a ++ spelled_rest order

-- the numbers of actors are below 2^32
abbrev pub IsActor : Actor → Type 0
IsActor (Writer w) = w < 2 ^ 32
IsActor (Proxy p) = p < 2 ^ 32

-- the words ask for the replay of this order
pub record AsksReplay (words : List (List ℕ)) (order : List Actor) : Type 0 where
  pub are : words ≡ codes "replay" ∷ spelled_order order ∷ []
  pub actors : AllByRecursion IsActor order
