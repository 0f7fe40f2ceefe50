-- What a world is to its callers.
use Rattle.std.specs.Prelude.{◌++◌, ◌∷◌, [], List}
use Rattle.spec_states.specs.Plan.{Plan}
use Rattle.gl_outside.specs.declared.gate.Actor.{Actor}

-- a plan, and the order of the entries that were made of it
pub record History : Type 0 where
  pub plan : Plan
  pub order : List Actor

-- with an entry more
abbrev pub with_entry : History → Actor → History
with_entry h a = record h { order = h.order ++ a ∷ [] }
