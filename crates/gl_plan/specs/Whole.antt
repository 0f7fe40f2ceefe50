-- What every plan has.
use Rattle.std.specs.Prelude.{◌≡◌, ◌<◌, ◌≤◌, ℕ, List, length}
use Rattle.spec_plans.specs.Edges.{AreWithin}
use Rattle.spec_plans.specs.Plan.{Plan, list_edges, listener_edges}
use Rattle.spec_plans.specs.Cycles.{IsAcyclic}
use Rattle.spec_plans.specs.PlanNames.{names_of_lists, names_of_listeners}
use Rattle.spec_plans.specs.WellFormed.{IsWellFormed}

-- A list of a plan may have 1 to 16,777,216 elements.
pub record IsLimit (limit : ℕ) : Type 0 where
  pub some : 0 < limit
  pub few : limit ≤ 16777216

-- A plan is well formed: all that it speaks of is there, and of the class that is needed. It has at most 256 lists,
-- 256 listeners and 64 writers; the numbers on which lists and listeners depend are numbers of lists and of listeners;
-- and none depends on itself through others.
pub record IsWhole (p : Plan) : Type 0 where
  pub formed : IsWellFormed p
  pub limit : IsLimit p.limit
  pub few_lists : length p.lists ≤ 256
  pub few_listeners : length p.listeners ≤ 256
  pub few_writers : length p.writers ≤ 64
  pub lists_within : AreWithin (length p.lists) (list_edges p)
  pub listeners_within : AreWithin (length p.listeners) (listener_edges p)
  pub acyclic : IsAcyclic p

-- What a plan has before it is known to be acyclic, by the names of its lists and of its listeners.
pub record IsPrepared (p : Plan) (names listeners : List (List ℕ)) : Type 0 where
  pub formed : IsWellFormed p
  pub limit : IsLimit p.limit
  pub names_are : names_of_lists p ≡ names
  pub listeners_are : names_of_listeners p ≡ listeners
