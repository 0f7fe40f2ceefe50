-- Which orders fit a plan, what is wrong at the first place of one that doesn't, and which orders are whole.
use Rattle.std.specs.Prelude.{◌≡◌, ◌<◌, ◌++◌, ℕ, Bool, true, false, List, [], ◌∷◌, length, nat_lt, if◌then◌else◌, Option, Some, None, slice_get}
use Rattle.gl_outside.specs.declared.gate.Actor.{Actor}
use Rattle.gl_outside.specs.declared.gate.Actor.TheVariants.{Writer, Proxy}
use Rattle.spec_plans.specs.Plan.{Plan, sections_of, proxies_of}
use Rattle.spec_lists.specs.Delta.{Delta}
use Rattle.spec_states.specs.State.{Own, State, proxy, own_at}
use Rattle.spec_runs.specs.Entry.{taken_by}
use Rattle.spec_runs.specs.Run.{run, left_to}

-- why an actor can't take the next entry: the plan has no such writer, the writer has no section left, the plan has no such
-- proxy, or the proxy has nothing to take
pub data Reason : Type 0 where
  no_writer : Reason
  no_section : Reason
  no_proxy : Reason
  empty_queue : Reason

-- what a proxy is yet to take; every other list has nothing to take
abbrev pub queue_of : Own → List Delta
queue_of (proxy input kept queue) = queue
queue_of other = []

abbrev pub reason_of_queue : List Delta → Option Reason
reason_of_queue [] = Some empty_queue
reason_of_queue (d ∷ queue) = None

-- what keeps a proxy from its pump in a state, if anything does; of its number among the lists, if the plan has it
abbrev pub reason_of_proxy : State → Option ℕ → Option Reason
reason_of_proxy s None = Some no_proxy
reason_of_proxy s (Some list) = reason_of_queue (queue_of (own_at s list))

-- what keeps an actor from the next entry after an order, if anything does
abbrev pub reason_at : Plan → List Actor → Actor → Option Reason
reason_at p before (Writer w) =
    if nat_lt w (length p.writers)
    then (if nat_lt (taken_by w before) (length (sections_of p w)) then None else Some no_section)
    else Some no_writer
reason_at p before (Proxy n) = reason_of_proxy (run p before).state (slice_get (proxies_of p) n)

-- a bad place of an order, counted from 0, with its reason
pub record BadPlace : Type 0 where
  pub place : ℕ
  pub reason : Reason

-- the first bad place of what is left of an order, after the part that was judged
abbrev pub bad_place_from : Plan → List Actor → List Actor → Option BadPlace
bad_place_from p before [] = None
bad_place_from p before (a ∷ rest) =
    first_of_two (reason_at p before a) (bad_place_from p (before ++ a ∷ []) rest)
  where
    first_of_two : Option Reason → Option BadPlace → Option BadPlace
    first_of_two (Some reason) later = Some (record { place = length before; reason = reason })
    first_of_two None later = later

abbrev pub first_bad_place : Plan → List Actor → Option BadPlace
first_bad_place p order = bad_place_from p [] order

-- an order fits where no place is bad
abbrev pub Fits : Plan → List Actor → Type 0
Fits p order = first_bad_place p order ≡ None

-- It is whole where besides all sections are taken and no proxy has anything left to take.
pub record IsWhole (p : Plan) (order : List Actor) : Type 0 where
  pub fits : Fits p order
  pub sections : (w : ℕ) → w < length p.writers → left_to p w order ≡ 0
  pub queues : (list : ℕ) → list < length p.lists → queue_of (own_at (run p order).state list) ≡ []
