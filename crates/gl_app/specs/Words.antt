-- How the words of a call are read.
use Rattle.std.specs.Prelude.{ℕ, ◌==◌, ◌&&◌, nat_le, if◌then◌else◌, List, [], ◌∷◌, codes, Option, Some, None, option_map, option_and_then, bytes_eq}
use Rattle.std.specs.declared.vec.Vec.{Vec}
use Rattle.gl_outside.specs.declared.gate.Actor.{Actor}
use Rattle.gl_outside.specs.declared.gate.Actor.TheVariants.{Writer, Proxy}
use Rattle.gl_syntax.specs.Numbers.{index_in}
use Rattle.spec_reports.specs.Cuts.{with_prefix}
use Rattle.spec_reports.specs.Words.{Request as RequestData, check, replay, big}
use Rattle.gl_app.specs.declared.words.Request.{Request}
use Rattle.gl_app.specs.declared.words.Request.TheVariants.{OfPlan, Big}
use Rattle.gl_app.specs.declared.words.PlanRequest.{PlanRequest}
use Rattle.gl_app.specs.declared.words.PlanRequest.TheVariants.{Check, Replay}

-- the actors of an order that was read
abbrev pub entries_of : {X Y : Type 0} → Vec X Y → List X
entries_of order = order.items

-- the request for something of a plan that was read
abbrev pub request_of_plan : PlanRequest → RequestData
request_of_plan Check = check
request_of_plan (Replay order) = replay order.items

-- the request that was read
abbrev pub request_of : Request → RequestData
request_of (OfPlan request) = request_of_plan request
request_of (Big n) = big n

-- the actor that the bytes spell
unfoldable pub actor_in : List ℕ → Option Actor
actor_in [] = None
actor_in (b ∷ bs) =
    if b == 119 then option_map Writer (index_in bs)
    else if b == 112 then option_map Proxy (index_in bs) else None

-- the bytes between commas
abbrev pub pieces : List ℕ → List (List ℕ)
pieces [] = [] ∷ []
pieces (b ∷ bs) = if b == 44 then [] ∷ pieces bs else with_prefix b (pieces bs)

-- the actors that the pieces spell, one each
abbrev pub actors_in : List (List ℕ) → Option (List Actor)
actors_in [] = Some []
actors_in (piece ∷ pieces) =
    option_and_then (λ a. option_map (λ order. a ∷ order) (actors_in pieces)) (actor_in piece)

-- the order that the bytes spell
abbrev pub order_in : List ℕ → Option (List Actor)
order_in bytes = if bytes_eq bytes (codes "-") then Some [] else actors_in (pieces bytes)

-- a number that is a size
abbrev pub size_of : ℕ → Option ℕ
size_of n = if nat_le 1 n && nat_le n 10000 then Some n else None

-- the size that the bytes spell
abbrev pub size_in : List ℕ → Option ℕ
size_in bytes = option_and_then size_of (index_in bytes)

-- what the words ask for
abbrev pub asked : List (List ℕ) → Option RequestData
asked [] = None
asked (keyword ∷ []) = if bytes_eq keyword (codes "check") then Some check else None
asked (keyword ∷ word ∷ []) =
    if bytes_eq keyword (codes "replay") then option_map replay (order_in word)
    else if bytes_eq keyword (codes "big") then option_map big (size_in word) else None
asked (keyword ∷ word ∷ more ∷ words) = None
