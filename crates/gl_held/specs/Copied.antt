-- What a proxy keeps.
use Rattle.std.specs.Prelude.{◌≡◌, ℕ, List, map, refl}
use Rattle.std.specs.Coded.{Coded, code_by, coded×, coded_ℕ, coded_list}
use Rattle.spec_states.specs.Tree.{Tree}
use Rattle.spec_states.specs.Code.{tree_code}
use Rattle.spec_lists.specs.Piece.{piece_code}
use Rattle.spec_lists.specs.Delta.{Delta}
use Rattle.spec_states.specs.State.{Own, proxy}
use Rattle.spec_states.specs.Laws.{LeadOnFrom}
use Rattle.gl_delta.specs.Model.{DeltaModel}

-- the elements that it shows, the deltas that it is yet to take, the first one first, and for how many of either there is room
pub record Copied : Type 0 where
  pub values : List Tree
  pub queue : List Delta
  pub room : ℕ
  pub queue_room : ℕ

abbrev pub copied_code : Coded Copied
copied_code =
    code_by (List Tree × (List Delta × (ℕ × ℕ)))
    (coded× (coded_list tree_code) (coded× (coded_list (coded_list piece_code)) (coded× coded_ℕ coded_ℕ)))
    (λ k. (k.values, (k.queue, (k.room, k.queue_room))))
    (λ p. record { values = p.0; queue = p.1.0; room = p.1.1.0; queue_room = p.1.1.1 })
    (λ _. refl)

-- what a proxy over that input keeps in a state
abbrev pub own_of : ℕ → Copied → Own
own_of input k = proxy input k.values k.queue

-- the deltas that are queued
abbrev pub queued : List DeltaModel → List Delta
queued ds = map (λ d. d.pieces) ds

-- what is yet to take leads on from what is shown, and the copy is as long as it may be
pub record IsCopy (values : List Tree) (queue : List Delta) (limit : ℕ) : Type 0 where
  pub leads : LeadOnFrom queue values
  pub limit_is : limit ≡ 2147483647
