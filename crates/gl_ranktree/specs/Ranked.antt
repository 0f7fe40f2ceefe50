-- What a tree in a vector keeps, with its vacant slots, and how a client sees it.
use Rattle.std.specs.Prelude.{◌≡◌, ◌≢◌, ℕ, zero, suc, ◌+◌, ◌<◌, ◌≤◌, max, List, [], ◌∷◌, ◌++◌, length, map, cond, nat_lt, insert, remove, refl}
use Rattle.std.specs.Coded.{Coded, code_by, coded×, coded_ℕ, coded_list}
use Rattle.gl_ranktree.specs.Summary.{Sums}
use Rattle.gl_ranktree.specs.Tree.{Tree, absent, tree_size, inorder, times, hit, with_own, SplitsAt}
use Rattle.gl_ranktree.specs.Nodes.{node_at, IsUnder, Becomes}
use Rattle.gl_ranktree.specs.Edits.{Stands}
use Rattle.gl_ranktree.specs.declared.node.Node.{Node}

-- the entries in order, each with its slot, how many slots were made, and how many there is room for
pub record Ranked (S : Type 0) : Type 0 where
  pub entries : List (ℕ × S)
  pub slots : ℕ
  pub room : ℕ

-- it is stored as the tuple of its fields
abbrev pub ranked_code : {S : Type 0} → Coded S → Coded (Ranked S)
ranked_code {S} code =
    code_by
    (List (ℕ × S) × (ℕ × ℕ))
    (coded× (coded_list (coded× coded_ℕ code)) (coded× coded_ℕ coded_ℕ))
    (λ r. (r.entries, (r.slots, r.room)))
    (λ p. record { entries = p.0; slots = p.1.0; room = p.1.1 })
    (λ _. refl)

-- how often a slot stands in a list of slots
abbrev pub listed : ℕ → List ℕ → ℕ
listed j [] = 0
listed j (v ∷ vs) = hit v j + listed j vs

module _ {S : Type 0} (m : Sums S) where
  -- the entries below a node, from left to right, no deeper than so many levels
  unfoldable pub walk : ℕ → List (Node S) → ℕ → List (ℕ × S)
  walk zero nodes slot = []
  walk (suc depth) nodes slot =
      cond (nat_lt slot (length nodes))
      (walk depth nodes (node_at m nodes slot).left
      ++ (slot, (node_at m nodes slot).own) ∷ walk depth nodes (node_at m nodes slot).right) []

  -- the entries of the tree under this root
  abbrev pub entries_under : List (Node S) → ℕ → List (ℕ × S)
  entries_under nodes top = walk (node_at m nodes top).height nodes top

  -- the vacant slots, each of which names the next one as its left child
  abbrev pub IsChain : List (Node S) → ℕ → List ℕ → Type 0
  IsChain nodes start [] = start ≡ absent
  IsChain nodes start (v ∷ vs) =
      (start ≡ v) × (v < length nodes) × IsChain nodes (node_at m nodes v).left vs

  -- the nodes are those of this tree and these vacant ones
  pub record Ranks (nodes : List (Node S)) (top vacant : ℕ) (tree : Tree S) (free : List ℕ) : Type 0
    where
      pub stands : Stands m nodes top tree
      pub alone : IsUnder m nodes tree absent
      pub chain : IsChain nodes vacant free
      pub shared : (j : ℕ) → times j tree + listed j free ≤ 1
      pub counted : tree_size tree + length free ≡ length nodes

  pub record IsRanked (nodes : List (Node S)) (top vacant : ℕ) : Type 0 where
    pub tree : Tree S
    pub free : List ℕ
    pub ranks : Ranks nodes top vacant tree free

  -- a slot was taken from the vacant ones, or a new one made
  pub record Claims (old new : List (Node S)) (vacant slot next : ℕ) (own : S) : Type 0 where
    pub own_is : (node_at m new slot).own ≡ own
    pub others : (j : ℕ) → j ≢ slot → node_at m new j ≡ node_at m old j
    pub within : slot < length new
    pub fresh : vacant ≡ absent
        → (slot ≡ length old) × (next ≡ absent) × (length new ≡ length old + 1)
    pub reused : vacant < length old
        → (slot ≡ vacant) × (next ≡ (node_at m old vacant).left) × (length new ≡ length old)

  -- a tree under a root of its own
  pub record Hangs (old new : List (Node S)) (top position slot : ℕ) (t : Tree S) : Type 0 where
    pub tree : Tree S
    pub becomes : Becomes m old new top tree
    pub alone : IsUnder m new tree absent
    pub order : inorder tree ≡ insert (inorder t) position (slot, (node_at m old slot).own)

  -- one more entry may be put at a place, with no memory
  pub record CanPutIn (nodes : List (Node S)) (top vacant position capacity : ℕ) (tree : Tree S)
      (free : List ℕ) : Type 0 where
    pub ranks : Ranks nodes top vacant tree free
    pub in_range : position ≤ tree_size tree
    pub few : tree_size tree < absent
    pub spare : tree_size tree < capacity

  pub record SomeCanPutIn (nodes : List (Node S)) (top vacant position capacity : ℕ) : Type 0 where
    pub tree : Tree S
    pub free : List ℕ
    pub can : CanPutIn nodes top vacant position capacity tree free

  -- an entry in a fresh slot was put at a place
  pub record PutsIn (old new : List (Node S)) (slot top vacant position : ℕ) (own : S)
      (t : Tree S) : Type 0 where
    pub tree : Tree S
    pub free : List ℕ
    pub ranks : Ranks new top vacant tree free
    pub order : inorder tree ≡ insert (inorder t) position (slot, own)
    pub fresh : times slot t ≡ 0
    pub next : slot ≤ length old
    pub full : slot ≡ length old → tree_size t ≡ length old
    pub len : length new ≡ max (length old) (slot + 1)

  pub record SomeWithEntry (nodes : List (Node S)) (top vacant position : ℕ) : Type 0 where
    pub tree : Tree S
    pub free : List ℕ
    pub ranks : Ranks nodes top vacant tree free
    pub in_range : position < tree_size tree

  -- the entry at a place was taken out, and its slot is the first vacant one
  pub record TakesOut (old new : List (Node S)) (slot top position : ℕ) (t : Tree S) : Type 0 where
    pub tree : Tree S
    pub free : List ℕ
    pub ranks : Ranks new top slot tree free
    pub entry : SplitsAt (inorder t) position (slot, (node_at m old slot).own)
    pub order : inorder tree ≡ remove (inorder t) position
    pub len : length new ≡ length old

  -- the entry at a place has another summary of its own
  pub record SetsIn (old new : List (Node S)) (top vacant position : ℕ) (own : S)
      (t : Tree S) : Type 0 where
    pub tree : Tree S
    pub free : List ℕ
    pub ranks : Ranks new top vacant tree free
    pub order : inorder tree ≡ with_own (inorder t) position own
    pub len : length new ≡ length old

module _ {S : Type 0} where
  -- the slots of the entries
  abbrev pub slots_of : List (ℕ × S) → List ℕ
  slots_of es = map (λ e. e.0) es
