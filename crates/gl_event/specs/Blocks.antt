-- The changes of an event taken in blocks of one kind.
use Rattle.std.specs.Prelude.{◌≡◌, ◌==◌, ◌&&◌, ℕ, suc, List, [], ◌∷◌, Bool, true, false, Option, Some, None, if◌then◌else◌, pos, refl}
use Rattle.spec_value.specs.Tree.{num}
use Rattle.spec_lists.specs.Changes.{Change, insertion, delete, update, changes}
use Rattle.spec_lists.specs.Rows.{two_for_one}
use Rattle.gl_event.specs.declared.block.ChangeKind.{ChangeKind}
use Rattle.gl_event.specs.declared.block.ChangeKind.TheVariants.{Delete, Insert, Update}
use Rattle.gl_event.specs.declared.block.Block.{Block}

abbrev pub is_kind : ChangeKind → ChangeKind → Bool
is_kind Delete Delete = true
is_kind Delete Insert = false
is_kind Delete Update = false
is_kind Insert Delete = false
is_kind Insert Insert = true
is_kind Insert Update = false
is_kind Update Delete = false
is_kind Update Insert = false
is_kind Update Update = true

abbrev pub kind_of : Change → ChangeKind
kind_of (delete at v) = Delete
kind_of (insertion at w) = Insert
kind_of (update at v w) = Update

abbrev pub index_of : Change → ℕ
index_of (delete at v) = at
index_of (insertion at w) = at
index_of (update at v w) = at

-- the index right after a change: what was after a deleted element has its index
abbrev pub index_after : Change → ℕ
index_after (delete at v) = at
index_after (insertion at w) = suc at
index_after (update at v w) = suc at

-- how many changes go on: of that kind, the first at an index and each at the index right after the one before
abbrev pub run : ChangeKind → ℕ → List Change → ℕ
run kind at [] = 0
run kind at (c ∷ cs) =
    if is_kind (kind_of c) kind && (index_of c == at) then suc (run kind (index_after c) cs) else 0

-- the index right after those
abbrev pub run_end : ChangeKind → ℕ → List Change → ℕ
run_end kind at [] = at
run_end kind at (c ∷ cs) =
    if is_kind (kind_of c) kind && (index_of c == at) then run_end kind (index_after c) cs else at

-- the first change and those that go on from it
abbrev pub first_block : List Change → Option Block
first_block [] = None
first_block (c ∷ cs) =
    Some (record
    { kind = kind_of c; start = index_of c; count = suc (run (kind_of c) (index_after c) cs) })

-- how many changes are in a block, if there is one
abbrev pub block_len : Option Block → ℕ
block_len None = 0
block_len (Some b) = b.count

-- two deletions at one index are a block, and the insertion after them is another
two_deletions : first_block (changes two_for_one)
    ≡ Some (record { kind = Delete; start = 0; count = 2 })
two_deletions = refl

one_insertion : first_block (insertion 0 (num (pos 1)) ∷ [])
    ≡ Some (record { kind = Insert; start = 0; count = 1 })
one_insertion = refl
