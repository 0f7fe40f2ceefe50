-- What a grouping tells of the touched keys of a change.
use Rattle.std.specs.Prelude.{◌≡◌, ◌≤◌, ◌<◌, ◌++◌, ℕ, List, length, map, drop, Some, None}
use Rattle.spec_sorting.specs.Tree.{Tree}
use Rattle.spec_sorting.specs.Piece.{normal}
use Rattle.spec_sorting.specs.Delta.{Delta}
use Rattle.spec_sorting.specs.Leads.{IsDelta}
use Rattle.spec_classes.specs.Grouping.{grouping_view}
use Rattle.spec_classes.specs.Slots.{told_by}
use Rattle.spec_classes.specs.Told.{group_piece}
use Rattle.spec_classes.specs.declared.OldClass.{OldClass}
use Rattle.spec_classes.specs.declared.NewClass.{NewClass}
use Rattle.spec_classes.specs.declared.Slot.{Slot}
use Rattle.gl_kernel.specs.declared.plan.Plan.{Plan}
use Rattle.gl_kernel.specs.Fates.{fate, edits_of}
use Rattle.gl_classes.specs.Sorting.{order_cmp}
use Rattle.gl_classes.specs.declared.telling.Reached.{Reached}
use Rattle.gl_classes.specs.InTurn.{AreInTurn}
use Rattle.gl_classes.specs.Kept.{Kept}
use Rattle.gl_classes.specs.Stands.{StandsFor}

-- the groups that a list has by the order of its classes
abbrev pub groups_of : Kept → List Tree → List Tree
groups_of k ys = grouping_view (order_cmp k.list.order) ys

-- a value as it is
abbrev pub itself : Tree → Tree
itself v = v

-- what is told of touched keys, where these were the groups and these are
abbrev pub told_groups : List Tree → List Tree → List Slot → Delta
told_groups olds news ts = told_by (group_piece olds news) (length olds) 0 0 ts

-- the classes of a touched key are among those of the old list and of the new one, and it has one
pub record IsAmong (olds news : List Tree) (t : Slot) : Type 0 where
  pub some : t.old ≡ None → t.new ≡ None → ⊥
  pub old_in : (c : OldClass) → t.old ≡ Some c → c.index < length olds
  pub new_in : (e : NewClass) → t.new ≡ Some e → e.index < length news

-- the classes are those of the new list, and what the touched keys tell in turn leads to its groups
pub record CanFollow (k : Kept) (olds ys : List Tree) (ts : List Slot) : Type 0 where
  pub stands : StandsFor k ys
  pub turn : AreInTurn (length olds) (length (groups_of k ys)) 0 0 ts
  pub leads : IsDelta (told_groups olds (groups_of k ys) ts) olds (groups_of k ys)
  pub few_olds : length olds ≤ 2147483647
  pub few_news : length (groups_of k ys) ≤ 2147483647

-- The first touched keys were told, and of so many classes of either list: what was told and what is left are the whole, and
-- so with the edits of the groups.
pub record IsToldTo (olds news : List Tree) (ts : List Slot) (n : ℕ) (at : Reached)
    (plan : Plan Tree) : Type 0 where
  pub told : normal
      (plan.out.pieces
      ++ told_by (group_piece olds news) (length olds) at.olds at.news (drop n ts))
      ≡ normal (told_groups olds news ts)
  pub edits : plan.log.items
      ++ edits_of plan.position (map (fate itself) (told_by (group_piece olds news) (length olds) at.olds at.news (drop n ts)))
      ≡ edits_of 0 (map (fate itself) (told_groups olds news ts))
  pub position : plan.position ≡ at.olds
  pub turn : AreInTurn (length olds) (length news) at.olds at.news (drop n ts)
