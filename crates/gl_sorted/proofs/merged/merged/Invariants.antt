use Rattle.std.proofs.Common.{◌≡◌, ◌+◌, ◌-◌, ◌++◌, length}
use Rattle.spec_sorting.specs.Piece.{normal}
use Rattle.spec_sorting.specs.Leads.{undone}
use Rattle.gl_sorted.specs.Merging.{merged_from}
use Rattle.gl_sorted.specs.Next.{IsLeft, rest_of}
use Rattle.gl_sorted.proofs.merged.merged.Given as goal

abbrev pub invariant-loop-told : goal.invariant-loop-told
invariant-loop-told g l = record {
  left : IsLeft (undone l.d.pieces (g.S.Shelf.items l.input)) (g.S.Shelf.items l.input) l.gone l.came l.out.pieces l.told;
  told : normal (l.out.pieces ++ rest_of (undone l.d.pieces (g.S.Shelf.items l.input)) (g.S.Shelf.items l.input) l.gone l.came l.told)
      ≡ normal (merged_from (undone l.d.pieces (g.S.Shelf.items l.input)) (g.S.Shelf.items l.input) l.gone 0 l.gone 0 l.came);
}

abbrev pub decreases-loop-told : goal.decreases-loop-told
decreases-loop-told g l = length l.gone + length l.came - (l.told.gone + l.told.came)
