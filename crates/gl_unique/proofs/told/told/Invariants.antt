use Rattle.std.proofs.Common.{◌≡◌, ◌≤◌, length, drop}
use Rattle.spec_sorting.specs.Leads.{undone}
use Rattle.spec_classes.specs.Told.{unique_piece}
use Rattle.gl_unique.proofs.Steps.{IsTold}
use Rattle.gl_unique.proofs.told.told.Given as goal

abbrev pub invariant-loop-index : goal.invariant-loop-index
invariant-loop-index g l = record {
  within : l.index ≤ length l.slots;
  end : l.index-end ≡ length l.slots;
  told : IsTold (unique_piece (undone l.d.pieces (g.S.Shelf.items l.input)) (g.S.Shelf.items l.input)) l.d.pieces (g.S.Shelf.items l.input) l.olds l.slots l.out.pieces l.at
      (drop l.index l.slots);
}
