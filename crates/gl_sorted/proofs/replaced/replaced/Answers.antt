use Rattle.std.proofs.Common.{sym, subst, map}
use Rattle.spec_sorting.specs.Source.{element_at}
use Rattle.gl_sorted.specs.Replaced.{AreDeleted}
use Rattle.gl_sorted.proofs.Replacement.{deleted_only}
use Rattle.gl_sorted.proofs.replaced.replaced.Goals as goal

pub insert_all-requires-clause-start : goal.insert_all-requires-clause-start
insert_all-requires-clause-start g c =
    subst AreDeleted (sym c.in_ok-delete_all.ensures) (deleted_only (map (element_at (g.S.Shelf.items c.args.input.now)) c.args.before.now.tree.places))
