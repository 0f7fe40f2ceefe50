use Rattle.std.proofs.Common.{◌≡◌, ◌*◌, ◌≤◌, length, take}
use Rattle.spec_lang.specs.Kids.{kids}
use Rattle.spec_views.specs.Collection.{collection_view}
use Rattle.gl_collection.proofs.count.total.Given as goal

-- the children of the elements so far
abbrev pub invariant-elements : goal.invariant-elements
invariant-elements g l = record {
  total : l.total ≡ length (collection_view (kids l.model) (take l.position (g.S.Shelf.items l.input)));
  few : l.total ≤ l.position * 18446744073709551616;
}
