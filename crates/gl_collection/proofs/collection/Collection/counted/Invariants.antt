use Rattle.std.proofs.Common.{◌≡◌, ◌≤◌, length, map, take}
use Rattle.spec_lang.specs.Kids.{kids}
use Rattle.gl_collection.specs.Told.{child_len}
use Rattle.gl_collection.proofs.collection.Collection.counted.Given as goal

-- the numbers so far, and room for those of all elements
abbrev pub invariant-elements : goal.invariant-elements
invariant-elements g l = record {
  lens : l.lens.lens ≡ map (child_len (kids l.model)) (take l.position (g.S.Shelf.items l.input));
  room : length (g.S.Shelf.items l.input) ≤ l.lens.room;
}
