use Rattle.std.proofs.Common.{map}
use Rattle.spec_lists.specs.Piece.{normal, inverted}
use Rattle.gl_delta.proofs.Stores.{held_is, stored_is, stored_again}
use Rattle.gl_delta.proofs.InversePieces.{may_turn, inverse_stored}
use Rattle.gl_delta.proofs.pieces.Pieces.inverted.Goals as goal

pub turn-requires-clause-ordered : goal.turn-requires-clause-ordered
turn-requires-clause-ordered c =
    let i = c.self.inside in
    let ps = c.args.self.pieces in
    let h = held_is i.colours i.olds i.news i.room c.args.self c.self.invariant c.self.view_is in
    (may_turn i.colours i.olds i.news i.room ps h.stored c.requires).0

pub turn-requires-clause-room : goal.turn-requires-clause-room
turn-requires-clause-room c =
    let i = c.self.inside in
    let ps = c.args.self.pieces in
    let h = held_is i.colours i.olds i.news i.room c.args.self c.self.invariant c.self.view_is in
    (may_turn i.colours i.olds i.news i.room ps h.stored c.requires).1

pub invariant_of-result : goal.invariant_of-result
invariant_of-result c =
    let i = c.self.inside in
    let ps = c.args.self.pieces in
    let h = held_is i.colours i.olds i.news i.room c.args.self c.self.invariant c.self.view_is in
    let s = inverse_stored i.colours c.turn.new.colours i.olds i.news i.room ps h.stored c.turn.ensures.colours c.turn.ensures.room in
    stored_again c.turn.new.colours i.news i.olds i.room (normal (map inverted ps)) s

pub returns-clause-pieces : goal.returns-clause-pieces
returns-clause-pieces c =
    let i = c.self.inside in
    let ps = c.args.self.pieces in
    let h = held_is i.colours i.olds i.news i.room c.args.self c.self.invariant c.self.view_is in
    let s = inverse_stored i.colours c.turn.new.colours i.olds i.news i.room ps h.stored c.turn.ensures.colours c.turn.ensures.room in
    stored_is c.turn.new.colours i.news i.olds i.room (normal (map inverted ps)) s
