use Rattle.std.proofs.Common.{◌≡◌, ◌≤◌, ◌∙◌, ◌+◌, ◌++◌, ◌∷◌, [], length, map, sum, insert, remove, ap, arith}
use Rattle.std.proofs.lemmas.List.{length-append}
use Rattle.gl_joined.specs.Piece.{identity, inserted}
use Rattle.gl_kernel.proofs.Play.{remove-insert}
use Rattle.gl_composite.specs.Kept.{Kept}
use Rattle.gl_composite.specs.Stands.{contents}
use Rattle.gl_composite.proofs.Attaching.{contents_same, remove_last, can_attach, attached_is, within_same}
use Rattle.gl_composite.proofs.composite.Composite.attach_within.Goals as goal

pub tell_part-requires : goal.tell_part-requires
tell_part-requires g c =
    let few : c.total.result + length (g.S.Shelf.items c.args.input.now) ≤ 2147483647 =
    omega (arith, c.requires, c.total.ensures, ap (λ (k : Kept). sum k.lens) c.self.view_is, ap (λ (k : Kept). k.limit) c.self.view_is, c.self.invariant.few) in
    can_attach c.in_ok-out.out.pieces c.total.result (g.S.Shelf.items c.args.input.now) c.in_ok-out.ensures few

pub returns-clause-pieces : goal.returns-clause-pieces
returns-clause-pieces g c =
    let xs = g.S.Shelf.items c.args.input.now in
    attached_is c.in_ok-out.out.pieces c.tell_part.new.out.pieces c.total.result xs c.in_ok-out.ensures c.in_ok-tell_part.ensures
    ∙ ap (λ n. identity n ++ map inserted xs) (c.total.ensures ∙ ap (λ (k : Kept). sum k.lens) c.self.view_is)

pub returns-clause-undo : goal.returns-clause-undo
returns-clause-undo g c =
    let lists = c.self.inside.lists.items in
    let lens = c.self.inside.lens.lens in
    let members = c.len-members.result in
    let n = c.len.result in
    let list = c.args.list in
    let at : members ≡ length lists = omega (arith, c.len-members.ensures.value, c.self.invariant.paired) in
    let pushed : c.push_reserved.new.self.items ≡ lists ++ list ∷ [] = c.push_reserved.ensures.items ∙ ap (λ xs. xs ++ list ∷ []) c.in_ok-reserve.ensures.items in
    let lists_are : remove c.push_reserved.new.self.items members ≡ lists = ap (λ xs. remove xs members) pushed ∙ remove_last lists members list at in
    let put : c.insert.new.self.lens ≡ insert lens members n = c.insert.ensures.items ∙ ap (λ ns. insert ns members n) c.in_ok-reserve-2.ensures.items in
    let lens_are : remove c.insert.new.self.lens members ≡ lens =
    ap (λ ns. remove ns members) put ∙ remove-insert lens members n (omega (arith, c.len-members.ensures.value)) in
    record {
      back = contents_same c.self.inside.limit _ lists _ lens lists_are lens_are ∙ ap contents c.self.view_is;
      can = record {
        within = within_same c.self.inside.limit _ lists _ lens lists_are lens_are c.self.invariant;
        can = omega (arith, at, ap length pushed, length-append lists (list ∷ []));
      };
    }
