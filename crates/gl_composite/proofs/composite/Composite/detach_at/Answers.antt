use Rattle.std.proofs.Common.{◌≡◌, ◌<◌, ◌∙◌, ◌+◌, ◌-◌, ◌++◌, suc, length, map, sum, take, drop, insert, remove, slice_get, slice_index_or, Some, refl, ap, sym, arith}
use Rattle.std.proofs.lemmas.List.Edits.{length-remove}
use Rattle.std.proofs.lemmas.Option.{slice_get_within, slice_get_read}
use Rattle.gl_joined.specs.Piece.{identity, deleted}
use Rattle.gl_joined.proofs.Joined.{sum_split}
use Rattle.gl_kernel.proofs.Play.{insert-remove}
use Rattle.gl_composite.specs.Kept.{Kept}
use Rattle.gl_composite.specs.Stands.{contents}
use Rattle.gl_composite.proofs.Attaching.{contents_same, can_detach, can_pass, detached_is, within_same, left_within}
use Rattle.gl_composite.proofs.composite.Composite.detach_at.Goals as goal

pub overflow_add-rest : goal.overflow_add-rest
overflow_add-rest g c =
    let lens = c.self.inside.lens.lens in
    let found = ap (λ (k : Kept). slice_get k.lens c.args.at) c.self.view_is ∙ c.requires in
    omega (arith, sum_split lens c.args.at _ found, c.before-before.ensures, c.len.ensures, c.self.invariant.within, c.self.invariant.few)

pub overflow_sub-rest : goal.overflow_sub-rest
overflow_sub-rest g c =
    let lens = c.self.inside.lens.lens in
    let found = ap (λ (k : Kept). slice_get k.lens c.args.at) c.self.view_is ∙ c.requires in
    omega (arith, sum_split lens c.args.at _ found, c.before-before.ensures, c.len.ensures, c.total.ensures)

pub tell_part-requires : goal.tell_part-requires
tell_part-requires g c =
    let lens = c.self.inside.lens.lens in
    let xs = g.S.Shelf.items c.args.input.now in
    let found : slice_get lens c.args.at ≡ Some (length xs) = ap (λ (k : Kept). slice_get k.lens c.args.at) c.self.view_is ∙ c.requires in
    can_detach c.in_ok-out.out.pieces c.before-before.result xs c.in_ok-out.ensures
    (omega (arith, sum_split lens c.args.at (length xs) found, c.before-before.ensures, c.self.invariant.within, c.self.invariant.few))

pub tell-requires : goal.tell-requires
tell-requires g c =
    let lens = c.self.inside.lens.lens in
    let xs = g.S.Shelf.items c.args.input.now in
    let rest = c.total.result - (c.before-before.result + c.len.result) in
    let found : slice_get lens c.args.at ≡ Some (length xs) = ap (λ (k : Kept). slice_get k.lens c.args.at) c.self.view_is ∙ c.requires in
    can_pass c.in_ok-out.out.pieces c.tell_part.new.out.pieces c.before-before.result xs rest c.in_ok-out.ensures c.in_ok-tell_part.ensures
    (omega (arith, sum_split lens c.args.at (length xs) found, c.before-before.ensures, c.len.ensures, c.total.ensures, c.self.invariant.within, c.self.invariant.few))

pub remove-list-requires : goal.remove-list-requires
remove-list-requires g c =
    let lens = c.self.inside.lens.lens in
    let found = ap (λ (k : Kept). slice_get k.lens c.args.at) c.self.view_is ∙ c.requires in
    omega (arith, slice_get_within lens c.args.at _ found, c.self.invariant.paired, ap length c.in_ok-reserve.ensures.items, c.reserve.new.self.ok.0)

pub invariant_of-self-2 : goal.invariant_of-self-2
invariant_of-self-2 g c =
    let lists = c.self.inside.lists.items in
    let lens = c.self.inside.lens.lens in
    let at = c.args.at in
    let found = ap (λ (k : Kept). slice_get k.lens at) c.self.view_is ∙ c.requires in
    let lists_are : c.remove-list.new.self.items ≡ remove lists at = c.remove-list.ensures.items ∙ ap (λ xs. remove xs at) c.in_ok-reserve.ensures.items in
    let lens_are : c.remove-len.new.self.lens ≡ remove lens at = c.remove-len.ensures.items ∙ ap (λ ns. remove ns at) c.in_ok-reserve-2.ensures.items in
    within_same c.self.inside.limit _ (remove lists at) _ (remove lens at) lists_are lens_are (left_within c.self.inside.limit lists lens at _ found c.self.invariant)

pub returns-clause-pieces : goal.returns-clause-pieces
returns-clause-pieces g c =
    let lens = c.self.inside.lens.lens in
    let xs = g.S.Shelf.items c.args.input.now in
    let at = c.args.at in
    let rest = c.total.result - (c.before-before.result + c.len.result) in
    let found : slice_get lens at ≡ Some (length xs) = ap (λ (k : Kept). slice_get k.lens at) c.self.view_is ∙ c.requires in
    let later : rest ≡ sum (drop (suc at) lens) = omega (arith, sum_split lens at (length xs) found, c.before-before.ensures, c.len.ensures, c.total.ensures) in
    detached_is c.in_ok-out.out.pieces c.tell_part.new.out.pieces c.tell.new.out.pieces c.before-before.result xs rest c.in_ok-out.ensures c.in_ok-tell_part.ensures c.in_ok-tell.ensures
    ∙ (ap (λ a. (identity a ++ map deleted xs) ++ identity rest) (c.before-before.ensures ∙ ap (λ (k : Kept). sum (take at k.lens)) c.self.view_is)
    ∙ ap (λ b. (identity (sum (take at c.args.self.now.lens)) ++ map deleted xs) ++ identity b) (later ∙ ap (λ (k : Kept). sum (drop (suc at) k.lens)) c.self.view_is))

pub returns-clause-undo : goal.returns-clause-undo
returns-clause-undo g c =
    let lists = c.self.inside.lists.items in
    let lens = c.self.inside.lens.lens in
    let at = c.args.at in
    let list = c.remove-list.result in
    let n = c.remove-len.result in
    let found = ap (λ (k : Kept). slice_get k.lens at) c.self.view_is ∙ c.requires in
    let low : at < length lens = slice_get_within lens at _ found in
    let low_list : at < length lists = omega (arith, low, c.self.invariant.paired) in
    let lists_are : c.remove-list.new.self.items ≡ remove lists at = c.remove-list.ensures.items ∙ ap (λ xs. remove xs at) c.in_ok-reserve.ensures.items in
    let lens_are : c.remove-len.new.self.lens ≡ remove lens at = c.remove-len.ensures.items ∙ ap (λ ns. remove ns at) c.in_ok-reserve-2.ensures.items in
    let got_list : slice_get lists at ≡ Some list =
    slice_get_read lists (length lists) at list refl low_list (c.remove-list.ensures.value ∙ ap (λ xs. slice_index_or xs at list) c.in_ok-reserve.ensures.items) in
    let got_len : slice_get lens at ≡ Some n = ap (λ ns. slice_get ns at) (sym c.in_ok-reserve-2.ensures.items) ∙ c.remove-len.ensures.item in
    let lists_back : insert c.remove-list.new.self.items at list ≡ lists = ap (λ xs. insert xs at list) lists_are ∙ insert-remove lists at list got_list in
    let lens_back : insert c.remove-len.new.self.lens at n ≡ lens = ap (λ ns. insert ns at n) lens_are ∙ insert-remove lens at n got_len in
    record {
      back = contents_same c.self.inside.limit _ lists _ lens lists_back lens_back ∙ ap contents c.self.view_is;
      can = record {
        within = within_same c.self.inside.limit _ lists _ lens lists_back lens_back c.self.invariant;
        can = (
          omega (arith, ap length lists_are, length-remove lists at low_list, low_list),
          omega (arith, c.remove-list.new.self.ok.0, c.remove-list.ensures.len, c.remove-list.ensures.capacity, c.reserve.new.self.ok.1),
          record {
            fits = omega (arith, ap length lens_back, c.in_ok-reserve-2.ensures.ok, ap length c.in_ok-reserve-2.ensures.items, c.remove-len.ensures.room);
            few = omega (arith, ap length lens_back, c.len-few.ensures.value, c.len-few.ensures.few);
          },
        );
      };
    }
