use Rattle.std.proofs.Common.{◌≡◌, ◌∙◌, ap, sym, arith}
use Rattle.gl_delta.specs.Marks.{kind_of}
use Rattle.gl_delta.specs.Store.{kind_by, told_count}
use Rattle.gl_delta.specs.declared.mark.Side.TheVariants.{Old, New}
use Rattle.gl_delta.specs.declared.mark.Kind.TheVariants as kind
use Rattle.gl_delta.proofs.Stores.{held_is}
use Rattle.gl_delta.proofs.Puts.{there_is, updated_cell, deleted_cell, inserted_cell}
use Rattle.gl_delta.proofs.pieces.Pieces.cell.Goals as goal

pub at-requires : goal.at-requires
at-requires c =
    let i = c.self.inside in
    let ps = c.args.self.now.pieces in
    let h = held_is i.colours i.olds i.news i.room c.args.self.now c.self.invariant c.self.view_is in
    let t = there_is i.colours i.olds i.news i.room ps c.args.position c.rank-old.result c.rank-new.result h.stored c.requires.within c.rank-old.ensures c.rank-new.ensures in
    let kind_is : kind_of t.piece ≡ kind.Updated = sym t.kind_is ∙ (ap kind_by (sym c.colour.ensures) ∙ (sym c.of_colour.ensures ∙ c.in-Updated.is)) in
    let n : told_count Old (kind_of t.piece) ≡ 1 = ap (told_count Old) kind_is in
    omega (arith, t.old, n)

pub at-requires-in-Updated : goal.at-requires-in-Updated
at-requires-in-Updated c =
    let i = c.self.inside in
    let ps = c.args.self.now.pieces in
    let h = held_is i.colours i.olds i.news i.room c.args.self.now c.self.invariant c.self.view_is in
    let t = there_is i.colours i.olds i.news i.room ps c.args.position c.rank-old.result c.rank-new.result h.stored c.requires.within c.rank-old.ensures c.rank-new.ensures in
    let kind_is : kind_of t.piece ≡ kind.Updated = sym t.kind_is ∙ (ap kind_by (sym c.colour.ensures) ∙ (sym c.of_colour.ensures ∙ c.in-Updated.is)) in
    let n : told_count New (kind_of t.piece) ≡ 1 = ap (told_count New) kind_is in
    omega (arith, t.new, n)

pub at-requires-in-Deleted : goal.at-requires-in-Deleted
at-requires-in-Deleted c =
    let i = c.self.inside in
    let ps = c.args.self.now.pieces in
    let h = held_is i.colours i.olds i.news i.room c.args.self.now c.self.invariant c.self.view_is in
    let t = there_is i.colours i.olds i.news i.room ps c.args.position c.rank-old.result c.rank-new.result h.stored c.requires.within c.rank-old.ensures c.rank-new.ensures in
    let kind_is : kind_of t.piece ≡ kind.Deleted = sym t.kind_is ∙ (ap kind_by (sym c.colour.ensures) ∙ (sym c.of_colour.ensures ∙ c.in-Deleted.is)) in
    let n : told_count Old (kind_of t.piece) ≡ 1 = ap (told_count Old) kind_is in
    omega (arith, t.old, n)

pub at-requires-in-Inserted : goal.at-requires-in-Inserted
at-requires-in-Inserted c =
    let i = c.self.inside in
    let ps = c.args.self.now.pieces in
    let h = held_is i.colours i.olds i.news i.room c.args.self.now c.self.invariant c.self.view_is in
    let t = there_is i.colours i.olds i.news i.room ps c.args.position c.rank-old.result c.rank-new.result h.stored c.requires.within c.rank-old.ensures c.rank-new.ensures in
    let kind_is : kind_of t.piece ≡ kind.Inserted = sym t.kind_is ∙ (ap kind_by (sym c.colour.ensures) ∙ (sym c.of_colour.ensures ∙ c.in-Inserted.is)) in
    let n : told_count New (kind_of t.piece) ≡ 1 = ap (told_count New) kind_is in
    omega (arith, t.new, n)

pub returns-in-Updated : goal.returns-in-Updated
returns-in-Updated c =
    let i = c.self.inside in
    let ps = c.args.self.now.pieces in
    let h = held_is i.colours i.olds i.news i.room c.args.self.now c.self.invariant c.self.view_is in
    let t = there_is i.colours i.olds i.news i.room ps c.args.position c.rank-old.result c.rank-new.result h.stored c.requires.within c.rank-old.ensures c.rank-new.ensures in
    let kind_is : kind_of t.piece ≡ kind.Updated = sym t.kind_is ∙ (ap kind_by (sym c.colour.ensures) ∙ (sym c.of_colour.ensures ∙ c.in-Updated.is)) in
    updated_cell i.colours i.olds i.news i.room ps c.args.position c.rank-old.result c.rank-new.result c.at.result.now c.at-in-Updated.result.now h.stored t kind_is c.at.ensures c.at-in-Updated.ensures

pub returns-in-Deleted : goal.returns-in-Deleted
returns-in-Deleted c =
    let i = c.self.inside in
    let ps = c.args.self.now.pieces in
    let h = held_is i.colours i.olds i.news i.room c.args.self.now c.self.invariant c.self.view_is in
    let t = there_is i.colours i.olds i.news i.room ps c.args.position c.rank-old.result c.rank-new.result h.stored c.requires.within c.rank-old.ensures c.rank-new.ensures in
    let kind_is : kind_of t.piece ≡ kind.Deleted = sym t.kind_is ∙ (ap kind_by (sym c.colour.ensures) ∙ (sym c.of_colour.ensures ∙ c.in-Deleted.is)) in
    deleted_cell i.colours i.olds i.news i.room ps c.args.position c.rank-old.result c.rank-new.result c.at-in-Deleted.result.now h.stored t kind_is c.at-in-Deleted.ensures

pub returns-in-Inserted : goal.returns-in-Inserted
returns-in-Inserted c =
    let i = c.self.inside in
    let ps = c.args.self.now.pieces in
    let h = held_is i.colours i.olds i.news i.room c.args.self.now c.self.invariant c.self.view_is in
    let t = there_is i.colours i.olds i.news i.room ps c.args.position c.rank-old.result c.rank-new.result h.stored c.requires.within c.rank-old.ensures c.rank-new.ensures in
    let kind_is : kind_of t.piece ≡ kind.Inserted = sym t.kind_is ∙ (ap kind_by (sym c.colour.ensures) ∙ (sym c.of_colour.ensures ∙ c.in-Inserted.is)) in
    inserted_cell i.colours i.olds i.news i.room ps c.args.position c.rank-old.result c.rank-new.result c.at-in-Inserted.result.now h.stored t kind_is c.at-in-Inserted.ensures
