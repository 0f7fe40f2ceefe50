use Rattle.std.proofs.Common.{◌∙◌, ap, insert}
use Rattle.gl_kernel.specs.Values.{Stored, unnamed}
use Rattle.gl_kernel.proofs.Names.{unnamed-insert}
use Rattle.gl_kernel.proofs.list.ValueListEditable.insert.Goals as goal

pub returns-clause-items : goal.returns-clause-items
returns-clause-items c =
    let at = c.args.at in
    let item = c.args.item in
    ap unnamed c.insert_reserved.ensures.entries
    ∙ (unnamed-insert c.self.inside.list.entries at c.insert_reserved.result item ∙ ap (λ (s : Stored). insert s.values at item) c.self.view_is)
