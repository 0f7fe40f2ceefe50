use Rattle.std.proofs.Common.{◌∙◌, arith}
use Rattle.gl_unique.proofs.Laws.{can_tell_touched, told_touched}
use Rattle.gl_unique.proofs.unique.Unique.advance.Goals as goal

pub told-requires : goal.told-requires
told-requires g c =
    can_tell_touched c.self.inside.classes c.args.self.now c.self.view_is c.args.d.now.pieces (g.S.Shelf.items c.args.input.now) c.requires.leads c.requires.stands
    c.len-olds.result c.len-olds.ensures.classes c.as_slice.result.now (c.as_slice.ensures.value ∙ c.in_ok-slots.ensures.slots)
    (omega (arith, c.old_len-old.ensures.value, c.old_len-old.ensures.few)) (omega (arith, c.new_len-new.ensures.value, c.new_len-new.ensures.few))

pub returns-in-Ok-clause-pieces : goal.returns-in-Ok-clause-pieces
returns-in-Ok-clause-pieces g c =
    told_touched c.self.inside.classes c.args.self.now c.self.view_is c.args.d.now.pieces (g.S.Shelf.items c.args.input.now) c.requires.leads c.requires.stands
    c.len-olds.result c.len-olds.ensures.classes c.as_slice.result.now (c.as_slice.ensures.value ∙ c.in_ok-slots.ensures.slots) c.in-Ok.out.pieces c.in-Ok.ensures
