use Rattle.std.proofs.Common.{◌∙◌, ◌<◌, suc, ap, sym, subst, arith}
use Rattle.std.specs.Prelude.{Ok, OnOk, OnErr}
use Rattle.gl_graph.specs.Causes.{cause_of}
use Rattle.gl_graph.specs.Spread.{IsTriedAt, IsSpread, HaveBack}
use Rattle.gl_graph.proofs.Steps.{spread_order, stop_reason, stop_back, none_more, silent_more, node_within, node_listed, stand_at, position_few, told_ok, told_refused, told_back}
use Rattle.gl_graph.proofs.spread.spread_at.Goals as goal

pub turn_at-requires : goal.turn_at-requires
turn_at-requires g c = spread_order c.requires.within c.requires.spreading.is

pub returns-in-Err-clause-refused : goal.returns-in-Err-clause-refused
returns-in-Err-clause-refused g c = λ old h.
    let others = c.turn_at.new.nodes.items in
    let tried = subst (IsTriedAt c.args.rollback.now c.args.positions.now (cause_of c.args.cause.now) c.args.deltas.now c.args.position c.args.nodes.now.items others) c.in-Err.is c.turn_at.ensures in
    stop_reason others c.in-Err.why tried h

pub returns-in-Err-clause-back : goal.returns-in-Err-clause-back
returns-in-Err-clause-back g c = λ old h.
    let others = c.turn_at.new.nodes.items in
    let tried = subst (IsTriedAt c.args.rollback.now c.args.positions.now (cause_of c.args.cause.now) c.args.deltas.now c.args.position c.args.nodes.now.items others) c.in-Err.is c.turn_at.ensures in
    stop_back others c.in-Err.why c.requires.within tried
    (subst (IsSpread c.args.limit old c.args.positions.now (cause_of c.args.cause.now) c.args.rollback.now c.args.position c.args.nodes.now.items c.args.deltas.now) (sym c.reserve.ensures.items) h)

pub returns-in-Ok-Stays-clause-spread : goal.returns-in-Ok-Stays-clause-spread
returns-in-Ok-Stays-clause-spread g c = λ old h.
    let others = c.turn_at.new.nodes.items in
    let tried = subst (IsTriedAt c.args.rollback.now c.args.positions.now (cause_of c.args.cause.now) c.args.deltas.now c.args.position c.args.nodes.now.items others) (c.in-Ok-Stays.is ∙ ap Ok c.in-Ok-Stays.field-0-is) c.turn_at.ensures in
    none_more others c.requires.within tried
    (subst (IsSpread c.args.limit old c.args.positions.now (cause_of c.args.cause.now) c.args.rollback.now c.args.position c.args.nodes.now.items c.args.deltas.now) (sym c.reserve.ensures.items) h)

pub overflow_cast-position : goal.overflow_cast-position
overflow_cast-position g c =
    let few : c.args.position < 4294967296 = position_few c.requires.within c.requires.spreading.is in
    omega (arith, few)

pub overflow_cast-position-in-Ok-Told : goal.overflow_cast-position-in-Ok-Told
overflow_cast-position-in-Ok-Told g c =
    let few : c.args.position < 4294967296 = position_few c.requires.within c.requires.spreading.is in
    omega (arith, few)

pub returns-in-Ok-Silent-clause-spread : goal.returns-in-Ok-Silent-clause-spread
returns-in-Ok-Silent-clause-spread g c = λ old h.
    let others = c.turn_at.new.nodes.items in
    let undo = c.in-Ok-Silent.undo in
    let tried = subst (IsTriedAt c.args.rollback.now c.args.positions.now (cause_of c.args.cause.now) c.args.deltas.now c.args.position c.args.nodes.now.items others) (c.in-Ok-Silent.is ∙ ap Ok c.in-Ok-Silent.field-0-is) c.turn_at.ensures in
    subst (IsSpread c.args.limit old c.args.positions.now (cause_of c.args.cause.now) c.args.rollback.now (suc c.args.position) others c.args.deltas.now) (sym c.push_reserved.ensures.items)
    (silent_more others undo c.requires.within tried
    (subst (IsSpread c.args.limit old c.args.positions.now (cause_of c.args.cause.now) c.args.rollback.now c.args.position c.args.nodes.now.items c.args.deltas.now) (sym c.reserve.ensures.items) h))

pub further-requires-clause-within : goal.further-requires-clause-within
further-requires-clause-within g c = node_within c.turn_at.new.nodes.items c.turn_at.result c.requires.within c.turn_at.ensures

pub further-requires-clause-stand : goal.further-requires-clause-stand
further-requires-clause-stand g c =
    let others = c.turn_at.new.nodes.items in
    let tried = subst (IsTriedAt c.args.rollback.now c.args.positions.now (cause_of c.args.cause.now) c.args.deltas.now c.args.position c.args.nodes.now.items others) (c.in-Ok-Told.is ∙ ap Ok c.in-Ok-Told.field-0-is) c.turn_at.ensures in
    stand_at others c.in-Ok-Told.delta c.in-Ok-Told.undo c.requires.within tried c.requires.spreading.is

pub further-requires-clause-listed : goal.further-requires-clause-listed
further-requires-clause-listed g c = node_listed c.turn_at.new.nodes.items c.turn_at.result c.turn_at.ensures c.requires.spreading.is

pub returns-in-Ok-Told-clause-spread : goal.returns-in-Ok-Told-clause-spread
returns-in-Ok-Told-clause-spread g c = λ old h.
    let others = c.turn_at.new.nodes.items in
    let told = c.in-Ok-Told in
    let tried = subst (IsTriedAt c.args.rollback.now c.args.positions.now (cause_of c.args.cause.now) c.args.deltas.now c.args.position c.args.nodes.now.items others) (c.in-Ok-Told.is ∙ ap Ok c.in-Ok-Told.field-0-is) c.turn_at.ensures in
    subst (λ ms. OnOk c.further.result (IsSpread c.args.limit old c.args.positions.now (cause_of c.args.cause.now) c.args.rollback.now (suc c.args.position) others c.further.new.deltas ms)) (sym c.push_reserved-in-Ok-Told.ensures.items)
    (told_ok others c.further.new.deltas told.delta told.undo c.further.result c.requires.within tried c.further.ensures.put c.further.ensures.short
    (subst (IsSpread c.args.limit old c.args.positions.now (cause_of c.args.cause.now) c.args.rollback.now c.args.position c.args.nodes.now.items c.args.deltas.now) (sym c.reserve.ensures.items) h))

pub returns-in-Ok-Told-clause-refused : goal.returns-in-Ok-Told-clause-refused
returns-in-Ok-Told-clause-refused g c = λ old h.
    let others = c.turn_at.new.nodes.items in
    let told = c.in-Ok-Told in
    let tried = subst (IsTriedAt c.args.rollback.now c.args.positions.now (cause_of c.args.cause.now) c.args.deltas.now c.args.position c.args.nodes.now.items others) (c.in-Ok-Told.is ∙ ap Ok c.in-Ok-Told.field-0-is) c.turn_at.ensures in
    told_refused others told.delta told.undo c.further.result tried c.further.ensures.over h

pub returns-in-Ok-Told-clause-back : goal.returns-in-Ok-Told-clause-back
returns-in-Ok-Told-clause-back g c = λ old h.
    let others = c.turn_at.new.nodes.items in
    let told = c.in-Ok-Told in
    let tried = subst (IsTriedAt c.args.rollback.now c.args.positions.now (cause_of c.args.cause.now) c.args.deltas.now c.args.position c.args.nodes.now.items others) (c.in-Ok-Told.is ∙ ap Ok c.in-Ok-Told.field-0-is) c.turn_at.ensures in
    subst (λ ms. OnErr c.further.result (HaveBack old others ms)) (sym c.push_reserved-in-Ok-Told.ensures.items)
    (told_back others told.delta told.undo c.further.result c.requires.within tried
    (subst (IsSpread c.args.limit old c.args.positions.now (cause_of c.args.cause.now) c.args.rollback.now c.args.position c.args.nodes.now.items c.args.deltas.now) (sym c.reserve.ensures.items) h))
