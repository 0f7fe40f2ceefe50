use Rattle.std.proofs.Common.{◌∙◌, ◌++◌, ◌∷◌, [], sym, subst}
use Rattle.std.specs.Prelude.{List}
use Rattle.spec_runs.proofs.Steps.{still_state}
use Rattle.spec_runs.proofs.Suits.{suits_list}
use Rattle.gl_graph.specs.declared.graph.GraphUndo.{GraphUndo}
use Rattle.gl_graph.specs.Graph.{Kept, state_of}
use Rattle.gl_graph.proofs.Progress.{contents_same_state}
use Rattle.gl_world.specs.Back.{GoesOn}
use Rattle.gl_world.proofs.Backs.{goes_like, goes_more, goes_back}
use Rattle.gl_world.proofs.Commands.{unmoved_by, deltas_still, deltas_joined, are_meeting}
use Rattle.gl_world.proofs.Suits.{graph_suits}
use Rattle.gl_world.proofs.command.change.Goals as goal

pub wave-requires-clause-suits : goal.wave-requires-clause-suits
wave-requires-clause-suits g c =
    graph_suits c.args.graph.now c.args.command.now c.requires.suits c.requires.change

pub returns-in_err-keep-in-Ok-clause-back : goal.returns-in_err-keep-in-Ok-clause-back
returns-in_err-keep-in-Ok-clause-back g c =
    let old = c.args.graph.now in
    let undos = c.args.undos.now.items in
    let e = c.in-Ok.ensures in
    let k = c.in_err-keep-in-Ok.ensures in
    let P : List GraphUndo → Type 0 = λ us. GoesOn undos old us c.keep.new.graph in
    subst P (sym k.others) (goes_back undos c.in-Ok.field-0.undo old c.wave.new.self c.keep.new.graph e.undo k.back k.room)

pub join_all-requires-clause-meet : goal.join_all-requires-clause-meet
join_all-requires-clause-meet g c =
    let old = c.args.graph.now in
    let e = c.in-Ok.ensures in
    are_meeting old.limit (state_of old) c.args.command.now c.args.deltas.now c.in-Ok.field-0.deltas
    c.requires.sound
    (suits_list (state_of old) c.args.command.now c.requires.suits) e.moves c.requires.deltas e.told

pub returns-in_err-join_all-in-Ok-clause-back : goal.returns-in_err-join_all-in-Ok-clause-back
returns-in_err-join_all-in-Ok-clause-back g c =
    let old = c.args.graph.now in
    let undos = c.args.undos.now.items in
    let e = c.in-Ok.ensures in
    let k = c.in_ok-keep-in-Ok.ensures in
    let P : List GraphUndo → Type 0 = λ us. GoesOn undos old us c.keep.new.graph in
    let Q : Kept → Type 0 = λ now. GoesOn undos old (undos ++ c.in-Ok.field-0.undo ∷ []) now in
    subst P (sym k.kept) (subst Q (sym k.same) (goes_more undos c.in-Ok.field-0.undo old c.wave.new.self c.law.ensures
    e.undo))

pub returns-in_ok-join_all-in-Ok-clause-back : goal.returns-in_ok-join_all-in-Ok-clause-back
returns-in_ok-join_all-in-Ok-clause-back g c =
    let old = c.args.graph.now in
    let undos = c.args.undos.now.items in
    let e = c.in-Ok.ensures in
    let k = c.in_ok-keep-in-Ok.ensures in
    let P : List GraphUndo → Type 0 = λ us. GoesOn undos old us c.keep.new.graph in
    let Q : Kept → Type 0 = λ now. GoesOn undos old (undos ++ c.in-Ok.field-0.undo ∷ []) now in
    subst P (sym k.kept) (subst Q (sym k.same) (goes_more undos c.in-Ok.field-0.undo old c.wave.new.self c.law.ensures
    e.undo))

pub returns-in_ok-join_all-in-Ok-clause-told : goal.returns-in_ok-join_all-in-Ok-clause-told
returns-in_ok-join_all-in-Ok-clause-told g c =
    let old = c.args.graph.now in
    let e = c.in-Ok.ensures in
    deltas_joined old.limit (state_of old) c.args.command.now c.args.deltas.now c.in-Ok.field-0.deltas
    c.join_all.new.sofar c.requires.sound
    (suits_list (state_of old) c.args.command.now c.requires.suits) e.moves e.told c.in_ok-join_all-in-Ok.ensures

pub returns-in-Some-clause-back : goal.returns-in-Some-clause-back
returns-in-Some-clause-back g c =
    let e = c.in-Err.ensures in
    goes_like c.args.undos.now.items c.args.graph.now c.wave.new.self e.err e.room

pub returns-in-Some-clause-state : goal.returns-in-Some-clause-state
returns-in-Some-clause-state g c =
    let old = c.args.graph.now in
    let e = c.in-Err.ensures in
    contents_same_state c.wave.new.self old e.err
    ∙ sym (still_state old.limit (state_of old) c.args.command.now c.in-Some.reply
    (unmoved_by old.limit (state_of old) c.args.command.now c.in-Err.refused c.in-Some.reply e.refused
    (sym c.reply_to.ensures ∙ c.in-Some.is)))

pub returns-in-Some-clause-told : goal.returns-in-Some-clause-told
returns-in-Some-clause-told g c =
    let old = c.args.graph.now in
    deltas_still old.limit (state_of old) c.args.command.now c.in-Some.reply c.args.deltas.now
    (unmoved_by old.limit (state_of old) c.args.command.now c.in-Err.refused c.in-Some.reply c.in-Err.ensures.refused
    (sym c.reply_to.ensures ∙ c.in-Some.is))

pub returns-in-None-clause-back : goal.returns-in-None-clause-back
returns-in-None-clause-back g c =
    let e = c.in-Err.ensures in
    goes_like c.args.undos.now.items c.args.graph.now c.wave.new.self e.err e.room
