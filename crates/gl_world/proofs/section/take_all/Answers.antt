use Rattle.std.proofs.Common.{◌∙◌, take, sym}
use Rattle.spec_runs.specs.Kinds.{IsFor}
use Rattle.gl_graph.specs.Graph.{state_of}
use Rattle.gl_world.proofs.Sections.{taken_none, taken_more, taken_reach, taken_for, taken_long, taken_sound, all_at, all_before, next_taken}
use Rattle.gl_world.proofs.section.take_all.Goals as goal

pub loop-command-init : goal.loop-command-init
loop-command-init g c =
    taken_none c.args.graph.now c.new.result c.in_ok-make.field-0 c.new-2.result.items c.args.lists c.new.ensures
    c.in_ok-make.ensures c.new-2.ensures.items c.requires.lists

pub take_next-requires-clause-lists : goal.take_next-requires-clause-lists
take_next-requires-clause-lists g c =
    let l = c.loop-command in
    c.requires.lists ∙ sym (taken_long c.args.graph.now (take l.command-index c.args.commands.now) l.graph
    l.taken.replies l.taken.deltas l.taken.undos.items l.invariant)

pub take_next-requires-clause-suits : goal.take_next-requires-clause-suits
take_next-requires-clause-suits g c =
    let l = c.loop-command in
    let start = c.args.graph.now in
    taken_for start (take l.command-index c.args.commands.now) c.command-item.result l.graph l.taken.replies
    l.taken.deltas l.taken.undos.items l.invariant
    (all_at (λ d. IsFor d (state_of start)) c.args.commands.now l.command-index c.command-item.result c.requires.suits
    c.loop-command-test.true c.command-item.is)

pub take_next-requires-clause-sound : goal.take_next-requires-clause-sound
take_next-requires-clause-sound g c =
    let l = c.loop-command in
    let start = c.args.graph.now in
    taken_sound start (take l.command-index c.args.commands.now) l.graph l.taken.replies l.taken.deltas
    l.taken.undos.items c.requires.sound
    (all_before (λ d. IsFor d (state_of start)) c.args.commands.now l.command-index c.requires.suits) l.invariant

pub take_next-requires-clause-deltas : goal.take_next-requires-clause-deltas
take_next-requires-clause-deltas g c =
    let l = c.loop-command in
    let start = c.args.graph.now in
    taken_reach start (take l.command-index c.args.commands.now) l.graph l.taken.replies l.taken.deltas
    l.taken.undos.items c.requires.sound
    (all_before (λ d. IsFor d (state_of start)) c.args.commands.now l.command-index c.requires.suits) l.invariant

pub loop-command-preserved : goal.loop-command-preserved
loop-command-preserved g c =
    let l = c.loop-command in
    let n = c.take_next.new in
    let e = c.in-Ok.ensures in
    taken_more c.args.graph.now (take l.command-index c.args.commands.now) _ c.command-item.result l.graph n.graph
    l.taken.replies n.taken.replies
    l.taken.deltas n.taken.deltas l.taken.undos.items n.taken.undos.items c.requires.sound
    (all_before (λ d. IsFor d (state_of c.args.graph.now)) c.args.commands.now l.command-index c.requires.suits) l.invariant
    (next_taken c.args.commands.now l.command-index c.command-item.result c.loop-command-test.true c.command-item.is)
    e.limit e.state e.replies e.told e.back
