use Rattle.spec_states.specs.Shown.{shown}
use Rattle.gl_graph.specs.Graph.{state_of}
use Rattle.gl_world.proofs.Shown.{one_more}
use Rattle.gl_world.proofs.show.show_one.Goals as goal

pub returns : goal.returns
returns c =
    one_more (shown (state_of c.args.graph.now) c.args.list) c.args.values.now c.push.new.values c.args.place
    c.in-Some.value.now c.in_ok-copy-in-Some.field-0
    c.in-Some.ensures c.in_ok-copy-in-Some.ensures c.requires.before c.in_ok-push-in-Some.ensures
