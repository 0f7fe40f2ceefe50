use Rattle.std.proofs.Common.{ap, sym}
use Rattle.gl_graph.specs.Kept.{Kept}
use Rattle.gl_graph.specs.Nodes.{shown_by}
use Rattle.gl_graph.proofs.open.with_member.Goals as goal

pub returns-in-Ok-clause-stands : goal.returns-in-Ok-clause-stands
returns-in-Ok-clause-stands c =
    let same = sym (ap (λ (s : Kept). shown_by s.prefix s.positions s.list) c.see-shelf.ensures.seen) in
    c.in-Ok.ensures.stands (shown_by c.args.prefix.now c.args.positions.now) c.requires.stands same
