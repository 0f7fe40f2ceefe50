use Rattle.std.proofs.Common.{refl, ap, sym}
use Rattle.gl_graph.specs.Kept.{Kept}
use Rattle.gl_graph.specs.Nodes.{shown_by}
use Rattle.gl_graph.proofs.MemberChanges.{attach_stopped}
use Rattle.gl_graph.proofs.members.attach.Goals as goal

pub returns-in-Ok-clause-ok : goal.returns-in-Ok-clause-ok
returns-in-Ok-clause-ok c about =
    let shows = shown_by c.args.prefix.now c.args.positions.now in
    let same = sym (ap (λ (s : Kept). shown_by s.prefix s.positions s.list) c.see-shelf.ensures.seen) in
    let e = c.in-Ok.ensures in
    record {
      inside = refl;
      told = e.pieces shows c.requires.stands same;
      stands = e.stands shows c.requires.stands same;
      lists = e.lists;
      limit = e.limit;
      undo = e.undo;
    }

pub returns-in-Err-clause-stopped : goal.returns-in-Err-clause-stopped
returns-in-Err-clause-stopped c about =
    let shows = shown_by c.args.prefix.now c.args.positions.now in
    let shelf = c.see-shelf.result in
    let same = sym (ap (λ (s : Kept). shown_by s.prefix s.positions s.list) c.see-shelf.ensures.seen) in
    attach_stopped c.attach.result shows c.args.composite.now about c.args.member c.args.list (shown_by shelf.prefix shelf.positions shelf.list) c.in-Err.fault c.refusal_by.result
    c.requires.stands same c.attach.ensures.too_long c.in-Err.is c.refusal_by.ensures
