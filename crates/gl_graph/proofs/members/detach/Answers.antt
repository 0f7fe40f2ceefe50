use Rattle.std.proofs.Common.{◌≡◌, ◌∙◌, ◌<◌, length, ap, sym, arith}
use Rattle.std.specs.Prelude.{Some, Err, slice_get}
use Rattle.std.proofs.lemmas.Option.{slice_get_within}
use Rattle.spec_states.specs.Reply.TheVariants.{OutOfRange}
use Rattle.gl_graph.specs.Kept.{Kept}
use Rattle.gl_graph.specs.Nodes.{shown_by}
use Rattle.gl_graph.proofs.Edits.{below_inside, below_outside}
use Rattle.gl_graph.proofs.MemberChanges.{list_at_is}
use Rattle.gl_graph.proofs.members.detach.Goals as goal

pub returns-in-Ok-clause-ok : goal.returns-in-Ok-clause-ok
returns-in-Ok-clause-ok c about =
    let shows = shown_by c.args.prefix.now c.args.positions.now in
    let lists = c.args.composite.now.lists in
    let there : slice_get lists c.args.index ≡ Some c.in-Some.member = sym c.member.ensures ∙ c.in-Some.is in
    let within : c.args.index < length lists = slice_get_within lists c.args.index c.in-Some.member there in
    let same = ap shows (list_at_is lists c.args.index c.in-Some.member there)
    ∙ sym (ap (λ (s : Kept). shown_by s.prefix s.positions s.list) c.see-shelf.ensures.seen) in
    let e = c.in-Ok.ensures in
    record {
      inside = below_inside c.args.index (length lists) (λ past. omega (arith, past, within));
      told = e.pieces shows c.requires.stands same;
      stands = e.stands shows c.requires.stands;
      lists = e.lists;
      limit = e.limit;
      undo = e.undo;
    }

pub returns-in-Err-OutOfRange-clause-stopped : goal.returns-in-Err-OutOfRange-clause-stopped
returns-in-Err-OutOfRange-clause-stopped c about =
    let e = c.in-Err-OutOfRange in
    let n = length c.args.composite.now.lists in
    let why = (c.detach.ensures.out_of_range e.index e.len).0 (e.is ∙ ap Err e.field-0-is) in
    below_outside c.args.index n why.0
    ∙ (ap (λ i. Some (OutOfRange i n)) (sym why.1) ∙ ap (λ m. Some (OutOfRange e.index m)) (sym why.2))
