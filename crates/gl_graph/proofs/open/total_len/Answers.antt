use Rattle.std.proofs.Common.{◌≤◌, length, arith}
use Rattle.std.specs.Prelude.{slice_index}
use Rattle.std.proofs.lemmas.List.Elements.{All-get_or}
use Rattle.gl_graph.specs.Nodes.{shown_by, IsPlaced}
use Rattle.gl_graph.proofs.MemberChanges.{view_more}
use Rattle.gl_graph.proofs.Prefixes.{placed_few}
use Rattle.gl_graph.proofs.open.total_len.Goals as goal

pub loop-member-preserved : goal.loop-member-preserved
loop-member-preserved c =
    let i = c.loop-member.member-index in
    let members = c.args.members.now in
    let shows = shown_by c.args.prefix.now c.args.positions.now in
    let more = view_more members shows i c.loop-member-test.true in
    let placed = All-get_or (IsPlaced c.args.prefix.now c.args.positions.now) members i 0 c.loop-member-test.true c.requires.placed in
    let few : length (shows (slice_index members i)) ≤ 2147483647 = placed_few c.args.prefix.now c.args.positions.now (slice_index members i) c.requires.settled placed in
    record {
      counted = omega (arith, c.loop-member.invariant.counted, c.shown_len.ensures, more);
      few = omega (arith, c.loop-member.invariant.few, c.shown_len.ensures, few);
    }
