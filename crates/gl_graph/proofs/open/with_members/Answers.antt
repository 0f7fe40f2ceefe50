use Rattle.std.proofs.Common.{◌∙◌, ◌++◌, ◌∷◌, [], ap, sym}
use Rattle.std.specs.Prelude.{slice_index}
use Rattle.gl_graph.proofs.MemberChanges.{take_more}
use Rattle.gl_graph.proofs.open.with_members.Goals as goal

pub loop-member-preserved : goal.loop-member-preserved
loop-member-preserved c =
    let i = c.loop-member.member-index in
    let e = c.in_ok-with_member.ensures in
    record {
      lists = e.lists ∙ (ap (λ ms. ms ++ slice_index c.args.members.now i ∷ []) c.loop-member.invariant.lists ∙ sym (take_more c.args.members.now i c.loop-member-test.true));
      stands = e.stands;
      limit = e.limit ∙ c.loop-member.invariant.limit;
    }
