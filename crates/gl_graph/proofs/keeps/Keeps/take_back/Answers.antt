use Rattle.std.proofs.Common.{refl, sym, subst, arith}
use Rattle.gl_graph.specs.Nodes.{own_of}
use Rattle.gl_graph.specs.Graph.{IsLimited}
use Rattle.gl_graph.specs.Spread.{put_back, CanTakeBack, IsLong}
use Rattle.gl_graph.proofs.Rollbacks.{source_long}
use Rattle.gl_graph.proofs.keeps.Keeps.take_back.Goals as goal

pub returns-then-len-limit-clause-stopped : goal.returns-then-len-limit-clause-stopped
returns-then-len-limit-clause-stopped c = λ limit shows limited.
    let of = c.in-Source in
    let d = c.args.delta.now.pieces in
    let len = c.new_len-len in (
      refl,
      subst (λ k. IsLong limit shows (put_back c.args.list (own_of k) d) len.result) (sym of.is)
          (source_long limit len.result c.args.list of.source d shows (subst (CanTakeBack d) of.is c.requires) (subst (IsLimited limit) of.is limited)
          (omega (arith, c.if-len-limit.true, c.limit.ensures.value)) len.ensures.value),
    )
