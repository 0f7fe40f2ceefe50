use Rattle.std.proofs.Common.{◌∙◌, [], arith}
use Rattle.std.specs.Prelude.{slice_index_or}
use Rattle.gl_tell.proofs.ByList.{listeners_more, list_at}
use Rattle.gl_tell.proofs.listeners.listeners_by_list.Goals as goal

pub loop-number-init : goal.loop-number-init
loop-number-init c = record {
  long = c.in_ok-by_list.ensures.long;
  each = c.in_ok-by_list.ensures.empty;
}

pub with_listener-requires : goal.with_listener-requires
with_listener-requires c =
    let low = list_at c.args.listeners.now c.args.lists c.loop-number.number c.index-listeners-number.result c.requires.on
    c.loop-number-test.true c.index-listeners-number.is in
    omega (arith, low, c.loop-number.invariant.long)

pub loop-number-preserved : goal.loop-number-preserved
loop-number-preserved c = record {
  long = c.in_ok-by_list-2.ensures.long ∙ c.loop-number.invariant.long;
  each = λ list. listeners_more c.args.listeners.now c.loop-number.number list c.index-listeners-number.result
      (slice_index_or c.loop-number.by_list.items list []) (slice_index_or c.in_ok-by_list-2.by_list.items list [])
      c.loop-number-test.true c.index-listeners-number.is (c.loop-number.invariant.each list)
      (c.in_ok-by_list-2.ensures.more list);
}
