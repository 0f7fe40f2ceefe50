use Rattle.std.proofs.Common.{arith}
use Rattle.gl_classes.proofs.FoundClasses.{found_more, all_found}
use Rattle.gl_classes.proofs.touched.find_touched.Goals as goal

pub classes-preserved : goal.classes-preserved
classes-preserved c = record {
  found = found_more c.args.firsts.now.shown c.args.ranked.now c.classes.at c.next_touched-next.result.1 c.classes.out.items c.push.new.self.items c.next_touched-next.result.0
      c.requires c.classes.invariant.found c.next_touched-next.ensures c.in_ok-push.ensures.items;
}

pub returns : goal.returns
returns c =
    all_found c.args.firsts.now.shown c.args.ranked.now c.classes.at c.classes.out.items (let end = c.classes-test.false in omega (arith, end)) c.classes.invariant.found
