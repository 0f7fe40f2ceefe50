use Rattle.std.proofs.Common.{◌-◌, length}
use Rattle.gl_classes.proofs.FoundClasses.{AreFound}
use Rattle.gl_classes.proofs.touched.find_touched.Given as goal

abbrev pub invariant-classes : goal.invariant-classes
invariant-classes l = record {
  found : AreFound l.firsts.shown l.ranked l.at l.out.items;
}

abbrev pub decreases-classes : goal.decreases-classes
decreases-classes l = length l.ranked - l.at
