use Rattle.std.proofs.Common.{◌-◌}
use Rattle.gl_classes.proofs.meeting.+search.Given as goal

abbrev pub decreases-search : goal.decreases-search
decreases-search g l = l.high - l.low
