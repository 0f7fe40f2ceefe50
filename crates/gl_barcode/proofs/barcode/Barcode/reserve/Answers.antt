use Rattle.gl_fourcolour.specs.Colours as colours
use Rattle.gl_barcode.proofs.Held.{reserved}
use Rattle.gl_barcode.proofs.barcode.Barcode.reserve.Goals as goal

pub returns-clause-ok : goal.returns-clause-ok
returns-clause-ok c = reserved c.args.edits c.self.inside.runs c.reserve.new.self c.reserve.result c.self.invariant c.reserve.ensures.colours c.reserve.ensures.ok
