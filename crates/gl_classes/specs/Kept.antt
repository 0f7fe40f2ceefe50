-- What contracts see of the classes of a list.
use Rattle.gl_barcode.specs.Bars.{Bars}
use Rattle.gl_arranged.specs.Kept as arranged

-- the sorted arrangement of the list, and for each place in it whether the element there is the first of its class
pub record Kept : Type 0 where
  pub list : arranged.Kept
  pub firsts : Bars
