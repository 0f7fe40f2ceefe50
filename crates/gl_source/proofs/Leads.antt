-- What edits tell leads from the old elements to the new ones.
use Rattle.std.specs.Prelude.{◌≡◌, ℕ, suc, ◌+◌, ◌-◌, ◌<◌, ◌≤◌, List, length}
use Rattle.std.proofs.Common.{ap, sym, ◌∙◌, arith}
use Rattle.spec_value.specs.Tree.{Tree}
use Rattle.spec_lists.specs.Piece.{Piece, new_len}
use Rattle.spec_lists.specs.Leads.{IsDelta}
use Rattle.spec_lists.proofs.DeltaLeads.{length-applied}
use Rattle.spec_lists.proofs.DeltaEdits.{insert_leads, set_leads, remove_leads, append_leads, clear_leads}
use Rattle.gl_source.specs.declared.edit.Edit.{Edit}
use Rattle.gl_source.specs.declared.edit.Edit.TheVariants.{Append, Insert, Set, Remove, Clear}
use Rattle.gl_source.specs.Edits.{edited, told, IsOutside}

within_by : (i n : ℕ) → ¬ (n < i) → n ≡ i + (n - i)
within_by i n h = grind (arith, h)

below_by : (i n : ℕ) → ¬ (n ≤ i) → n ≡ i + suc (n - suc i)
below_by i n h = grind (arith, h)

pub edit_leads : (e : Edit) (xs : List Tree) → ¬ IsOutside e xs → IsDelta (told e xs) xs (edited e xs)
edit_leads (Append values) xs h = append_leads xs values
edit_leads (Insert index value) xs h = insert_leads xs index (length xs - index) value (within_by index (length xs) h)
edit_leads (Set index value) xs h = set_leads xs index (length xs - suc index) value (below_by index (length xs) h)
edit_leads (Remove index) xs h = remove_leads xs index (length xs - suc index) (below_by index (length xs) h)
edit_leads Clear xs h = clear_leads xs

-- a delta's new side is as long as the list that it leads to
pub new_len_is : (ps : List Piece) (xs ys : List Tree) → IsDelta ps xs ys → new_len ps ≡ length ys
new_len_is ps xs ys d = sym (ap length d.ends ∙ length-applied ps xs d.starts)

pub told_len : (e : Edit) (xs : List Tree) → ¬ IsOutside e xs → new_len (told e xs) ≡ length (edited e xs)
told_len e xs h = new_len_is (told e xs) xs (edited e xs) (edit_leads e xs h)
