-- The edit of a source leads from its contents to the edited ones.
use Rattle.std.proofs.Common.{◌≡◌, ◌∙◌, ℕ, suc, ◌-◌, ◌<◌, ◌≤◌, Bool, true, false, List, length, refl, arith}
use Rattle.std.specs.Prelude.{Some, None, nat_lt, nat_le, if◌then◌else◌}
use Rattle.std.proofs.lemmas.Bool.{ltb-true, leb-true}
use Rattle.spec_value.specs.Tree.{Tree}
use Rattle.spec_lists.specs.Piece.{updated, deleted, inserted, IsNormal}
use Rattle.spec_lists.specs.Leads.{IsDelta}
use Rattle.spec_lists.proofs.DeltaEdits.{identity_normal, around_normal, identity_leads, insert_leads, set_leads, remove_leads, insert_last, append_leads, append_normal, clear_leads, clear_normal}
use Rattle.gl_lines.specs.declared.plan.Command.{Command}
use Rattle.gl_lines.specs.declared.plan.Command.TheVariants as c
use Rattle.gl_lines.specs.declared.reply.Reply.TheVariants.{OutOfRange}
use Rattle.spec_states.specs.State.{source}
use Rattle.spec_views.specs.Source.{element_at}
use Rattle.spec_states.specs.Wave.{edit, edited}
use Rattle.spec_states.specs.Step.{refused_by, out_of_range, past_end}

pub in_range : (index len : ℕ) → out_of_range index len ≡ None → index < len
in_range index len e = by_test (nat_lt index len) refl e
  where
    by_test : (t : Bool) → nat_lt index len ≡ t → (if t then None else Some (OutOfRange index len)) ≡ None → index < len
    by_test true h none = ltb-true index len h
    by_test false h none = absurd cc

pub not_past : (index len : ℕ) → past_end index len ≡ None → index ≤ len
not_past index len e = by_test (nat_le index len) refl e
  where
    by_test : (t : Bool) → nat_le index len ≡ t → (if t then None else Some (OutOfRange index len)) ≡ None → index ≤ len
    by_test true h none = leb-true index len h
    by_test false h none = absurd cc

-- a command that the state doesn't refuse edits the contents as its edit tells
pub edit_leads : (command : Command) (xs : List Tree) → refused_by (source xs) command ≡ None → IsDelta (edit command xs) xs (edited command xs)
edit_leads (c.Add list value) xs none =
    let h = insert_leads xs (length xs) (length xs - length xs) value (omega arith) in
    record { starts = h.starts; ends = insert_last xs value ∙ h.ends }
edit_leads (c.AddAll list values) xs none = append_leads xs values
edit_leads (c.Insert list index value) xs none =
    let within : index ≤ length xs = not_past index (length xs) none in
    insert_leads xs index (length xs - index) value (omega (arith, within))
edit_leads (c.Set list index value) xs none =
    let within : index < length xs = in_range index (length xs) none in
    set_leads xs index (length xs - suc index) value (omega (arith, within))
edit_leads (c.Remove list index) xs none =
    let within : index < length xs = in_range index (length xs) none in
    remove_leads xs index (length xs - suc index) (omega (arith, within))
edit_leads (c.Clear list) xs none = clear_leads xs
edit_leads (c.Match list matcher) xs none = identity_leads xs
edit_leads (c.Order list order) xs none = identity_leads xs
edit_leads (c.Bounds list bounds) xs none = identity_leads xs
edit_leads (c.Apply list func) xs none = identity_leads xs
edit_leads (c.Attach list member) xs none = identity_leads xs
edit_leads (c.Detach list index) xs none = identity_leads xs
edit_leads (c.Begin list) xs none = identity_leads xs
edit_leads (c.Commit list) xs none = identity_leads xs
edit_leads (c.Rollback list) xs none = identity_leads xs
edit_leads (c.Freeze list) xs none = identity_leads xs
edit_leads (c.Thaw list) xs none = identity_leads xs
edit_leads (c.Show list) xs none = identity_leads xs

pub edit_normal : (command : Command) (xs : List Tree) → IsNormal (edit command xs)
edit_normal (c.Add list value) xs = around_normal (length xs) (length xs - length xs) (inserted value)
edit_normal (c.AddAll list values) xs = append_normal (length xs) values
edit_normal (c.Insert list index value) xs = around_normal index (length xs - index) (inserted value)
edit_normal (c.Set list index value) xs = around_normal index (length xs - suc index) (updated (element_at xs index) value)
edit_normal (c.Remove list index) xs = around_normal index (length xs - suc index) (deleted (element_at xs index))
edit_normal (c.Clear list) xs = clear_normal xs
edit_normal (c.Match list matcher) xs = identity_normal (length xs)
edit_normal (c.Order list order) xs = identity_normal (length xs)
edit_normal (c.Bounds list bounds) xs = identity_normal (length xs)
edit_normal (c.Apply list func) xs = identity_normal (length xs)
edit_normal (c.Attach list member) xs = identity_normal (length xs)
edit_normal (c.Detach list index) xs = identity_normal (length xs)
edit_normal (c.Begin list) xs = identity_normal (length xs)
edit_normal (c.Commit list) xs = identity_normal (length xs)
edit_normal (c.Rollback list) xs = identity_normal (length xs)
edit_normal (c.Freeze list) xs = identity_normal (length xs)
edit_normal (c.Thaw list) xs = identity_normal (length xs)
edit_normal (c.Show list) xs = identity_normal (length xs)
