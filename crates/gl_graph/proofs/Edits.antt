-- The edits of commands are what the wave says of them.
use Rattle.std.proofs.Common.{◌≡◌, ◌∙◌, ℕ, ◌-◌, ◌<◌, ◌≤◌, Bool, true, false, List, ◌∷◌, ◌++◌, length, refl, ap, sym, subst, arith}
use Rattle.std.specs.Prelude.{Some, None, Result, Ok, Err, OnOk, IfErr, ◌↔◌, nat_lt, nat_le, if◌then◌else◌}
use Rattle.std.proofs.lemmas.Bool.{ltb-true, leb-true, ltb-false, leb-false}
use Rattle.spec_states.specs.Tree.{Tree}
use Rattle.spec_states.specs.Piece.{inserted, identity}
use Rattle.spec_states.specs.Command.{Command}
use Rattle.spec_states.specs.Command.TheVariants as c
use Rattle.spec_states.specs.Reply.TheVariants as reply
use Rattle.gl_source.specs.declared.edit.Edit.{Edit}
use Rattle.gl_source.specs.declared.edit.Edit.TheVariants as e
use Rattle.gl_source.specs.declared.fault.EditFault.{EditFault}
use Rattle.gl_source.specs.declared.fault.EditFault.TheVariants as fault
use Rattle.gl_source.specs.Edits as edits
use Rattle.spec_states.specs.State.{source}
use Rattle.spec_states.specs.Step.{out_of_range, past_end, refused_by}
use Rattle.spec_states.specs.Wave.{edit, edited}
use Rattle.gl_graph.specs.Commands.{IsEdit, edit_for, IsTooLong, IsMade, IsWhy}

pub told_is : (command : Command) (xs : List Tree) → IsEdit command → edits.told (edit_for command) xs ≡ edit command xs
told_is (c.Add list value) xs h =
    let none : 0 ≡ length xs - length xs = omega arith in
    ap (λ n. identity (length xs) ++ inserted value ∷ identity n) none
told_is (c.AddAll list values) xs h = refl
told_is (c.Insert list index value) xs h = refl
told_is (c.Set list index value) xs h = refl
told_is (c.Remove list index) xs h = refl
told_is (c.Clear list) xs h = refl
told_is other xs h = absurd h

pub edited_is : (command : Command) (xs : List Tree) → IsEdit command → edits.edited (edit_for command) xs ≡ edited command xs
edited_is (c.Add list value) xs h = refl
edited_is (c.AddAll list values) xs h = refl
edited_is (c.Insert list index value) xs h = refl
edited_is (c.Set list index value) xs h = refl
edited_is (c.Remove list index) xs h = refl
edited_is (c.Clear list) xs h = refl
edited_is other xs h = absurd h

pub below_inside : (index len : ℕ) → ¬ (len ≤ index) → out_of_range index len ≡ None
below_inside index len h = by_test (nat_lt index len) refl
  where
    by_test : (t : Bool) → nat_lt index len ≡ t → (if t then None else Some (reply.OutOfRange index len)) ≡ None
    by_test true e = refl
    by_test false e = absurd (h (ltb-false index len e))

pub below_outside : (index len : ℕ) → len ≤ index → out_of_range index len ≡ Some (reply.OutOfRange index len)
below_outside index len h = by_test (nat_lt index len) refl
  where
    by_test : (t : Bool) → nat_lt index len ≡ t → (if t then None else Some (reply.OutOfRange index len)) ≡ Some (reply.OutOfRange index len)
    by_test true e = let below : index < len = ltb-true index len e in absurd (omega (arith, h, below))
    by_test false e = refl

past_inside : (index len : ℕ) → ¬ (len < index) → past_end index len ≡ None
past_inside index len h = by_test (nat_le index len) refl
  where
    by_test : (t : Bool) → nat_le index len ≡ t → (if t then None else Some (reply.OutOfRange index len)) ≡ None
    by_test true e = refl
    by_test false e = absurd (h (leb-false index len e))

past_outside : (index len : ℕ) → len < index → past_end index len ≡ Some (reply.OutOfRange index len)
past_outside index len h = by_test (nat_le index len) refl
  where
    by_test : (t : Bool) → nat_le index len ≡ t → (if t then None else Some (reply.OutOfRange index len)) ≡ Some (reply.OutOfRange index len)
    by_test true e = let below : index ≤ len = leb-true index len e in absurd (omega (arith, h, below))
    by_test false e = refl

pub inside_is : (command : Command) (xs : List Tree) → IsEdit command → ¬ edits.IsOutside (edit_for command) xs → refused_by (source xs) command ≡ None
inside_is (c.Add list value) xs h inside = refl
inside_is (c.AddAll list values) xs h inside = refl
inside_is (c.Insert list index value) xs h inside = past_inside index (length xs) inside
inside_is (c.Set list index value) xs h inside = below_inside index (length xs) inside
inside_is (c.Remove list index) xs h inside = below_inside index (length xs) inside
inside_is (c.Clear list) xs h inside = refl
inside_is other xs h inside = absurd h

pub outside_is : (command : Command) (xs : List Tree) (index len : ℕ) → IsEdit command → edits.IsOutOfRange (edit_for command) xs index len → refused_by (source xs) command ≡ Some (reply.OutOfRange index len)
outside_is (c.Add list value) xs at len h out = absurd out.outside
outside_is (c.AddAll list values) xs at len h out = absurd out.outside
outside_is (c.Insert list index value) xs at len h out =
    past_outside index (length xs) out.outside ∙ (ap (λ i. Some (reply.OutOfRange i (length xs))) (sym out.index_is) ∙ ap (λ n. Some (reply.OutOfRange at n)) (sym out.len_is))
outside_is (c.Set list index value) xs at len h out =
    below_outside index (length xs) out.outside ∙ (ap (λ i. Some (reply.OutOfRange i (length xs))) (sym out.index_is) ∙ ap (λ n. Some (reply.OutOfRange at n)) (sym out.len_is))
outside_is (c.Remove list index) xs at len h out =
    below_outside index (length xs) out.outside ∙ (ap (λ i. Some (reply.OutOfRange i (length xs))) (sym out.index_is) ∙ ap (λ n. Some (reply.OutOfRange at n)) (sym out.len_is))
outside_is (c.Clear list) xs at len h out = absurd out.outside
outside_is other xs at len h out = absurd h

pub long_is : (command : Command) (xs : List Tree) (limit len : ℕ) → IsEdit command → edits.IsTooLong (edit_for command) xs limit len → IsTooLong command xs limit len
long_is command xs limit len h long = record {
  inside = inside_is command xs h long.inside;
  past = long.past;
  len_is = long.len_is ∙ ap length (edited_is command xs h);
}

-- an edit that isn't out of range has its place
in_place : (edit : Edit) (xs : List Tree) → ((index len : ℕ) → ¬ edits.IsOutOfRange edit xs index len) → ¬ edits.IsOutside edit xs
in_place (e.Append values) xs h out = out
in_place (e.Insert index value) xs h out = h index (length xs) (record { outside = out; index_is = refl; len_is = refl })
in_place (e.Set index value) xs h out = h index (length xs) (record { outside = out; index_is = refl; len_is = refl })
in_place (e.Remove index) xs h out = h index (length xs) (record { outside = out; index_is = refl; len_is = refl })
in_place e.Clear xs h out = out

pub made_is : (command : Command) (xs : List Tree) (limit : ℕ) → IsEdit command → ((index len : ℕ) → ¬ edits.IsOutOfRange (edit_for command) xs index len)
    → ((len : ℕ) → ¬ edits.IsTooLong (edit_for command) xs limit len) → IsMade command xs limit
made_is command xs limit h inside few =
    let here : ¬ edits.IsOutside (edit_for command) xs = in_place (edit_for command) xs inside in
    let long : ℕ = length (edits.edited (edit_for command) xs) in
    record {
      inside = inside_is command xs h here;
      few = subst (λ ys. length ys ≤ limit) (edited_is command xs h) (by_test (nat_le long limit) refl here);
    }
  where
    by_test : (t : Bool) → nat_le (length (edits.edited (edit_for command) xs)) limit ≡ t → ¬ edits.IsOutside (edit_for command) xs → length (edits.edited (edit_for command) xs) ≤ limit
    by_test true e here = leb-true (length (edits.edited (edit_for command) xs)) limit e
    by_test false e here = absurd (few (length (edits.edited (edit_for command) xs)) (record { inside = here; past = leb-false (length (edits.edited (edit_for command) xs)) limit e; len_is = refl }))

pub result_made : {X : Type 0} (command : Command) (xs : List Tree) (limit : ℕ) (r : Result X EditFault) (edit : Edit) → IsEdit command → edit ≡ edit_for command
    → ((index len : ℕ) → (r ≡ Err (fault.OutOfRange index len)) ↔ edits.IsOutOfRange edit xs index len)
    → ((len : ℕ) → (r ≡ Err (fault.TooLong len)) ↔ edits.IsTooLong edit xs limit len) → OnOk r (IsMade command xs limit)
result_made command xs limit (Err f) edit h is range long = tt
result_made command xs limit (Ok x) edit h is range long =
    made_is command xs limit h
    (λ index len out. let bad : Ok x ≡ Err (fault.OutOfRange index len) = (range index len).1 (subst (λ ed. edits.IsOutOfRange ed xs index len) (sym is) out) in absurd cc)
    (λ len out. let bad : Ok x ≡ Err (fault.TooLong len) = (long len).1 (subst (λ ed. edits.IsTooLong ed xs limit len) (sym is) out) in absurd cc)

pub result_why : {X : Type 0} (command : Command) (xs : List Tree) (limit : ℕ) (r : Result X EditFault) (edit : Edit) → IsEdit command → edit ≡ edit_for command
    → ((index len : ℕ) → (r ≡ Err (fault.OutOfRange index len)) ↔ edits.IsOutOfRange edit xs index len)
    → ((len : ℕ) → (r ≡ Err (fault.TooLong len)) ↔ edits.IsTooLong edit xs limit len) → IfErr r (IsWhy command xs limit)
result_why command xs limit (Ok x) edit h is range long = tt
result_why command xs limit (Err (fault.OutOfRange index len)) edit h is range long =
    outside_is command xs index len h (subst (λ ed. edits.IsOutOfRange ed xs index len) is ((range index len).0 refl))
result_why command xs limit (Err (fault.TooLong len)) edit h is range long =
    long_is command xs limit len h (subst (λ ed. edits.IsTooLong ed xs limit len) is ((long len).0 refl))
result_why command xs limit (Err fault.Memory) edit h is range long = tt
