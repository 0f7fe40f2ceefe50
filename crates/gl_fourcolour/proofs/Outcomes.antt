-- Lemmas on the lists of colours that edits leave.
use Rattle.std.proofs.Common.{◌≡◌, ℕ, ◌+◌, ◌*◌, ◌<◌, ◌≤◌, ◌^◌, List, ◌++◌, length, take, drop, replicate, sym, ap, ◌∙◌, inl, inr, arith}
use Rattle.std.specs.Prelude.{Result, Ok, Err, OnOk}
use Rattle.std.proofs.Math.Seq.{take-append_seam, drop-append_seam}
use Rattle.std.proofs.lemmas.List.{take-append-drop, length-take-le}
use Rattle.gl_fourcolour.specs.Colours.{Colours, inserted, painted, removed, run_count, spare, HasRoom}
use Rattle.gl_fourcolour.specs.Rows.{Row, expanded, IsKept, CanPut, Puts, Cuts}
use Rattle.gl_fourcolour.specs.declared.run.Run.{Run}
use Rattle.gl_fourcolour.proofs.Maximal.{run_count-expanded}
use Rattle.gl_fourcolour.proofs.Puts.{length-inserted}
use Rattle.gl_fourcolour.proofs.Removals.{length-removed}

pub inserted_none : (xs : List ℕ) (at c n : ℕ) → n ≡ 0 → inserted xs at c n ≡ xs
unfolding inserted
inserted_none xs at c n none = ap (λ k. take at xs ++ (replicate k c ++ drop at xs)) none ∙ take-append-drop at xs

pub painted_none : (xs : List ℕ) (at c n : ℕ) → n ≡ 0 → painted xs at n c ≡ xs
unfolding painted
painted_none xs at c n none =
    let same : at + n ≡ at = omega (arith, none) in
    ap (λ k. take at xs ++ (replicate k c ++ drop (at + n) xs)) none ∙ (ap (λ k. take at xs ++ drop k xs) same ∙ take-append-drop at xs)

-- painting is taking out and putting in
pub painted_is : (xs : List ℕ) (at n c : ℕ) → at ≤ length xs → inserted (removed xs at n) at c n ≡ painted xs at n c
unfolding inserted painted removed
painted_is xs at n c within =
    let prefix = take at xs in
    let back = drop (at + n) xs in
    let len : at ≡ length prefix = sym (length-take-le at xs within) in
    let taken : take at (prefix ++ back) ≡ prefix = ap (λ k. take k (prefix ++ back)) len ∙ take-append_seam prefix back in
    let dropped : drop at (prefix ++ back) ≡ back = ap (λ k. drop k (prefix ++ back)) len ∙ drop-append_seam prefix back in
    ap (λ zs. zs ++ (replicate n c ++ drop at (prefix ++ back))) taken ∙ ap (λ zs. prefix ++ (replicate n c ++ zs)) dropped

-- what the value says of the runs
pub row_is : (bound : ℕ) (row : Row) (value : Colours) → IsKept bound row → record { colours = expanded row.runs; room = row.room } ≡ value → (expanded row.runs ≡ value.colours) × (row.room ≡ value.room) × (run_count value.colours ≡ length row.runs)
row_is bound row value kept is =
    let colours_are : expanded row.runs ≡ value.colours = ap (λ (v : Colours). v.colours) is in
    (colours_are, ap (λ (v : Colours). v.room) is, ap run_count (sym colours_are) ∙ run_count-expanded bound row.runs kept.maximal)

pub can_insert : (bound at : ℕ) (row : Row) (value : Colours) (run : Run) → IsKept bound row → record { colours = expanded row.runs; room = row.room } ≡ value → run.colour < bound → 1 ≤ run.len → at ≤ length value.colours → length value.colours + run.len < 2 ^ 32 → HasRoom value (inserted value.colours at run.colour run.len) → CanPut bound row at run
can_insert bound at row value run kept is colour some in_range small has =
    let r = row_is bound row value kept is in
    record {
      few_colours = kept.few_colours;
      maximal = kept.maximal;
      colour = colour;
      some = some;
      in_range = omega (arith, in_range, ap length r.0);
      small = omega (arith, small, ap length r.0);
      room = elim has [
        | inl spared ↦ inl (omega (arith, spared, r.1, r.2))
        | inr fits ↦ inr (omega (arith, fits, r.1, ap (λ xs. run_count (inserted xs at run.colour run.len)) r.0))
      ];
    }

pub kept_put : (bound at : ℕ) (old new : Row) (run : Run) → CanPut bound old at run → Puts bound old new at run → IsKept bound new
kept_put bound at old new run can puts =
    record { few_colours = can.few_colours; maximal = puts.maximal; small = omega (arith, ap length puts.colours, length-inserted (expanded old.runs) at run.colour run.len, can.small) }

pub kept_cut : (bound at n : ℕ) (old new : Row) → IsKept bound old → at + n ≤ length (expanded old.runs) → Cuts bound old new at n → IsKept bound new
kept_cut bound at n old new kept in_range cuts =
    record { few_colours = kept.few_colours; maximal = cuts.maximal; small = omega (arith, ap length cuts.colours, length-removed (expanded old.runs) at n in_range, kept.small) }

pub can_paint : (bound at : ℕ) (old cut : Row) (value : Colours) (run : Run) → IsKept bound old → record { colours = expanded old.runs; room = old.room } ≡ value → run.colour < bound → 1 ≤ run.len → at + run.len ≤ length value.colours → HasRoom value (painted value.colours at run.len run.colour) → Cuts bound old cut at run.len → CanPut bound cut at run
can_paint bound at old cut value run kept is colour some in_range has cuts =
    let r = row_is bound old value kept is in
    let len = length-removed (expanded old.runs) at run.len (omega (arith, in_range, ap length r.0)) in
    let cut_len = ap length cuts.colours in
    let outcome : inserted (expanded cut.runs) at run.colour run.len ≡ painted value.colours at run.len run.colour =
    ap (λ xs. inserted xs at run.colour run.len) cuts.colours ∙ (painted_is (expanded old.runs) at run.len run.colour (omega (arith, in_range, ap length r.0)) ∙ ap (λ xs. painted xs at run.len run.colour) r.0) in
    record {
      few_colours = kept.few_colours;
      maximal = cuts.maximal;
      colour = colour;
      some = some;
      in_range = omega (arith, in_range, ap length r.0, len, cut_len);
      small = omega (arith, kept.small, len, cut_len);
      room = elim has [
        | inl spared ↦ inl (omega (arith, spared, r.1, r.2, cuts.fewer, cuts.room))
        | inr fits ↦ inr (omega (arith, fits, r.1, cuts.room, ap run_count outcome))
      ];
    }

-- room for so many edits
pub reserved : {T E : Type 0} (bound edits more : ℕ) (old new : Row) (result : Result T E) → IsKept bound old → new.runs ≡ old.runs → more ≡ edits * 2 → OnOk result (length new.runs + more ≤ new.room) → OnOk result (edits ≤ spare (record { colours = expanded new.runs; room = new.room }))
reserved bound edits more old new (Ok x) kept same is room =
    let count = run_count-expanded bound old.runs kept.maximal in
    omega (arith, room, is, count, ap (λ rs. run_count (expanded rs)) same, ap length same)
reserved bound edits more old new (Err e) kept same is room = tt

-- what an edit takes of the spare room
pub spare_kept : (bound : ℕ) (old new : Row) (value : Colours) → IsKept bound old → record { colours = expanded old.runs; room = old.room } ≡ value → IsKept bound new → length new.runs ≤ length old.runs → new.room ≡ old.room → spare value ≤ spare (record { colours = expanded new.runs; room = new.room })
spare_kept bound old new value kept is kept_new fewer room =
    let r = row_is bound old value kept is in
    omega (arith, r.1, r.2, fewer, room, run_count-expanded bound new.runs kept_new.maximal)

pub spare_taken : (bound : ℕ) (old new : Row) (value : Colours) → IsKept bound old → record { colours = expanded old.runs; room = old.room } ≡ value → IsKept bound new → length new.runs ≤ length old.runs + 2 → new.room ≡ old.room → spare value ≤ spare (record { colours = expanded new.runs; room = new.room }) + 1
spare_taken bound old new value kept is kept_new more room =
    let r = row_is bound old value kept is in
    omega (arith, r.1, r.2, more, room, run_count-expanded bound new.runs kept_new.maximal)
