-- Lemmas for putting a run in.
use Rattle.std.proofs.Common.{◌≡◌, ◌≢◌, ℕ, ◌+◌, ◌-◌, ◌<◌, ◌≤◌, ◌^◌, List, [], ◌∷◌, ◌++◌, length, take, drop, replicate, set, insert, sym, ap, ◌∙◌, inl, inr, subst, arith, length-append}
use Rattle.std.proofs.lemmas.List.{length-replicate, take-append-drop, length-set}
use Rattle.gl_fourcolour.specs.Colours.{inserted, run_count}
use Rattle.gl_fourcolour.specs.Rows.{Row, expanded, Differs, IsMaximal, Meets, CanPut, Puts}
use Rattle.gl_fourcolour.specs.declared.run.Run.{Run}
use Rattle.gl_fourcolour.proofs.Expansions.{grow_colours, split_colours, new_colours}
use Rattle.gl_fourcolour.proofs.Maximal.{resized, split, between, run_count-expanded, length-runs}
use Rattle.gl_fourcolour.proofs.Spots.{set_here, insert_here, insert_next, insert_second}

pub length-inserted : (xs : List ℕ) (at c n : ℕ) → length (inserted xs at c n) ≡ length xs + n
unfolding inserted
length-inserted xs at c n =
    omega (arith, length-append (take at xs) (replicate n c ++ drop at xs), length-append (replicate n c) (drop at xs), length-replicate n c, length-append (take at xs) (drop at xs), ap length (take-append-drop at xs))

-- an outcome of at most two runs more has room
pub record HasSpace (old : Row) (count : ℕ) : Type 0 where
  pub room : count ≤ old.room
  pub few : count < 2 ^ 32

pub space_for : (bound at : ℕ) (old : Row) (run : Run) (rs : List Run) → CanPut bound old at run → IsMaximal bound rs → expanded rs ≡ inserted (expanded old.runs) at run.colour run.len → length rs ≤ length old.runs + 2 → HasSpace old (length rs)
space_for bound at old run rs can m is more =
    record {
      room = elim can.room [
        | inl roomy ↦ omega (arith, roomy, more)
        | inr fits ↦ omega (arith, fits, run_count-expanded bound rs m, ap run_count is)
      ];
      few = omega (arith, length-runs bound rs m, ap length is, length-inserted (expanded old.runs) at run.colour run.len, can.small);
    }

-- a run of the colour grows
pub grown : (bound at o position : ℕ) (old new : Row) (run here : Run) (prefix rest : List Run) → CanPut bound old at run → old.runs ≡ prefix ++ here ∷ rest → position ≡ length prefix → here.colour ≡ run.colour → o ≤ here.len → at ≡ length (expanded prefix) + o → new.runs ≡ set old.runs position (record { colour = here.colour; len = here.len + run.len }) → new.room ≡ old.room → Puts bound old new at run
grown bound at o position old new run here prefix rest can is position_is same within at_is new_is room_is =
    let whole : Run = record { colour = here.colour; len = here.len + run.len } in
    let runs_are = new_is ∙ set_here old.runs prefix rest here whole position is position_is in
    let old_max = subst (λ rs. IsMaximal bound rs) is can.maximal in
    let max = resized bound prefix rest here.colour here.len (here.len + run.len) (omega (arith, can.some)) old_max in
    record {
      maximal = subst (λ rs. IsMaximal bound rs) (sym runs_are) max;
      colours = ap expanded runs_are ∙ (grow_colours prefix rest here.colour here.len o run.len at within at_is ∙ (ap (λ rs. inserted (expanded rs) at here.colour run.len) (sym is) ∙ ap (λ c. inserted (expanded old.runs) at c run.len) same));
      more = omega (arith, ap length new_is, length-set old.runs position whole);
      room = room_is;
    }

-- a run of another colour is split
pub record Split (bound at : ℕ) (old : Row) (run here : Run) (prefix rest : List Run) (start : ℕ) : Type 0 where
  pub maximal : IsMaximal bound (prefix ++ record { colour = here.colour; len = at - start } ∷ run ∷ record { colour = here.colour; len = here.len - (at - start) } ∷ rest)
  pub colours : expanded (prefix ++ record { colour = here.colour; len = at - start } ∷ run ∷ record { colour = here.colour; len = here.len - (at - start) } ∷ rest) ≡ inserted (expanded old.runs) at run.colour run.len
  pub space : HasSpace old (length old.runs + 2)

pub split_run : (bound at : ℕ) (old : Row) (run here : Run) (prefix rest : List Run) (start : ℕ) → CanPut bound old at run → old.runs ≡ prefix ++ here ∷ rest → start ≡ length (expanded prefix) → start < at → at < start + here.len → here.colour ≢ run.colour → Split bound at old run here prefix rest start
split_run bound at old run here prefix rest start can is start_is after inside other =
    let o = at - start in
    let old_max = subst (λ rs. IsMaximal bound rs) is can.maximal in
    let max = split bound prefix rest here.colour here.len o run.colour run.len (here.len - o) (omega (arith, after)) can.some (omega (arith, after, inside)) can.colour other old_max in
    let colours = split_colours prefix rest here.colour here.len o run.colour run.len at (omega (arith, after, inside)) (omega (arith, start_is, after)) ∙ ap (λ rs. inserted (expanded rs) at run.colour run.len) (sym is) in
    let outcome = prefix ++ record { colour = here.colour; len = o } ∷ run ∷ record { colour = here.colour; len = here.len - o } ∷ rest in
    let count : length outcome ≡ length old.runs + 2 =
    omega (arith, length-append prefix (record { colour = here.colour; len = o } ∷ run ∷ record { colour = here.colour; len = here.len - o } ∷ rest), ap length is, length-append prefix (here ∷ rest)) in
    record { maximal = max; colours = colours; space = subst (λ k. HasSpace old k) count (space_for bound at old run outcome can max colours (omega (arith, count))) }

pub split_done : (bound at position : ℕ) (old n1 n2 new : Row) (run here : Run) (prefix rest : List Run) (start : ℕ) → old.runs ≡ prefix ++ here ∷ rest → position ≡ length prefix → Split bound at old run here prefix rest start → n1.runs ≡ set old.runs position (record { colour = here.colour; len = at - start }) → n2.runs ≡ insert n1.runs (position + 1) run → new.runs ≡ insert n2.runs (position + 2) (record { colour = here.colour; len = here.len - (at - start) }) → n1.room ≡ old.room → n2.room ≡ n1.room → new.room ≡ n2.room → Puts bound old new at run
split_done bound at position old n1 n2 new run here prefix rest start is position_is s first second third r1 r2 r3 =
    let left : Run = record { colour = here.colour; len = at - start } in
    let right : Run = record { colour = here.colour; len = here.len - (at - start) } in
    let e1 = first ∙ set_here old.runs prefix rest here left position is position_is in
    let e2 = second ∙ insert_next n1.runs prefix rest left run position e1 position_is in
    let e3 = third ∙ insert_second n2.runs prefix rest left run right position e2 position_is in
    record {
      maximal = subst (λ rs. IsMaximal bound rs) (sym e3) s.maximal;
      colours = ap expanded e3 ∙ s.colours;
      more = omega (arith, ap length e3, length-append prefix (left ∷ run ∷ right ∷ rest), ap length is, length-append prefix (here ∷ rest));
      room = r3 ∙ (r2 ∙ r1);
    }

-- a run between two of other colours
pub record Fresh (bound at : ℕ) (old : Row) (run : Run) (prefix back : List Run) : Type 0 where
  pub maximal : IsMaximal bound (prefix ++ run ∷ back)
  pub colours : expanded (prefix ++ run ∷ back) ≡ inserted (expanded old.runs) at run.colour run.len
  pub space : HasSpace old (length old.runs + 1)

pub fresh_run : (bound at : ℕ) (old : Row) (run : Run) (prefix back : List Run) → CanPut bound old at run → old.runs ≡ prefix ++ back → at ≡ length (expanded prefix) → Meets prefix (run ∷ []) → Differs run.colour back → Fresh bound at old run prefix back
fresh_run bound at old run prefix back can is at_is meets differs =
    let max = between bound prefix back run can.some can.colour meets differs (subst (λ rs. IsMaximal bound rs) is can.maximal) in
    let colours = new_colours prefix back run.colour run.len at at_is ∙ ap (λ rs. inserted (expanded rs) at run.colour run.len) (sym is) in
    let count : length (prefix ++ run ∷ back) ≡ length old.runs + 1 = omega (arith, length-append prefix (run ∷ back), ap length is, length-append prefix back) in
    record { maximal = max; colours = colours; space = subst (λ k. HasSpace old k) count (space_for bound at old run (prefix ++ run ∷ back) can max colours (omega (arith, count))) }

pub fresh_done : (bound at position : ℕ) (old new : Row) (run : Run) (prefix back : List Run) → old.runs ≡ prefix ++ back → position ≡ length prefix → Fresh bound at old run prefix back → new.runs ≡ insert old.runs position run → new.room ≡ old.room → Puts bound old new at run
fresh_done bound at position old new run prefix back is position_is f new_is room_is =
    let e = new_is ∙ insert_here old.runs prefix back run position is position_is in
    record { maximal = subst (λ rs. IsMaximal bound rs) (sym e) f.maximal; colours = ap expanded e ∙ f.colours; more = omega (arith, ap length e, length-append prefix (run ∷ back), ap length is, length-append prefix back); room = room_is }
