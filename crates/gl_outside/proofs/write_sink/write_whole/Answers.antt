use Rattle.std.proofs.Common.{◌≡◌, ℕ, List, ◌++◌, take, drop, ap, sym, ◌∙◌, append_assoc, take-append-drop}
use Rattle.std.proofs.lemmas.List.{take_rest}
use Rattle.std.proofs.KnownBytes.{Appends-trans, Appends-kept}
use Rattle.gl_outside.proofs.write_sink.write_whole.Goals as goal

-- the first bytes of the rest are done too
more_done : (all done rest : List ℕ) (n : ℕ) → all ≡ done ++ rest → all ≡ (done ++ take n rest) ++ drop n rest
more_done all done rest n split =
    split ∙ ap (λ l. done ++ l) (sym (take-append-drop n rest)) ∙ sym (append_assoc done (take n rest) (drop n rest))

pub loop-rest-preserved : goal.loop-rest-preserved
loop-rest-preserved g c =
    let before = c.loop-rest.invariant in
    let rest = c.loop-rest.rest.now in
    let n = c.in-Ok.count in
    record {
      done = before.done ++ take n rest;
      split = more_done _ before.done rest n before.split ∙ ap (λ l. (before.done ++ take n rest) ++ l) (sym (take_rest rest n));
      appended = Appends-trans _ _ _ _ _ before.appended c.in-Ok.ensures.bytes;
    }

pub returns-in-Err-clause-part : goal.returns-in-Err-clause-part
returns-in-Err-clause-part g c =
    let before = c.loop-rest.invariant in
    record {
      prefix = before.done;
      back = c.loop-rest.rest.now;
      whole = before.split;
      appended = Appends-kept _ _ _ _ before.appended c.in-Err.ensures.bytes;
    }

pub returns-in-Ok-eq0-clause-part : goal.returns-in-Ok-eq0-clause-part
returns-in-Ok-eq0-clause-part g c =
    let before = c.loop-rest.invariant in
    let rest = c.loop-rest.rest.now in
    let n = c.in-Ok-eq0.field-0 in
    record {
      prefix = before.done ++ take n rest;
      back = drop n rest;
      whole = more_done _ before.done rest n before.split;
      appended = Appends-trans _ _ _ _ _ before.appended c.in-Ok-eq0.ensures.bytes;
    }
