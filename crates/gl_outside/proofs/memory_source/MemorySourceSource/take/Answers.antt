use Rattle.std.proofs.Common.{◌≡◌, ℕ, ◌+◌, ◌-◌, ◌≤◌, List, ◌++◌, length, take, drop, ap, sym, ◌∙◌, arith, take-append-drop}
use Rattle.std.proofs.lemmas.Grind.{common_steps}
use Rattle.std.proofs.lemmas.List.{take_at, take_rest, drop-drop, length-take-le}
use Rattle.gl_outside.specs.MemorySource.{SourceState}
use Rattle.gl_outside.proofs.memory_source.MemorySourceSource.take.Goals as goal

-- bytes that were copied to the beginning of the room, and then those after them
copied_prefix : (bytes prefix rest : List ℕ) (at n : ℕ) → n ≤ length (drop at bytes) → prefix ≡ take n (drop at bytes)
    → drop at bytes ≡ take n (prefix ++ rest) ++ drop (at + n) bytes
copied_prefix bytes prefix rest at n within copied =
    let left = drop at bytes in
    let count : length prefix ≡ n = ap length copied ∙ length-take-le n left within in
    sym (take-append-drop n left) ∙ ap (λ l. l ++ drop n left) (sym copied ∙ sym (take_at prefix rest n count))
    ∙ ap (λ l. take n (prefix ++ rest) ++ l) (drop-drop n at bytes)

pub returns-clause-bytes : goal.returns-clause-bytes
returns-clause-bytes c =
    let s = c.self.inside in
    let n = c.min-count.result in
    let left : take (length c.as_slice.result.now - s.at) (drop s.at c.as_slice.result.now) ≡ drop s.at s.bytes =
    take_rest c.as_slice.result.now s.at ∙ ap (drop s.at) c.as_slice.ensures in
    sym (ap (λ (s : SourceState). s.left) c.self.view_is)
    ∙ copied_prefix s.bytes c.copy_from_slice.new.self (drop n c.args.room.now) s.at n (grind (arith, common_steps)) (c.copy_from_slice.ensures.after ∙ ap (take n) left)
