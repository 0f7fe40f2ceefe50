-- The bytes of a source over several calls.
use Rattle.std.proofs.Common.{◌≡◌, ℕ, List, [], ◌++◌, take, Some, None, IfSome, refl, ap, sym, ◌∙◌, append-nil}
use Rattle.std.specs.declared.option.Option.{Option}
use Rattle.std.specs.Io.KnownBytes.{Consumes}
use Rattle.gl_outside.specs.declared.source.Taken.{Taken}
use Rattle.gl_outside.specs.declared.source.Taken.TheVariants.{Some as Beginning, End, Failed}
use Rattle.gl_outside.specs.Source.{taken_bytes, IsEnd, EndsExactly}

-- an answer that says that no byte is left has no byte
taken_bytes-end : (result : Taken) (room : List ℕ) → IsEnd result → taken_bytes result room ≡ []
taken_bytes-end (Beginning n) room end = ap (λ k. take k room) end
taken_bytes-end End room end = refl
taken_bytes-end Failed room end = absurd end

-- and comes only where none is left
none_left : (result : Taken) (left : List ℕ) → EndsExactly result left → IsEnd result → left ≡ []
none_left (Beginning n) left exact end = exact.0 end
none_left End left exact end = exact.0 end
none_left Failed left exact end = absurd end

-- where a call says that no byte is left, the calls before it took all that the source told
pub read_whole : (a b c : Option (List ℕ)) (read room : List ℕ) (result : Taken) → Consumes a b read → Consumes b c (taken_bytes result room)
    → IfSome b (EndsExactly result) → IsEnd result → IfSome a (λ all. (read ≡ all) × (c ≡ Some []))
read_whole None b c read room result before last exact end = tt
read_whole (Some all) None c read room result before last exact end = absurd before
read_whole (Some all) (Some left) None read room result before last exact end = absurd last
read_whole (Some all) (Some left) (Some rest) read room result before last exact end =
    let none : left ≡ [] = none_left result left exact end in
    let same : left ≡ rest = last ∙ ap (λ l. l ++ rest) (taken_bytes-end result room end) in
    (sym (before ∙ ap (λ l. read ++ l) none ∙ append-nil read), ap Some (sym same ∙ none))
