-- What a sink's bytes say of the piece that it was given.
use Rattle.std.proofs.Common.{◌≡◌, ◌≢◌, ℕ, List, [], Some, None, IfSome, sym, ◌∙◌, append-nil}
use Rattle.std.proofs.lemmas.List.{append_cancel_left}
use Rattle.std.proofs.lemmas.Option.{same_Some}
use Rattle.std.specs.declared.option.Option.{Option}
use Rattle.std.specs.Io.KnownBytes.{Appends}

-- known bytes that grew by a piece and are as before show that the piece is empty
pub grows_by_nothing : (a b : Option (List ℕ)) (piece : List ℕ) (P : Type 0) → Appends a b piece
    → IfSome a (λ had. b ≡ Some had → piece ≢ [] → P)
grows_by_nothing None b piece P appended = tt
grows_by_nothing (Some x) None piece P appended = absurd appended
grows_by_nothing (Some x) (Some y) piece P appended = λ same some.
    absurd (some (append_cancel_left x piece [] (sym appended ∙ same_Some y x same ∙ sym (append-nil x))))
