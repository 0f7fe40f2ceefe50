-- What is spelled in digits has no byte below them.
use Rattle.std.proofs.Common.{◌≡◌, ℕ, ◌<◌, ◌^◌, true, not, eqb, List, [], ◌∷◌, refl, arith}
use Rattle.std.specs.Prelude.{decimal}
use Rattle.std.specs.Str.Parse.{AllDigits}
use Rattle.std.proofs.lemmas.Bool.{and_from, ne_eqb, not_from_false}
use Rattle.std.proofs.lemmas.Fmt.{decimal_is_IsNumeral}
use Rattle.std.proofs.lemmas.Str.Parse.{digit_from_value}
use Rattle.gl_syntax.proofs.LineCuts.{lacks}

digits_lack : (c : ℕ) (ds : List ℕ) → c < 45 → AllDigits 10 ds → lacks c ds ≡ true
digits_lack c [] low all = refl
digits_lack c (d ∷ ds) low all =
    let p = digit_from_value d all.0 in
    and_from (not (eqb d c)) (lacks c ds) (not_from_false (eqb d c) (ne_eqb d c (λ same. absurd (omega (arith, p.0))))) (digits_lack c ds low all.1)

pub decimal_lacks : (c n : ℕ) → c < 45 → n < 2 ^ 64 → lacks c (decimal n) ≡ true
decimal_lacks c n low small = digits_lack c (decimal n) low (decimal_is_IsNumeral n small).0.1
