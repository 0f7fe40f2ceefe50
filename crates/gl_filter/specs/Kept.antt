-- What a filter keeps.
use Rattle.std.specs.Prelude.{ℕ, Bool, List, refl}
use Rattle.std.specs.Coded.{Coded, code_by, coded×, coded_ℕ, coded_bool, coded_list}
use Rattle.spec_views.specs.Matcher.{Matcher}
use Rattle.spec_views.specs.MatcherCode.{matcher_code}

-- its matcher, for each element of its input whether it is shown, and how many stretches of these there is room for
pub record Kept : Type 0 where
  pub matcher : Matcher
  pub shown : List Bool
  pub room : ℕ

abbrev pub kept_code : Coded Kept
kept_code =
    code_by (Matcher × (List Bool × ℕ))
    (coded× matcher_code (coded× (coded_list coded_bool) coded_ℕ))
    (λ k. (k.matcher, (k.shown, k.room)))
    (λ p. record { matcher = p.0; shown = p.1.0; room = p.1.1 }) (λ _. refl)
