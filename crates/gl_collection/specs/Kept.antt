-- What a collection keeps.
use Rattle.std.specs.Prelude.{◌≤◌, ℕ, List, sum, refl}
use Rattle.std.specs.Coded.{Coded, code_by, coded×, coded_ℕ, coded_list}

-- its child model, how many children it may show at most, how many children each element of its input has, and for how
-- many elements there is room
pub record Kept : Type 0 where
  pub kids : List ℕ
  pub limit : ℕ
  pub lens : List ℕ
  pub room : ℕ

abbrev pub kept_code : Coded Kept
kept_code =
    code_by (List ℕ × (ℕ × (List ℕ × ℕ)))
    (coded× (coded_list coded_ℕ) (coded× coded_ℕ (coded× (coded_list coded_ℕ) coded_ℕ)))
    (λ k. (k.kids, (k.limit, (k.lens, k.room))))
    (λ p. record { kids = p.0; limit = p.1.0; lens = p.1.1.0; room = p.1.1.1 }) (λ _. refl)

-- the children are within the limit, and the limit is within that of deltas
pub record IsWithin (limit : ℕ) (lens : List ℕ) : Type 0 where
  pub within : sum lens ≤ limit
  pub few : limit ≤ 2147483647

-- how many children are shown
abbrev pub shown_len : Kept → ℕ
shown_len k = sum k.lens
