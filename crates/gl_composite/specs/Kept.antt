-- What a composite keeps.
use Rattle.std.specs.Prelude.{◌≡◌, ◌≤◌, ℕ, List, length, sum, refl}
use Rattle.std.specs.Coded.{Coded, code_by, coded×, coded_ℕ, coded_list}

-- how many elements it may have at most, the list that each member is and how many elements it has, and for how many
-- members there is room in either
pub record Kept : Type 0 where
  pub limit : ℕ
  pub lists : List ℕ
  pub lens : List ℕ
  pub list_room : ℕ
  pub room : ℕ

abbrev pub kept_code : Coded Kept
kept_code =
    code_by (ℕ × (List ℕ × (List ℕ × (ℕ × ℕ))))
    (coded× coded_ℕ
    (coded× (coded_list coded_ℕ) (coded× (coded_list coded_ℕ) (coded× coded_ℕ coded_ℕ))))
    (λ k. (k.limit, (k.lists, (k.lens, (k.list_room, k.room)))))
    (λ p. record {
      limit = p.0;
      lists = p.1.0;
      lens = p.1.1.0;
      list_room = p.1.1.1.0;
      room =
          p.1.1.1.1;
    }) (λ _. refl)

-- each member has its length, all together are within the limit, and the limit is within that of deltas
pub record IsWithin (limit : ℕ) (lists lens : List ℕ) : Type 0 where
  pub paired : length lists ≡ length lens
  pub within : sum lens ≤ limit
  pub few : limit ≤ 2147483647

-- how many elements are shown
abbrev pub shown_len : Kept → ℕ
shown_len k = sum k.lens
