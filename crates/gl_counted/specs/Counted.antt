-- What a contract sees of a `Counted`.
use Rattle.std.specs.Prelude.{◌≡◌, ℕ, ◌-◌, List, [], ◌∷◌, length, map, Some, cond, ◌==◌, slice_get, refl}
use Rattle.std.specs.Coded.{Coded, code_by, coded×, coded_ℕ, coded_list}

-- the items in order, each under its handle, and how many there is room for
pub record Counted (T : Type 0) : Type 0 where
  pub entries : List (ℕ × T)
  pub room : ℕ

-- it is stored as the pair of its fields
abbrev pub counted_code : {T : Type 0} → Coded T → Coded (Counted T)
counted_code {T} code =
    code_by
    (List (ℕ × T) × ℕ)
    (coded× (coded_list (coded× coded_ℕ code)) coded_ℕ)
    (λ c. (c.entries, c.room))
    (λ p. record { entries = p.0; room = p.1 })
    (λ _. refl)

module _ {T : Type 0} where
  abbrev pub handles : List (ℕ × T) → List ℕ
  handles es = map (λ e. e.0) es

  -- how many more items fit with no memory
  abbrev pub spare : Counted T → ℕ
  spare c = c.room - length c.entries

  -- no handle stands at two places
  abbrev pub AreDistinct : List (ℕ × T) → Type 0
  AreDistinct es =
      (h j k : ℕ) → slice_get (handles es) j ≡ Some h → slice_get (handles es) k ≡ Some h → j ≡ k

  -- the item under a handle is another one
  abbrev pub with_item : List (ℕ × T) → ℕ → T → List (ℕ × T)
  with_item [] h x = []
  with_item (e ∷ es) h x = cond (e.0 == h) (h, x) e ∷ with_item es h x
