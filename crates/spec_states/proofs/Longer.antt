-- The first list in an order that shows more elements than the limit.
use Rattle.std.proofs.Common.{◌≡◌, ◌≤◌, ℕ, Bool, true, false, cond, List, [], ◌∷◌, length, refl, subst, inl, inr}
use Rattle.std.specs.Prelude.{Some, None, nat_le}
use Rattle.std.specs.List.{Contains}
use Rattle.std.proofs.lemmas.Bool.{leb-true, le-leb}
use Rattle.spec_order.proofs.Members.{Contains-nil, Contains-cons_cases, Contains-here, Contains-later}
use Rattle.gl_lines.specs.declared.reply.Reply.TheVariants.{TooLong}
use Rattle.spec_states.specs.Shown.{Table, shows_in}
use Rattle.spec_states.specs.Step.{first_longer}

-- where none is longer, none of these lists shows more
pub none_longer : (limit : ℕ) (t : Table) (lists : List ℕ) (list : ℕ)
    → first_longer limit t lists ≡ None → Contains lists list → length (shows_in t list) ≤ limit
none_longer limit t [] list h c = absurd (Contains-nil list c)
none_longer limit t (first ∷ lists) list h c = by_length (nat_le (length (shows_in t first)) limit) refl h
    (λ rest later. none_longer limit t lists list rest later)
  where
    by_length : (b : Bool) → nat_le (length (shows_in t first)) limit ≡ b
        → cond b (first_longer limit t lists) (Some (TooLong first (length (shows_in t first))))
        ≡ None
        → (first_longer limit t lists ≡ None → Contains lists list → length (shows_in t list) ≤ limit)
        → length (shows_in t list) ≤ limit
    by_length false e some others = absurd cc
    by_length true e rest others = elim (Contains-cons_cases first lists list c) [
      | inl same ↦ subst (λ k. length (shows_in t k) ≤ limit) same (leb-true (length (shows_in t first)) limit e)
      | inr later ↦ others rest later
    ]

-- and where each of these lists shows no more, none is longer
pub few_shown : (limit : ℕ) (t : Table) (lists : List ℕ)
    → ((list : ℕ) → Contains lists list → length (shows_in t list) ≤ limit)
    → first_longer limit t lists ≡ None
few_shown limit t [] few = refl
few_shown limit t (first ∷ lists) few =
    by_length (nat_le (length (shows_in t first)) limit)
    (le-leb (length (shows_in t first)) limit (few first (Contains-here first lists first refl)))
    (few_shown limit t lists (λ list c. few list (Contains-later first lists list c)))
  where
    by_length : (b : Bool) → b ≡ true → first_longer limit t lists ≡ None
        → cond b (first_longer limit t lists) (Some (TooLong first (length (shows_in t first))))
        ≡ None
    by_length true e rest = rest
    by_length false e rest = absurd cc
