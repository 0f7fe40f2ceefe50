-- What contracts see of a list of lengths, and how its tree keeps them.
use Rattle.std.specs.Prelude.{◌≡◌, ◌≤◌, ℕ, List, [], ◌∷◌, map, length, refl}
use Rattle.std.specs.Coded.{Coded, code_by, coded×, coded_ℕ, coded_list}
use Rattle.gl_joined.specs.declared.length.Length.{Length}

-- the lengths in order, and how many there is room for
pub record Kept : Type 0 where
  pub lens : List ℕ
  pub room : ℕ

abbrev pub kept_code : Coded Kept
kept_code =
    code_by (List ℕ × ℕ) (coded× (coded_list coded_ℕ) coded_ℕ) (λ k. (k.lens, k.room))
    (λ p. record { lens = p.0; room = p.1 }) (λ _. refl)

-- the lengths in a tree's entries
abbrev pub lens_of : List (ℕ × Length) → List ℕ
lens_of es = map (λ e. e.1.elements) es

-- each entry counts as one part
abbrev pub AreSingle : List (ℕ × Length) → Type 0
AreSingle [] = Unit {0}
AreSingle (e ∷ es) = (e.1.parts ≡ 1) × AreSingle es

pub record IsKept (es : List (ℕ × Length)) : Type 0 where
  pub single : AreSingle es
  pub few : length es ≤ 4294967294
