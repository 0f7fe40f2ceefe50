-- UTF-8 that is cut at a byte below 128 is UTF-8 on both sides.
use Rattle.std.proofs.Common.{◌≡◌, ◌∙◌, ℕ, ◌+◌, ◌<◌, true, List, [], ◌∷◌, ◌++◌, refl, sym, ap, subst, inl, inr, arith}
use Rattle.std.specs.Str.{IsUtf8}
use Rattle.std.proofs.lemmas.Str.{IsUtf8-append, IsUtf8-encode, IsUtf8-nil}
use Rattle.std.proofs.lemmas.Bool.{cases_lt, and_parts}
use lib.Utf8.{encode, encodes, scalar, scalars}
use Rattle.spec_syntax.proofs.BlockTexts.{AllHigh, one_byte, high}

-- the two sides of a cut
abbrev Halves : List ℕ → List ℕ → Type 0
Halves u v = IsUtf8 u × IsUtf8 v

-- high bytes that stand before the cut
past_high : (c : ℕ) (hs u v rest : List ℕ) → c < 128 → AllHigh hs → u ++ c ∷ v ≡ hs ++ rest → (w : List ℕ) × (u ≡ hs ++ w) × (w ++ c ∷ v ≡ rest)
past_high c [] u v rest low h e = (u, refl, e)
past_high c (b ∷ hs) [] v rest low h e = let same : c ≡ b = cc in absurd (omega (arith, h.0))
past_high c (b ∷ hs) (d ∷ u) v rest low h e =
    let same : d ≡ b = cc in
    let remaining : u ++ c ∷ v ≡ hs ++ rest = cc in
    let more = past_high c hs u v rest low h.1 remaining in
    (more.0, ap (λ x. x ∷ u) same ∙ ap (λ xs. b ∷ xs) more.1, more.2)

-- a character of one byte in front
past_low : (c d : ℕ) (cs u v : List ℕ) → d < 128 → scalar d ≡ true → scalars cs ≡ true → u ++ c ∷ v ≡ d ∷ encodes cs
    → ((w : List ℕ) → w ++ c ∷ v ≡ encodes cs → Halves w v) → Halves u v
past_low c d cs [] v small one others e more = let remaining : encodes cs ≡ v = cc in (IsUtf8-nil, (cs, (others, remaining)))
past_low c d cs (b ∷ u) v small one others e more =
    let same : d ≡ b = cc in
    let remaining : u ++ c ∷ v ≡ encodes cs = cc in
    let halves = more u remaining in
    let first : IsUtf8 (b ∷ []) = subst IsUtf8 (one_byte d small ∙ ap (λ x. x ∷ []) same) (IsUtf8-encode d one) in
    (IsUtf8-append (b ∷ []) u first halves.0, halves.1)

cut_chars : (c : ℕ) (cs u v : List ℕ) → c < 128 → scalars cs ≡ true → u ++ c ∷ v ≡ encodes cs → Halves u v
cut_chars c [] [] v low sc e = absurd cc
cut_chars c [] (b ∷ u) v low sc e = absurd cc
cut_chars c (d ∷ cs) u v low sc e =
    let parts = and_parts (scalar d) (scalars cs) sc in
    elim (cases_lt d 128) [
      | inl small ↦
          past_low c d cs u v small parts.0 parts.1 (e ∙ ap (λ bs. bs ++ encodes cs) (one_byte d small)) (λ w f. cut_chars c cs w v low parts.1 f)
      | inr big ↦
          let to = past_high c (encode d) u v (encodes cs) low (high d big) e in
          let halves = cut_chars c cs to.0 v low parts.1 to.2 in
          (subst IsUtf8 (sym to.1) (IsUtf8-append (encode d) to.0 (IsUtf8-encode d parts.0) halves.0), halves.1)
    ]

pub utf8_cut : (c : ℕ) (u v : List ℕ) → c < 128 → IsUtf8 (u ++ c ∷ v) → IsUtf8 u × IsUtf8 v
utf8_cut c u v low t = cut_chars c t.0 u v low t.1.0 (sym t.1.1)
