-- The least so far.
use Rattle.std.proofs.Common.{◌≡◌, ℕ, ◌+◌, ◌<◌, ◌≤◌, inl, inr, min, List, [], ◌∷◌, ◌++◌, Option, Some, None, length, get_or, take, sym, ap, ◌∙◌, subst, arith}
use Rattle.std.proofs.lemmas.Bool.{cases_lt}
use Rattle.std.proofs.lemmas.List.{take_more}
use Rattle.std.proofs.lemmas.List.Elements.{Contains-append_left, Contains-push, Contains-push_cases}
use Rattle.gl_publisher.specs.Shortest.{IsLeast, IsLeastAt, lesser}
use Rattle.spec_basics.proofs.Options.{same_some}

least_push : (f : ℕ × ℕ → Option ℕ) (ps : List (ℕ × ℕ)) (p : ℕ × ℕ) (o v : Option ℕ) → f p ≡ v → IsLeast f ps o → IsLeast f (ps ++ p ∷ []) (lesser o v)
least_push f ps p None None e h = λ q c. elim (Contains-push_cases ps p q c) as (λ _. f q ≡ None) [ inl k ↦ h q k | inr s ↦ ap f (sym s) ∙ e ]
least_push f ps p None (Some b) e h = record {
  pair = p;
  listed = Contains-push ps p;
  gives = e;
  least = λ q d c g. elim (Contains-push_cases ps p q c) as (λ _. b ≤ d) [
    | inl k ↦ let n = h q k in cc
    | inr s ↦ let same = same_some b d (sym e ∙ (ap f s ∙ g)) in omega arith
  ];
}
least_push f ps p (Some a) None e h = record {
  pair = h.pair;
  listed = Contains-append_left ps (p ∷ []) h.pair h.listed;
  gives = h.gives;
  least = λ q d c g. elim (Contains-push_cases ps p q c) as (λ _. a ≤ d) [
    | inl k ↦ h.least q d k g
    | inr s ↦ let n : f q ≡ None = ap f (sym s) ∙ e in cc
  ];
}
least_push f ps p (Some a) (Some b) e h =
    elim (cases_lt b a) as (λ _. IsLeastAt f (ps ++ p ∷ []) (min a b)) [
      | inl lt ↦
          let is_b : b ≡ min a b = omega arith in
          subst (λ (m : ℕ). IsLeastAt f (ps ++ p ∷ []) m) is_b (record {
            pair = p;
            listed = Contains-push ps p;
            gives = e;
            least = λ q d c g. elim (Contains-push_cases ps p q c) as (λ _. b ≤ d) [
              | inl k ↦ omega (arith, h.least q d k g)
              | inr s ↦ let same = same_some b d (sym e ∙ (ap f s ∙ g)) in omega arith
            ];
          })
      | inr ge ↦
          let is_a : a ≡ min a b = omega arith in
          subst (λ (m : ℕ). IsLeastAt f (ps ++ p ∷ []) m) is_a (record {
            pair = h.pair;
            listed = Contains-append_left ps (p ∷ []) h.pair h.listed;
            gives = h.gives;
            least = λ q d c g. elim (Contains-push_cases ps p q c) as (λ _. a ≤ d) [
              | inl k ↦ h.least q d k g
              | inr s ↦ let same = same_some b d (sym e ∙ (ap f s ∙ g)) in omega arith
            ];
          })
    ]

-- one pair more
pub least_more : (f : ℕ × ℕ → Option ℕ) (ps : List (ℕ × ℕ)) (i : ℕ) (d : ℕ × ℕ) (o v : Option ℕ) → i < length ps → f (get_or ps i d) ≡ v → IsLeast f (take i ps) o → IsLeast f (take (i + 1) ps) (lesser o v)
least_more f ps i d o v l e h =
    subst (λ (qs : List (ℕ × ℕ)). IsLeast f qs (lesser o v)) (sym (take_more ps i d l)) (least_push f (take i ps) (get_or ps i d) o v e h)
