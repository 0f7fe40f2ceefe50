-- Words ask for one thing, or for nothing that there is.
use Rattle.std.proofs.Common.{◌≡◌, ◌∙◌, ◌⊎◌, ℕ, zero, suc, ◌≤◌, Bool, true, false, List, [], ◌∷◌, codes, refl, sym, ap, inl, inr, arith, true≢false}
use Rattle.std.specs.Prelude.{bytes_eq, decimal}
use Rattle.std.proofs.lemmas.Bool.{cases_lt}
use Rattle.std.proofs.lemmas.Fmt.{decimal_injective}
use Rattle.gl_outside.specs.declared.gate.Actor.{Actor}
use Rattle.spec_reports.specs.Order.{spelled_order, AsksReplay}
use Rattle.spec_plan_texts.proofs.LineCases.{same_or_not}
use Rattle.spec_reports.specs.Words.{Request, check, replay, run, big, Asks, AsksBig, HaveNoForm}
use Rattle.spec_reports.proofs.Orders.{one_order, order_or_none}

second_word : (w u v : List ℕ) → w ∷ u ∷ [] ≡ w ∷ v ∷ [] → u ≡ v
second_word w u v e = cc

-- the words ask for the replay of one order at most
pub one_replay : (words : List (List ℕ)) (p q : List Actor) → AsksReplay words p → AsksReplay words q → p ≡ q
one_replay words p q h k =
    let same : spelled_order p ≡ spelled_order q =
    second_word (codes "replay") (spelled_order p) (spelled_order q) (sym h.are ∙ k.are) in
    one_order (spelled_order p) p q (refl, h.actors) (same, k.actors)

one_or_two : (u v w : List ℕ) → u ∷ [] ≡ v ∷ w ∷ [] → ⊥
one_or_two u v w e = absurd cc

check_or_replay : (words : List (List ℕ)) (p : List Actor) → words ≡ codes "check" ∷ [] → AsksReplay words p → ⊥
check_or_replay words p e k = one_or_two (codes "check") (codes "replay") (spelled_order p) (sym e ∙ k.are)

check_or_big : (words : List (List ℕ)) (n : ℕ) → words ≡ codes "check" ∷ [] → AsksBig words n → ⊥
check_or_big words n e k = one_or_two (codes "check") (codes "big") (decimal n) (sym e ∙ k.are)

first_of_two : (a b c d : List ℕ) → a ∷ b ∷ [] ≡ c ∷ d ∷ [] → a ≡ c
first_of_two a b c d e = cc

-- the first words differ
other_words : (a b : List ℕ) → a ≡ codes "replay" → b ≡ codes "big" → a ≡ b → ⊥
other_words a b h k e =
    let same : codes "replay" ≡ codes "big" = sym h ∙ e ∙ k in
    let test : true ≡ false = ap (λ w. bytes_eq w (codes "replay")) same in
    true≢false test

replay_or_big : (words : List (List ℕ)) (p : List Actor) (n : ℕ) → AsksReplay words p → AsksBig words n → ⊥
replay_or_big words p n h k =
    other_words (codes "replay") (codes "big") refl refl
    (first_of_two (codes "replay") (spelled_order p) (codes "big") (decimal n) (sym h.are ∙ k.are))

-- the words ask for one size at most
pub one_size : (words : List (List ℕ)) (m n : ℕ) → AsksBig words m → AsksBig words n → m ≡ n
one_size words m n h k =
    decimal_injective m n (omega (arith, h.most)) (omega (arith, k.most))
    (second_word (codes "big") (decimal m) (decimal n) (sym h.are ∙ k.are))

-- the words ask for one thing at most
pub one_request : (words : List (List ℕ)) (a b : Request) → Asks words a → Asks words b → a ≡ b
one_request words check check h k = refl
one_request words check (replay q) h k = absurd (check_or_replay words q h k)
one_request words check (big n) h k = absurd (check_or_big words n h k.1)
one_request words (replay p) check h k = absurd (check_or_replay words p k h)
one_request words (replay p) (replay q) h k = ap replay (one_replay words p q h k)
one_request words (replay p) (big n) h k = absurd (replay_or_big words p n h k.1)
one_request words (big m) check h k = absurd (check_or_big words m k h.1)
one_request words (big m) (replay q) h k = absurd (replay_or_big words q m k h.1)
one_request words (big m) (big n) h k = ap big (one_size words m n h.1 k.1)
one_request words run b h k = absurd h.0
one_request words check run h k = absurd k.0
one_request words (replay p) run h k = absurd k.0
one_request words (big m) run h k = absurd k.0

-- the words ask for something, or for nothing that there is
abbrev Asked : List (List ℕ) → Type 0
Asked words = ((r : Request) × Asks words r) ⊎ HaveNoForm words

no_form : (words : List (List ℕ)) → ¬ (words ≡ codes "check" ∷ []) → ((p : List Actor) → ¬ AsksReplay words p)
    → ((n : ℕ) → ¬ AsksBig words n) → HaveNoForm words
no_form words checked replayed sized check h = checked h
no_form words checked replayed sized (replay p) h = replayed p h
no_form words checked replayed sized run h = h.0
no_form words checked replayed sized (big n) h = sized n h.1

one_word : (w : List ℕ) → Asked (w ∷ [])
one_word w = elim (same_or_not w (codes "check")) as (λ _. Asked (w ∷ [])) [
  | inl e ↦ inl (check, ap (λ x. x ∷ []) e)
  | inr ne ↦ inr (no_form (w ∷ []) (λ e. ne (head w (codes "check") e))
      (λ p h. one_or_two w (codes "replay") (spelled_order p) h.are)
      (λ n h. one_or_two w (codes "big") (decimal n) h.are)
      )
]
  where
    head : (u v : List ℕ) → u ∷ [] ≡ v ∷ [] → u ≡ v
    head u v e = cc

second_of_two : (a b c d : List ℕ) → a ∷ b ∷ [] ≡ c ∷ d ∷ [] → b ≡ d
second_of_two a b c d e = cc

replayed_word : (w b : List ℕ) → w ≡ codes "replay" → Asked (w ∷ b ∷ [])
replayed_word w b e = elim (order_or_none b) as (λ _. Asked (w ∷ b ∷ [])) [
  | inl some ↦
      let are = ap (λ x. x ∷ b ∷ []) e ∙ ap (λ x. codes "replay" ∷ x ∷ []) some.1.0 in
      inl (replay some.0, record { are = are; actors = some.1.1 })
  | inr none ↦ inr (no_form (w ∷ b ∷ []) (λ f. one_or_two (codes "check") w b (sym f))
      (λ p h. none p (second_of_two w b (codes "replay") (spelled_order p) h.are, h.actors))
      (λ n h. other_words w (codes "big") e refl (first_of_two w b (codes "big") (decimal n) h.are))
      )
]

-- bytes spell a size up to some size
abbrev Sized : List ℕ → ℕ → Type 0
Sized b most = (n : ℕ) × (1 ≤ n) × (n ≤ most) × (b ≡ decimal n)

-- none of the sizes up to one is spelled so, and neither is the next
none_up_to : (b : List ℕ) (most : ℕ) → ¬ Sized b most → ¬ (b ≡ decimal (suc most)) → ¬ Sized b (suc most)
none_up_to b most none other s = elim (cases_lt most s.0) as (λ _. ⊥) [
  | inl l ↦ let last : s.0 ≡ suc most = omega (arith, l, s.2) in other (s.3 ∙ ap decimal last)
  | inr l ↦ none (s.0, s.1, l, s.3)
]

size_or_none : (b : List ℕ) (most : ℕ) → Sized b most ⊎ (¬ Sized b most)
size_or_none b zero = inr (λ s. absurd (omega (arith, s.1, s.2)))
size_or_none b (suc most) = elim (same_or_not b (decimal (suc most))) as (λ _. Sized b (suc most) ⊎ (¬ Sized b (suc most))) [
  | inl e ↦ inl (suc most, omega arith, omega arith, e)
  | inr ne ↦ elim (size_or_none b most) as (λ _. Sized b (suc most) ⊎ (¬ Sized b (suc most))) [
    | inl s ↦ inl (s.0, s.1, omega (arith, s.2), s.3)
    | inr none ↦ inr (none_up_to b most none ne)
  ]
]

sized_word : (w b : List ℕ) → w ≡ codes "big" → Asked (w ∷ b ∷ [])
sized_word w b e = elim (size_or_none b 10000) as (λ _. Asked (w ∷ b ∷ [])) [
  | inl s ↦
      let are = ap (λ x. x ∷ b ∷ []) e ∙ ap (λ x. codes "big" ∷ x ∷ []) s.3 in
      inl (big s.0, (tt, record { are = are; least = s.1; most = s.2 }))
  | inr none ↦ inr (no_form (w ∷ b ∷ []) (λ f. one_or_two (codes "check") w b (sym f))
      (λ p h. other_words (codes "replay") w refl e
      (sym (first_of_two w b (codes "replay") (spelled_order p) h.are)))
      (λ n h. none (n, h.least, h.most, second_of_two w b (codes "big") (decimal n) h.are))
      )
]

two_words : (w b : List ℕ) → Asked (w ∷ b ∷ [])
two_words w b = elim (same_or_not w (codes "replay")) as (λ _. Asked (w ∷ b ∷ [])) [
  | inl e ↦ replayed_word w b e
  | inr ne ↦ elim (same_or_not w (codes "big")) as (λ _. Asked (w ∷ b ∷ [])) [
    | inl e ↦ sized_word w b e
    | inr other ↦ inr (no_form (w ∷ b ∷ []) (λ f. one_or_two (codes "check") w b (sym f))
        (λ p h. ne (first_of_two w b (codes "replay") (spelled_order p) h.are))
        (λ n h. other (first_of_two w b (codes "big") (decimal n) h.are))
        )
  ]
]

more_words : (w b c : List ℕ) (words : List (List ℕ)) → Asked (w ∷ b ∷ c ∷ words)
more_words w b c words = inr (no_form (w ∷ b ∷ c ∷ words) one (λ p h. two (codes "replay") (spelled_order p) h.are)
    (λ n h. two (codes "big") (decimal n) h.are))
  where
    one : w ∷ b ∷ c ∷ words ≡ codes "check" ∷ [] → ⊥
    one e = absurd cc

    two : (u v : List ℕ) → w ∷ b ∷ c ∷ words ≡ u ∷ v ∷ [] → ⊥
    two u v e = absurd cc

no_words : (words : List (List ℕ)) → words ≡ [] → Asked words
no_words words none = inr (no_form words one (λ p h. two (codes "replay") (spelled_order p) h.are)
    (λ n h. two (codes "big") (decimal n) h.are))
  where
    one : words ≡ codes "check" ∷ [] → ⊥
    one e = absurd cc

    two : (u v : List ℕ) → words ≡ u ∷ v ∷ [] → ⊥
    two u v e = absurd cc

pub asked_or_not : (words : List (List ℕ)) → ((r : Request) × Asks words r) ⊎ HaveNoForm words
asked_or_not [] = no_words [] refl
asked_or_not (w ∷ []) = one_word w
asked_or_not (w ∷ b ∷ []) = two_words w b
asked_or_not (w ∷ b ∷ c ∷ words) = more_words w b c words
