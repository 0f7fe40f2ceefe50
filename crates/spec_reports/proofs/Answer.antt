-- A call comes to one outcome: to one at most, and to some.
use Rattle.std.proofs.Common.{◌≡◌, ◌∙◌, ◌⊎◌, ℕ, ◌<◌, ◌≤◌, List, length, refl, sym, ap, subst, inl, inr, arith}
use Rattle.std.proofs.lemmas.Bool.{cases_lt}
use Rattle.spec_plans.specs.Plan.{Plan}
use Rattle.spec_plans.specs.declared.fault.FaultAt.{FaultAt}
use Rattle.spec_plan_texts.specs.Text.{SpellsPlan, FirstFault, SpellsCycle}
use Rattle.spec_plan_texts.proofs.OneText.{one_plan, one_fault, one_cycle, plan_or_fault, plan_or_cycle, cycle_or_fault}
use Rattle.spec_plan_texts.proofs.SomeText.{IsText, some_text}
use Rattle.gl_outside.specs.declared.gate.Actor.{Actor}
use Rattle.spec_reports.specs.Words.{Request, check, replay, run, big, Asks}
use Rattle.spec_reports.specs.Answer.{Outcome, usage, too_large, faulty, circular, reported, most_bytes, answer_of, Reads, ComesTo, no_form, a_size, large, a_fault, a_cycle, a_plan}
use Rattle.spec_reports.specs.Big.{big_summary}
use Rattle.spec_reports.proofs.Words.{one_request, one_size, asked_or_not}

-- what a request for the plan of a text comes to, by what the text is
abbrev ByText : List ℕ → List Actor → Request → Outcome → Type 0
ByText bytes taken r o =
    ((f : FaultAt) × FirstFault bytes f × (o ≡ faulty f))
    ⊎ ((names : List (List ℕ)) × SpellsCycle bytes names × (o ≡ circular names))
    ⊎ ((p : Plan) × SpellsPlan bytes p × (o ≡ answer_of r taken p))

one_by_text : (bytes : List ℕ) (taken : List Actor) (r : Request) (a b : Outcome) → ByText bytes taken r a → ByText bytes taken r b
    → a ≡ b
one_by_text bytes taken r a b (inl h) (inl k) = h.2 ∙ ap faulty (one_fault bytes h.0 k.0 h.1 k.1) ∙ sym k.2
one_by_text bytes taken r a b (inl h) (inr (inl k)) = absurd (cycle_or_fault bytes k.0 h.0 k.1 h.1)
one_by_text bytes taken r a b (inl h) (inr (inr k)) = absurd (plan_or_fault bytes k.0 h.0 k.1 h.1)
one_by_text bytes taken r a b (inr (inl h)) (inl k) = absurd (cycle_or_fault bytes h.0 k.0 h.1 k.1)
one_by_text bytes taken r a b (inr (inl h)) (inr (inl k)) = h.2 ∙ ap circular (one_cycle bytes h.0 k.0 h.1 k.1) ∙ sym k.2
one_by_text bytes taken r a b (inr (inl h)) (inr (inr k)) = absurd (plan_or_cycle bytes k.0 h.0 k.1 h.1)
one_by_text bytes taken r a b (inr (inr h)) (inl k) = absurd (plan_or_fault bytes h.0 k.0 h.1 k.1)
one_by_text bytes taken r a b (inr (inr h)) (inr (inl k)) = absurd (plan_or_cycle bytes h.0 k.0 h.1 k.1)
one_by_text bytes taken r a b (inr (inr h)) (inr (inr k)) =
    h.2 ∙ ap (answer_of r taken) (one_plan bytes h.0 k.0 h.1 k.1) ∙ sym k.2

-- the same, by the size of the text
abbrev BySize : List ℕ → List Actor → Request → Outcome → Type 0
BySize bytes taken r o =
    ((most_bytes < length bytes) × (o ≡ too_large)) ⊎ ((length bytes ≤ most_bytes) × ByText bytes taken r o)

one_by_size : (bytes : List ℕ) (taken : List Actor) (r : Request) (a b : Outcome) → BySize bytes taken r a → BySize bytes taken r b
    → a ≡ b
one_by_size bytes taken r a b (inl h) (inl k) = h.1 ∙ sym k.1
one_by_size bytes taken r a b (inl h) (inr k) = absurd (omega (arith, h.0, k.0))
one_by_size bytes taken r a b (inr h) (inl k) = absurd (omega (arith, h.0, k.0))
one_by_size bytes taken r a b (inr h) (inr k) = one_by_text bytes taken r a b h.1 k.1

-- the same, by the words
abbrev ByWords : List (List ℕ) → List ℕ → List Actor → Outcome → Type 0
ByWords words bytes taken o =
    (((r : Request) → ¬ Asks words r) × (o ≡ usage))
    ⊎ ((n : ℕ) × Asks words (big n) × (o ≡ reported (big_summary n)))
    ⊎ ((r : Request) × Asks words r × Reads r × BySize bytes taken r o)

by_words : (words : List (List ℕ)) (bytes : List ℕ) (taken : List Actor) (o : Outcome) → ComesTo words bytes taken o
    → ByWords words bytes taken o
by_words words bytes taken o (no_form none) = inl (none, refl)
by_words words bytes taken o (a_size n asks) = inr (inl (n, asks, refl))
by_words words bytes taken o (large r asks reads l) = inr (inr (r, asks, reads, inl (l, refl)))
by_words words bytes taken o (a_fault r f asks reads l h) = inr (inr (r, asks, reads, inr (l, inl (f, h, refl))))
by_words words bytes taken o (a_cycle r names asks reads l h) =
    inr (inr (r, asks, reads, inr (l, inr (inl (names, h, refl)))))
by_words words bytes taken o (a_plan r p asks reads l h e) = inr (inr (r, asks, reads, inr (l, inr (inr (p, h, e)))))

-- words that ask for a size ask for no plan
pub size_or_plan : (words : List (List ℕ)) (n : ℕ) (r : Request) → Asks words (big n) → Asks words r → Reads r → ⊥
size_or_plan words n r h k reads = subst Reads (one_request words r (big n) k h) reads

one_by_words : (words : List (List ℕ)) (bytes : List ℕ) (taken : List Actor) (a b : Outcome) → ByWords words bytes taken a
    → ByWords words bytes taken b → a ≡ b
one_by_words words bytes taken a b (inl h) (inl k) = h.1 ∙ sym k.1
one_by_words words bytes taken a b (inl h) (inr (inl k)) = absurd (h.0 (big k.0) k.1)
one_by_words words bytes taken a b (inl h) (inr (inr k)) = absurd (h.0 k.0 k.1)
one_by_words words bytes taken a b (inr (inl h)) (inl k) = absurd (k.0 (big h.0) h.1)
one_by_words words bytes taken a b (inr (inl h)) (inr (inl k)) =
    h.2 ∙ ap (λ n. reported (big_summary n)) (one_size words h.0 k.0 h.1.1 k.1.1) ∙ sym k.2
one_by_words words bytes taken a b (inr (inl h)) (inr (inr k)) = absurd (size_or_plan words h.0 k.0 h.1 k.1 k.2)
one_by_words words bytes taken a b (inr (inr h)) (inl k) = absurd (k.0 h.0 h.1)
one_by_words words bytes taken a b (inr (inr h)) (inr (inl k)) = absurd (size_or_plan words k.0 h.0 k.1 h.1 h.2)
one_by_words words bytes taken a b (inr (inr h)) (inr (inr k)) =
    one_by_size bytes taken h.0 a b h.3
    (subst (λ (r : Request). BySize bytes taken r b) (one_request words k.0 h.0 k.1 h.1) k.3)

-- whatever the words and the bytes come to, they come to nothing else
pub one_outcome_of : (words : List (List ℕ)) (bytes : List ℕ) (taken : List Actor) (a b : Outcome) → ComesTo words bytes taken a
    → ComesTo words bytes taken b → a ≡ b
one_outcome_of words bytes taken a b h k =
    one_by_words words bytes taken a b (by_words words bytes taken a h) (by_words words bytes taken b k)

-- the words and the bytes come to something
abbrev SomeOutcome : List (List ℕ) → List ℕ → List Actor → Type 0
SomeOutcome words bytes taken = (o : Outcome) × ComesTo words bytes taken o

some_by_text : (words : List (List ℕ)) (bytes : List ℕ) (taken : List Actor) (r : Request) → Asks words r → Reads r
    → length bytes ≤ most_bytes → IsText bytes → SomeOutcome words bytes taken
some_by_text words bytes taken r asks reads l (inl h) = (faulty h.0, a_fault r h.0 asks reads l h.1)
some_by_text words bytes taken r asks reads l (inr (inl h)) = (circular h.0, a_cycle r h.0 asks reads l h.1)
some_by_text words bytes taken r asks reads l (inr (inr h)) =
    (answer_of r taken h.0, a_plan r h.0 asks reads l h.1 refl)

some_by_size : (words : List (List ℕ)) (bytes : List ℕ) (taken : List Actor) (r : Request) → Asks words r → Reads r
    → SomeOutcome words bytes taken
some_by_size words bytes taken r asks reads =
    elim (cases_lt most_bytes (length bytes)) as (λ _. SomeOutcome words bytes taken) [
      | inl l ↦ (too_large, large r asks reads l)
      | inr l ↦ some_by_text words bytes taken r asks reads l (some_text bytes)
    ]

some_for : (words : List (List ℕ)) (bytes : List ℕ) (taken : List Actor) (r : Request) → Asks words r
    → SomeOutcome words bytes taken
some_for words bytes taken check asks = some_by_size words bytes taken check asks tt
some_for words bytes taken (replay order) asks = some_by_size words bytes taken (replay order) asks tt
some_for words bytes taken run asks = some_by_size words bytes taken run asks tt
some_for words bytes taken (big n) asks = (reported (big_summary n), a_size n asks)

-- whatever the words and the bytes, they come to something
pub some_outcome_of : (words : List (List ℕ)) (bytes : List ℕ) (taken : List Actor) → (o : Outcome) × ComesTo words bytes taken o
some_outcome_of words bytes taken = elim (asked_or_not words) as (λ _. SomeOutcome words bytes taken) [
  | inl r ↦ some_for words bytes taken r.0 r.1
  | inr none ↦ (usage, no_form none)
]
