-- The sections that an order leaves may be taken, writer by writer, and then none is left.
use Rattle.std.proofs.Common.{◌≡◌, ◌≢◌, ◌∙◌, ◌<◌, ◌≤◌, ◌+◌, ◌-◌, ◌==◌, ◌++◌, ℕ, zero, suc, Bool, true, false, cond, eq-eqb, ◌⊎◌, List, [], ◌∷◌, length, flat_map, replicate, refl, ap, sym, subst, arith, inl, inr}
use Rattle.std.specs.Prelude.{Some, None, nat_lt}
use Rattle.std.specs.List.{range_with_len}
use Rattle.std.proofs.lemmas.Bool.{lt-ltb, ne_eqb, cases_lt, cases_eq}
use Rattle.std.proofs.lemmas.List.{append_assoc, append-nil}
use Rattle.gl_outside.specs.declared.gate.Actor.{Actor}
use Rattle.gl_outside.specs.declared.gate.Actor.TheVariants.{Writer}
use Rattle.spec_plans.specs.Plan.{Plan, sections_of}
use Rattle.spec_runs.specs.Entry.{taken_by}
use Rattle.spec_runs.specs.Run.{left_to}
use Rattle.spec_runs.specs.Fits.{no_section, no_writer, reason_at, bad_place_from}
use Rattle.spec_runs.specs.Closing.{sections_left}
use Rattle.spec_runs.proofs.Runs.{taken_more}
use Rattle.spec_runs.proofs.Proxies.{places_apart}

-- what is left of an order fits after what was taken
abbrev pub FitsOn : Plan → List Actor → List Actor → Type 0
FitsOn p before rest = bad_place_from p before rest ≡ None

-- an actor that may take the next entry, and then others that may
pub fits_first : (p : Plan) (before : List Actor) (a : Actor) (rest : List Actor)
    → reason_at p before a ≡ None → FitsOn p (before ++ a ∷ []) rest → FitsOn p before (a ∷ rest)
fits_first p before a rest none later = rw none later

pub fits_append : (p : Plan) (before xs ys : List Actor) → FitsOn p before xs
    → FitsOn p (before ++ xs) ys → FitsOn p before (xs ++ ys)
fits_append p before [] ys h g = subst (λ o. FitsOn p o ys) (append-nil before) g
fits_append p before (a ∷ xs) ys h g =
    let places = places_apart p before a xs h in
    fits_first p before a (xs ++ ys) places.0
    (fits_append p (before ++ a ∷ []) xs ys places.1
    (subst (λ o. FitsOn p o ys) (sym (append_assoc before (a ∷ []) xs)) g))

-- ---- one writer

pub may_take : (p : Plan) (before : List Actor) (w : ℕ) → w < length p.writers
    → taken_by w before < length (sections_of p w) → reason_at p before (Writer w) ≡ None
may_take p before w there left =
    by_tests (nat_lt w (length p.writers)) (nat_lt (taken_by w before) (length (sections_of p w)))
    (lt-ltb w (length p.writers) there) (lt-ltb (taken_by w before) (length (sections_of p w)) left)
  where
    by_tests : (b c : Bool) → b ≡ true → c ≡ true
        → cond b (cond c None (Some no_section)) (Some no_writer) ≡ None
    by_tests true true e f = refl
    by_tests true false e f = absurd cc
    by_tests false c e f = absurd cc

-- so many more sections of a writer
pub taken_many : (v w : ℕ) (before : List Actor) (k : ℕ)
    → taken_by v (before ++ replicate k (Writer w)) ≡ taken_by v before + cond (w == v) k 0
taken_many v w before zero =
    ap (taken_by v) (append-nil before) ∙ by_test (w == v)
  where
    by_test : (b : Bool) → taken_by v before ≡ taken_by v before + cond b 0 0
    by_test true = omega arith
    by_test false = omega arith
taken_many v w before (suc k) =
    ap (taken_by v) (sym (append_assoc before (Writer w ∷ []) (replicate k (Writer w))))
    ∙ taken_many v w (before ++ Writer w ∷ []) k ∙ by_test (w == v) (taken_more v before (Writer w))
  where
    by_test : (b : Bool) → taken_by v (before ++ Writer w ∷ []) ≡ taken_by v before + cond b 1 0
        → taken_by v (before ++ Writer w ∷ []) + cond b k 0 ≡ taken_by v before + cond b (suc k) 0
    by_test true e = omega (arith, e)
    by_test false e = omega (arith, e)

pub sections_fit : (p : Plan) (before : List Actor) (w k : ℕ) → w < length p.writers
    → k ≤ length (sections_of p w) - taken_by w before → FitsOn p before (replicate k (Writer w))
sections_fit p before w zero there low = refl
sections_fit p before w (suc k) there low =
    let one : taken_by w (before ++ Writer w ∷ []) ≡ taken_by w before + 1 =
    taken_more w before (Writer w) ∙ ap (λ b. taken_by w before + cond b 1 0) (eq-eqb w w refl) in
    fits_first p before (Writer w) (replicate k (Writer w)) (may_take p before w there (omega (arith, low)))
    (sections_fit p (before ++ Writer w ∷ []) w k there (omega (arith, low, one)))

-- ---- all writers, from one on

-- the sections that an order leaves to so many writers from one on
abbrev pub left_from : Plan → List Actor → ℕ → ℕ → List Actor
left_from p order at n = flat_map (λ w. replicate (left_to p w order) (Writer w)) (range_with_len at n)

-- the sections of the writers from one on are those that the order left
pub record Ready (p : Plan) (order before : List Actor) (at : ℕ) : Type 0 where
  pub same : (w : ℕ) → at ≤ w → taken_by w before ≡ taken_by w order
  pub done : (w : ℕ) → w < at → left_to p w before ≡ 0

-- what has been taken when the sections of these writers are
pub finished_from : (p : Plan) (order before : List Actor) (at n : ℕ) → at + n ≡ length p.writers
    → Ready p order before at
    → FitsOn p before (left_from p order at n)
    × ((w : ℕ) → w < length p.writers → left_to p w (before ++ left_from p order at n) ≡ 0)
finished_from p order before at zero all ready =
    (refl, λ w low. ap (left_to p w) (append-nil before) ∙ ready.done w (omega (arith, all, low)))
finished_from p order before at (suc n) all ready =
    let mine : List Actor = replicate (left_to p at order) (Writer at) in
    let then : List Actor = before ++ mine in
    let same : taken_by at before ≡ taken_by at order = ready.same at (omega arith) in
    let next : Ready p order then (at + 1) = record {
      same = λ w high.
          taken_many w at before (left_to p at order)
          ∙ ap (λ b. taken_by w before + cond b (left_to p at order) 0)
          (ne_eqb at w (λ e. absurd (omega (arith, e, high))))
          ∙ omega (arith, ready.same w (omega (arith, high)));
      done = λ w low. still w low (cases_eq at w);
    } in
    let rest = finished_from p order then (at + 1) n (omega (arith, all)) next in (
      fits_append p before mine (left_from p order (at + 1) n)
          (sections_fit p before at (left_to p at order) (omega (arith, all)) (omega (arith, same))) rest.0,
      λ w low. ap (left_to p w) (sym (append_assoc before mine (left_from p order (at + 1) n))) ∙ rest.1 w low,
    )
  where
    below : (w : ℕ) → w < at + 1 → at ≢ w → w < at
    below w low ne = elim (cases_lt w at) [
      | inl under ↦ under
      | inr high ↦ absurd (ne (omega (arith, low, high)))
    ]

    still : (w : ℕ) → w < at + 1 → (at ≡ w) ⊎ (at ≢ w)
        → left_to p w (before ++ replicate (left_to p at order) (Writer at)) ≡ 0
    still w low (inl e) =
        let then : List Actor = before ++ replicate (left_to p at order) (Writer at) in
        let taken : taken_by at then ≡ taken_by at before + left_to p at order =
        taken_many at at before (left_to p at order)
        ∙ ap (λ b. taken_by at before + cond b (left_to p at order) 0) (eq-eqb at at refl) in
        let same : taken_by at before ≡ taken_by at order = ready.same at (omega arith) in
        subst (λ v. left_to p v then ≡ 0) e (omega (arith, taken, same))
    still w low (inr ne) =
        let taken : taken_by w (before ++ replicate (left_to p at order) (Writer at)) ≡ taken_by w before =
        taken_many w at before (left_to p at order)
        ∙ ap (λ b. taken_by w before + cond b (left_to p at order) 0) (ne_eqb at w ne) ∙ omega arith in
        ap (λ n. length (sections_of p w) - n) taken ∙ ready.done w (below w low ne)

-- what an order leaves may be taken, and then no section is left
pub sections_finish : (p : Plan) (order : List Actor)
    → FitsOn p order (sections_left p order)
    × ((w : ℕ) → w < length p.writers → left_to p w (order ++ sections_left p order) ≡ 0)
sections_finish p order =
    finished_from p order order 0 (length p.writers) (omega arith)
    (record { same = λ w high. refl; done = λ w low. absurd (omega (arith, low)) })
