-- Reading the words of a table.
use Rattle.std.proofs.Common.{◌≡◌, ℕ, ◌+◌, ◌≤◌, min, true, cond, eqb, List, [], ◌∷◌, ◌++◌, length, refl, sym, ap, ◌∙◌, subst, inl, inr, arith, IsTrue}
use Rattle.std.specs.List.{AllByRecursion}
use Rattle.std.proofs.lemmas.Bool.{cases_Bool, false≢true}
use Rattle.std.proofs.lemmas.Bool.Decides.{nat_tests}
use Rattle.spec_syntax.specs.Grammar.{Grammar, differ, AreApart}
use Rattle.spec_syntax.specs.Reader.{Step, found, stopped, Reader, made, on, read_word, nearer, table}
use Rattle.spec_syntax.proofs.Missed.{missed_most}
use Rattle.spec_syntax.proofs.ReadSteps.{Tails, Stops, IsStep, Reads}
use Rattle.spec_syntax.proofs.Joints.{after_on, later_stops}
use Rattle.spec_syntax.proofs.Tables.{differ_inverse}
use Rattle.gl_line_reader.proofs.Joins.{word_length}

-- the row whose word stands
pub row_stands : {K : Type 0} (w : List ℕ) (k : K) (rows : List (List ℕ × K)) (bs rest : List ℕ) (least : ℕ) → read_word w bs ≡ found tt rest → nearer (stopped least) (table found ((w, k) ∷ rows) bs) ≡ found k rest
row_stands {K = K} w k rows bs rest least h =
    ap (λ st. nearer (stopped least) (nearer (made {A = Unit {0} × K} (λ ab. ab.1) (on st (λ a left. made (λ b. (a, b)) (found k left)))) (table found rows bs))) h

nearer_least : {A : Type 0} (a b : ℕ) (st : Step A) → nearer (stopped a) (nearer (stopped b) st) ≡ nearer (stopped (min a b)) st
nearer_least a b (found x rest) = refl
nearer_least a b (stopped c) = ap stopped (let e : min a (min b c) ≡ min (min a b) c = omega arith in e)

-- a row whose word doesn't stand
pub row_falls : {K : Type 0} (w : List ℕ) (k : K) (rows : List (List ℕ × K)) (bs : List ℕ) (least left : ℕ) → read_word w bs ≡ stopped left → nearer (stopped least) (table found ((w, k) ∷ rows) bs) ≡ nearer (stopped (min least left)) (table found rows bs)
row_falls {K = K} w k rows bs least left h =
    ap (λ st. nearer (stopped least) (nearer (made {A = Unit {0} × K} (λ ab. ab.1) (on st (λ a rest. made (λ b. (a, b)) (found k rest)))) (table found rows bs))) h
    ∙ nearer_least least left (table found rows bs)

pub no_row : {K : Type 0} (bs : List ℕ) (least : ℕ) → least ≤ length bs → nearer {A = K} (stopped least) (stopped (length bs)) ≡ stopped least
no_row bs least h = ap stopped (let e : min least (length bs) ≡ least = omega arith in e)

word_step : {K : Type 0} (k : K) (n : ℕ) (st : Step (Unit {0})) (more : Step K) → nearer (stopped n) more ≡ more → nearer (stopped n) (nearer (made {A = Unit {0} × K} (λ ab. ab.1) (on st (λ a rest. made (λ b. (a, b)) (found k rest)))) more) ≡ nearer (made {A = Unit {0} × K} (λ ab. ab.1) (on st (λ a rest. made (λ b. (a, b)) (found k rest)))) more
word_step k n (found u rest) more h = refl
word_step k n (stopped left) (found x rest) h = refl
word_step {K = K} k n (stopped left) (stopped c) h = ap stopped (let e : min n (min left c) ≡ min left c = omega (arith, ap left_of h) in e)
  where
    left_of : Step K → ℕ
    left_of (found x rest) = 0
    left_of (stopped c) = c

-- no row stops further from the end than the bytes are
pub all_least : {K : Type 0} (rows : List (List ℕ × K)) (bs : List ℕ) → nearer (stopped (length bs)) (table found rows bs) ≡ table found rows bs
all_least [] bs = ap stopped (let e : min (length bs) (length bs) ≡ length bs = omega arith in e)
all_least (row ∷ rows) bs = word_step row.1 (length bs) (read_word row.0 bs) (table found rows bs) (all_least rows bs)

-- a table with other keys
abbrev pub renamed : {J K : Type 0} → (J → K) → List (List ℕ × J) → List (List ℕ × K)
renamed f [] = []
renamed f (row ∷ rows) = (row.0, f row.1) ∷ renamed f rows

-- the reader leaves no more than there is
abbrev pub IsShort : {A : Type 0} → Reader A → Type 0
IsShort r = (bs : List ℕ) (left : ℕ) → r bs ≡ stopped left → left ≤ length bs

word_le : (w bs rest : List ℕ) → read_word w bs ≡ found tt rest → length rest ≤ length bs
word_le w bs rest h = omega (arith, word_length w bs rest h)

-- where the reading of a word stops, no nearer to the end than this
abbrev StopsBy : List ℕ → List ℕ → List ℕ → Type 0
StopsBy x bs rest = (left : ℕ) × (read_word x bs ≡ stopped left) × (length rest ≤ left)

both_same : (c d b : ℕ) → eqb c b ≡ true → eqb d b ≡ true → eqb c d ≡ true
both_same c d b h g = grind (arith, nat_tests)

-- where a word stands, one that differs stops before its end
apart_stops : (w x bs rest : List ℕ) → differ w x ≡ true → read_word w bs ≡ found tt rest → StopsBy x bs rest
apart_stops [] x bs rest d h = absurd (false≢true d)
apart_stops (c ∷ w) [] bs rest d h = absurd (false≢true d)
apart_stops (c ∷ w) (e ∷ x) [] rest d h = cc
apart_stops (c ∷ w) (e ∷ x) (b ∷ bs) rest d h = elim (cases_Bool (eqb c b)) as (λ _. StopsBy (e ∷ x) (b ∷ bs) rest) [
  | inl p ↦
      let stands : read_word w bs ≡ found tt rest = sym (ap (λ y. cond y (read_word w bs) (stopped (length bs + 1))) p) ∙ h in
      elim (cases_Bool (eqb e b)) as (λ _. StopsBy (e ∷ x) (b ∷ bs) rest) [
        | inl q ↦
            let more = apart_stops w x bs rest (sym (ap (λ y. cond y (differ w x) true) (both_same c e b p q)) ∙ d) stands in
            (more.0, ap (λ y. cond y (read_word x bs) (stopped (length bs + 1))) q ∙ more.1, more.2)
        | inr q ↦ (length bs + 1, ap (λ y. cond y (read_word x bs) (stopped (length bs + 1))) q, omega (arith, word_le w bs rest stands))
      ]
  | inr p ↦ let clash : stopped (length bs + 1) ≡ found tt rest = sym (ap (λ y. cond y (read_word w bs) (stopped (length bs + 1))) p) ∙ h in cc
]

-- where a word stands, none of those that differ does
others_stop : {J K A : Type 0} (f : J → K) (form : K → Reader A) (w : List ℕ) (rows : List (List ℕ × J)) (bs rest : List ℕ) → AllByRecursion (λ other. IsTrue (differ w other.0)) rows → read_word w bs ≡ found tt rest → (left : ℕ) × (table form (renamed f rows) bs ≡ stopped left) × (length rest ≤ left)
others_stop f form w [] bs rest d h = (length bs, refl, word_le w bs rest h)
others_stop f form w (row ∷ rows) bs rest d h =
    let one = apart_stops w row.0 bs rest d.0 h in
    let more = others_stop f form w rows bs rest d.1 h in
    (min one.0 more.0, ap (λ st. nearer st (table form (renamed f rows) bs)) (later_stops row.0 (form (f row.1)) bs one.0 one.1) ∙ ap (nearer (stopped one.0)) more.1, omega (arith, one.2, more.2))

nearer_keeps : {A : Type 0} (st : Step A) (n least : ℕ) → ((left : ℕ) → st ≡ stopped left → left ≤ n) → n ≤ least → nearer st (stopped least) ≡ st
nearer_keeps (found a rest) n least h l = refl
nearer_keeps (stopped left) n least h l = ap stopped (let e : min left least ≡ left = omega (arith, h left refl) in e)

nearer_other : {A : Type 0} (st : Step A) (n least : ℕ) → ((left : ℕ) → st ≡ stopped left → left ≤ n) → n ≤ least → nearer (stopped least) st ≡ st
nearer_other (found a rest) n least h l = refl
nearer_other (stopped left) n least h l = ap stopped (let e : min least left ≡ left = omega (arith, h left refl) in e)

-- a word that doesn't stand stops no nearer than after one of those that differ
stands_by : {J : Type 0} (w : List ℕ) (rows : List (List ℕ × J)) (bs : List ℕ) (least : ℕ) (j : J) (rest : List ℕ) → AllByRecursion (λ other. IsTrue (differ w other.0)) rows → read_word w bs ≡ stopped least → table found rows bs ≡ found j rest → length rest ≤ least
stands_by w [] bs least j rest d h g = cc
stands_by {J = J} w (row ∷ rows) bs least j rest d h g = by_word (read_word row.0 bs) refl (λ k. stands_by w rows bs least j rest d.1 h k)
  where
    rest_is : (a : J) (r : List ℕ) → found a r ≡ found j rest → r ≡ rest
    rest_is a r e = cc

    left_of : Step (Unit {0}) → ℕ
    left_of (found u r) = 0
    left_of (stopped left) = left

    later : (left : ℕ) (st : Step J) → nearer (stopped left) st ≡ found j rest → st ≡ found j rest
    later left (found a r) e = e
    later left (stopped c) e = cc

    by_word : (st : Step (Unit {0})) → read_word row.0 bs ≡ st → (table found rows bs ≡ found j rest → length rest ≤ least) → length rest ≤ least
    by_word (found u r) k ahead =
        let same : r ≡ rest = rest_is row.1 r (sym (ap (λ x. nearer x (table found rows bs)) (after_on row.0 (found row.1) bs r k)) ∙ g) in
        let stops = apart_stops row.0 w bs r (differ_inverse w row.0 d.0) k in
        omega (arith, stops.2, ap length same, ap left_of (sym stops.1 ∙ h))
    by_word (stopped left) k ahead =
        ahead (later left (table found rows bs) (sym (ap (λ x. nearer x (table found rows bs)) (later_stops row.0 (found row.1) bs left k)) ∙ g))

-- a table reads the word first, and then what it calls for
pub table_on : {J K A : Type 0} (f : J → K) (form : K → Reader A) (rows : List (List ℕ × J)) (bs : List ℕ) → AreApart rows → ((k : K) → IsShort (form k)) → table form (renamed f rows) bs ≡ on (table found rows bs) (λ j rest. form (f j) rest)
table_on f form [] bs d short = refl
table_on {J = J} {A = A} f form (row ∷ rows) bs d short = by_word (read_word row.0 bs) refl (table_on f form rows bs d.1 short)
  where
    next : J → Reader A
    next j rest = form (f j) rest

    by_rest : (least : ℕ) (st : Step J) → read_word row.0 bs ≡ stopped least → table found rows bs ≡ st → nearer (stopped least) (on st next) ≡ on (nearer (stopped least) st) next
    by_rest least (found j rest) k g = nearer_other (form (f j) rest) (length rest) least (λ left e. short (f j) rest left e) (stands_by row.0 rows bs least j rest d.0 k g)
    by_rest least (stopped left) k g = refl

    by_word : (st : Step (Unit {0})) → read_word row.0 bs ≡ st → table form (renamed f rows) bs ≡ on (table found rows bs) next → table form (renamed f (row ∷ rows)) bs ≡ on (table found (row ∷ rows) bs) next
    by_word (found u rest) k ahead =
        let others = others_stop f form row.0 rows bs rest d.0 k in
        ap (λ st. nearer st (table form (renamed f rows) bs)) (after_on row.0 (form (f row.1)) bs rest k)
        ∙ ap (nearer (form (f row.1) rest)) others.1
        ∙ nearer_keeps (form (f row.1) rest) (length rest) others.0 (λ left e. short (f row.1) rest left e) others.2
        ∙ sym (ap (λ st. on (nearer st (table found rows bs)) next) (after_on row.0 (found row.1) bs rest k))
    by_word (stopped least) k ahead =
        ap (λ st. nearer st (table form (renamed f rows) bs)) (later_stops row.0 (form (f row.1)) bs least k)
        ∙ ap (nearer (stopped least)) ahead
        ∙ by_rest least (table found rows bs) k refl
        ∙ sym (ap (λ st. on (nearer st (table found rows bs)) next) (later_stops row.0 (found row.1) bs least k))

stops_short : {A : Type 0} (S : Grammar A) (F : Tails) (bs : List ℕ) (left : ℕ) → Stops S F bs left → left ≤ length bs
stops_short S F bs left s = omega (arith, s.near, missed_most (s.text ++ s.tail) bs)

-- a reader of a grammar is short
pub reads_short : {A : Type 0} (S : Grammar A) (F : Tails) (r : Reader A) → ((n : ℕ) → Reads n S F r) → IsShort r
reads_short S F r reads bs left h = stops_short S F bs left (subst (λ st. IsStep S F bs st) h (reads (length bs) bs (omega arith)))
