-- Readers on lists of bytes. A reader takes a thing from the beginning of the bytes, or it stops.
use Rattle.std.specs.Prelude.{ℕ, zero, suc, ◌+◌, Bool, false, ◌==◌, if◌then◌else◌, min, List, [], ◌∷◌, length}

-- what a reader comes to: a thing and the rest of the bytes, or the number of bytes that are left where it stopped
pub data Step (A : Type 0) : Type 0 where
  found : A → List ℕ → Step A
  stopped : ℕ → Step A

abbrev pub Reader : Type 0 → Type 0
Reader A = List ℕ → Step A

-- whether there is a first byte, of a class
abbrev pub first_is : (ℕ → Bool) → List ℕ → Bool
first_is p [] = false
first_is p (b ∷ bs) = p b

-- the thing with a rest, and what is made of it
abbrev pub made : {A B : Type 0} → (A → B) → Step A → Step B
made k (found a rest) = found (k a) rest
made k (stopped left) = stopped left

-- on with the rest
abbrev pub on : {A B : Type 0} → Step A → (A → List ℕ → Step B) → Step B
on (found a rest) next = next a rest
on (stopped left) next = stopped left

abbrev pub nothing : Reader (Unit {0})
nothing bs = found tt bs

abbrev pub byte_of : (ℕ → Bool) → Reader ℕ
byte_of p [] = stopped 0
byte_of p (b ∷ bs) = if p b then found b bs else stopped (length bs + 1)

abbrev pub read_word : List ℕ → Reader (Unit {0})
read_word [] bs = found tt bs
read_word (c ∷ w) [] = stopped 0
read_word (c ∷ w) (b ∷ bs) = if c == b then read_word w bs else stopped (length bs + 1)

-- one after the other
abbrev pub seq : {A B : Type 0} → Reader A → Reader B → Reader (A × B)
seq r q bs = on (r bs) (λ a rest. made (λ b. (a, b)) (q rest))

abbrev pub made_of : {A B : Type 0} → (A → B) → Reader A → Reader B
made_of k r bs = made k (r bs)

-- the first reader where the first byte is of its class, else the second
abbrev pub or_else : {A : Type 0} → (ℕ → Bool) → Reader A → Reader A → Reader A
or_else p r q bs = if first_is p bs then r bs else q bs

abbrev pub after_word : {A : Type 0} → List ℕ → Reader A → Reader A
after_word w r = made_of (λ ab. ab.1) (seq (read_word w) r)

abbrev pub close : {A : Type 0} → Reader A → List ℕ → Reader A
close r w = made_of (λ ab. ab.0) (seq r (read_word w))

abbrev pub sep : {A B : Type 0} → Reader A → List ℕ → Reader B → Reader (A × B)
sep r w q = seq r (after_word w q)

-- as many things as there are, each begun by a byte of the class, and at most so many
abbrev pub repeated : {A : Type 0} → ℕ → (ℕ → Bool) → Reader A → Reader (List A)
repeated zero p r bs = found [] bs
repeated (suc n) p r bs =
    or_else p (made_of (λ ab. ab.0 ∷ ab.1) (seq r (repeated n p r))) (found []) bs

-- as many things as there are
abbrev pub all_of : {A : Type 0} → (ℕ → Bool) → Reader A → Reader (List A)
all_of p r bs = repeated (length bs) p r bs

-- the same, each thing put to what is made of those before it
abbrev pub folded : {A B : Type 0} → (B → A → B) → B → ℕ → (ℕ → Bool) → Reader A → Reader B
folded f b zero p r bs = found b bs
folded f b (suc n) p r bs =
    if first_is p bs then on (r bs) (λ a rest. folded f (f b a) n p r rest) else found b bs

-- an optional thing, begun by a byte of the class
abbrev pub maybe : {A : Type 0} → A → (ℕ → Bool) → Reader A → Reader A
maybe a p r = or_else p r (found a)

-- a byte of a class, and what that byte calls for
abbrev pub lead : {B : Type 0} → (ℕ → Bool) → (ℕ → Reader B) → Reader (ℕ × B)
lead p r [] = stopped 0
lead p r (b ∷ bs) = if p b then made (λ c. (b, c)) (r b bs) else stopped (length bs + 1)

-- the better of two: what was found, else the one that stopped nearer to the end
abbrev pub nearer : {A : Type 0} → Step A → Step A → Step A
nearer (found a rest) other = found a rest
nearer (stopped left) (found a rest) = found a rest
nearer (stopped left) (stopped least) = stopped (min left least)

-- the row whose word stands, else the one that stopped nearest to the end
abbrev pub table : {K A : Type 0} → (K → Reader A) → List (List ℕ × K) → Reader A
table form [] bs = stopped (length bs)
table form (row ∷ rows) bs = nearer (after_word row.0 (form row.1) bs) (table form rows bs)

-- what the reading of all the bytes comes to
pub data Verdict (A : Type 0) : Type 0 where
  read : A → Verdict A
  fault : ℕ → Verdict A

-- the reader must find a thing and leave nothing
abbrev pub whole : {A : Type 0} → Step A → Verdict A
whole (found a []) = read a
whole (found a (b ∷ bs)) = fault (length bs + 1)
whole (stopped left) = fault left
