-- The fields of the records of a text are texts.
use Rattle.std.proofs.Common.{◌≡◌, ◌∙◌, ℕ, ◌+◌, ◌/◌, ◌%◌, ◌<◌, ◌≤◌, Bool, true, false, ◌&&◌, cond, eqb, List, [], ◌∷◌, ◌++◌, Option, Some, None, refl, sym, ap, subst, inl, inr, arith}
use Rattle.std.specs.Str.{IsUtf8}
use Rattle.std.proofs.lemmas.Str.{IsUtf8-append, IsUtf8-encode, IsUtf8-nil, IsUtf8-past_char}
use Rattle.std.proofs.lemmas.Bool.{cases_lt, and_parts}
use Rattle.std.proofs.lemmas.Bool.Decides.{nat_tests}
use Rattle.std.proofs.lemmas.List.{append-nil, append_assoc}
use lib.Utf8.{encode, encodes, scalar, scalars}
use Rattle.csv.specs.Machine.{step, next_record, is_end, fields_after, field_after, ends_at_end, ends_with, after_end, Read}
use Rattle.csv.specs.Records.{AllText}
use Rattle.csv.specs.Reading.{default_config, strip_bom, Reached}
use Rattle.csv.specs.declared.parser.State.{State}
use Rattle.csv.specs.declared.parser.State.TheVariants.{StartRecord, StartField, InField, InQuoted, AfterQuote, InEscape, InComment, AfterCr}
use Rattle.csv.specs.declared.parser.Action.{Action}
use Rattle.csv.specs.declared.parser.Action.TheVariants.{Skip, Copy, EndField, EndRecord}
use Rattle.spec_basics.proofs.Numbers.{same_number}

-- the states that the default dialect reaches: it has no escape byte and no comments
abbrev pub IsDefault : State → Type 0
IsDefault StartRecord = Unit {0}
IsDefault StartField = Unit {0}
IsDefault InField = Unit {0}
IsDefault InQuoted = Unit {0}
IsDefault AfterQuote = Unit {0}
IsDefault AfterCr = Unit {0}
IsDefault InEscape = ⊥
IsDefault InComment = ⊥

-- what holds of both holds of the one that is chosen
either_way : {A : Type 0} (P : A → Type 0) (b : Bool) (x y : A) → P x → P y → P (cond b x y)
either_way P true x y h k = h
either_way P false x y h k = k

abbrev Stays : State × Action → Type 0
Stays p = IsDefault p.0

ended : (b : ℕ) → IsDefault (after_end default_config.terminator b)
ended b = either_way IsDefault (eqb b 13) AfterCr StartRecord tt tt

in_field : (b : ℕ) → Stays (step default_config InField b)
in_field b =
    either_way Stays (eqb b 44) _ _ tt
    (either_way Stays (ends_with default_config.terminator b) _ _ (ended b) tt)

start_field : (b : ℕ) → Stays (step default_config StartField b)
start_field b = either_way Stays (eqb b 34) _ _ tt (in_field b)

start_record : (b : ℕ) → Stays (step default_config StartRecord b)
start_record b = either_way Stays (ends_with default_config.terminator b) _ _ tt (start_field b)

stays : (s : State) (b : ℕ) → IsDefault s → Stays (step default_config s b)
stays StartRecord b h = start_record b
stays StartField b h = start_field b
stays InField b h = in_field b
stays InQuoted b h = either_way Stays (eqb b 34) _ _ tt tt
stays AfterQuote b h = either_way Stays (eqb b 34) _ _ tt (in_field b)
stays AfterCr b h = either_way Stays (eqb b 10) _ _ tt (start_record b)
stays InEscape b h = absurd h
stays InComment b h = absurd h

-- a byte of a character of several bytes joins the field at hand
joins : (s : State) (b : ℕ) → IsDefault s → 128 ≤ b → (step default_config s b).1 ≡ Copy
joins s b h k =
    let comma : eqb b 44 ≡ false = grind (arith, nat_tests) in
    let quote : eqb b 34 ≡ false = grind (arith, nat_tests) in
    let return : eqb b 13 ≡ false = grind (arith, nat_tests) in
    let feed : eqb b 10 ≡ false = grind (arith, nat_tests) in
    by s h comma quote return feed
  where
    by : (s : State) → IsDefault s → eqb b 44 ≡ false → eqb b 34 ≡ false → eqb b 13 ≡ false → eqb b 10 ≡ false → (step default_config s b).1 ≡ Copy
    by StartRecord h comma quote return feed = rw (comma, quote, return, feed) refl
    by StartField h comma quote return feed = rw (comma, quote, return, feed) refl
    by InField h comma quote return feed = rw (comma, return, feed) refl
    by InQuoted h comma quote return feed = rw quote refl
    by AfterQuote h comma quote return feed = rw (comma, quote, return, feed) refl
    by AfterCr h comma quote return feed = rw (comma, quote, return, feed) refl
    by InEscape h comma quote return feed = absurd h
    by InComment h comma quote return feed = absurd h

abbrev pub AllHigh : List ℕ → Type 0
AllHigh [] = Unit {0}
AllHigh (b ∷ bs) = (128 ≤ b) × AllHigh bs

two_bytes : (c : ℕ) → 128 ≤ c → c < 2048 → encode c ≡ (192 + c / 64) ∷ (128 + c % 64) ∷ []
unfolding encode
two_bytes c l h = grind (arith, nat_tests)

three_bytes : (c : ℕ) → 2048 ≤ c → c < 65536 → encode c ≡ (224 + c / 4096) ∷ (128 + c / 64 % 64) ∷ (128 + c % 64) ∷ []
unfolding encode
three_bytes c l h = grind (arith, nat_tests)

four_bytes : (c : ℕ) → 65536 ≤ c → encode c ≡ (240 + c / 262144) ∷ (128 + c / 4096 % 64) ∷ (128 + c / 64 % 64) ∷ (128 + c % 64) ∷ []
unfolding encode
four_bytes c l = grind (arith, nat_tests)

pub one_byte : (c : ℕ) → c < 128 → encode c ≡ c ∷ []
unfolding encode
one_byte c h = grind (arith, nat_tests)

-- all bytes of such a character
pub high : (c : ℕ) → 128 ≤ c → AllHigh (encode c)
high c h =
    elim (cases_lt c 2048) [
      | inl l ↦ subst AllHigh (sym (two_bytes c h l)) (omega arith, (omega arith, tt))
      | inr g ↦ elim (cases_lt c 65536) [
        | inl l ↦ subst AllHigh (sym (three_bytes c g l)) (omega arith, (omega arith, (omega arith, tt)))
        | inr m ↦ subst AllHigh (sym (four_bytes c m)) (omega arith, (omega arith, (omega arith, (omega arith, tt))))
      ]
    ]

-- such bytes all join the field at hand
joined : (bs rest : List ℕ) (s : State) (fields : List (List ℕ)) (field : List ℕ) → IsDefault s → AllHigh bs
    → (t : State) × IsDefault t × (next_record default_config s fields field (bs ++ rest) ≡ next_record default_config t fields (field ++ bs) rest)
unfolding next_record
joined [] rest s fields field h k = (s, h, ap (λ f. next_record default_config s fields f rest) (sym (append-nil field)))
joined (b ∷ bs) rest s fields field h k =
    let more = joined bs rest (step default_config s b).0 fields (field ++ b ∷ []) (stays s b h) k.1 in
    let copies = joins s b h k.0 in
    (more.0, more.1, rw copies more.2 ∙ ap (λ f. next_record default_config more.0 fields f rest) (append_assoc field (b ∷ []) bs))

-- a record that was read from a text: its fields are texts, and so is what is left
abbrev pub OfText : Option Read → Type 0
OfText None = Unit {0}
OfText (Some p) = AllText p.0 × IsDefault p.1 × IsUtf8 p.2

texts_more : (fs : List (List ℕ)) (f : List ℕ) → AllText fs → IsUtf8 f → AllText (fs ++ f ∷ [])
unfolding AllText
texts_more [] f h k = (k, tt)
texts_more (g ∷ fs) f h k = (h.0, texts_more fs f h.1 k)

at_end : (s : State) (fields : List (List ℕ)) (field : List ℕ) → AllText fields → IsUtf8 field → OfText (next_record default_config s fields field [])
unfolding next_record
at_end s fields field h k = either_way OfText (ends_at_end s) _ _ (texts_more fields field h k, tt, IsUtf8-nil) tt

-- what is left of a text may be read on from any of these states
abbrev ReadsOn : List ℕ → Type 0
ReadsOn rest =
    (t : State) (fs : List (List ℕ)) (f : List ℕ) → IsDefault t → AllText fs → IsUtf8 f → OfText (next_record default_config t fs f rest)

-- one byte that is a character
after_byte : (b : ℕ) (rest : List ℕ) (s : State) (fields : List (List ℕ)) (field : List ℕ) → IsUtf8 rest → ReadsOn rest
    → IsDefault s → AllText fields → IsUtf8 field → IsUtf8 (b ∷ []) → OfText (next_record default_config s fields field (b ∷ rest))
unfolding next_record
after_byte b rest s fields field left next h k l u = by_action (step default_config s b).1 (stays s b h)
  where
    by_action : (a : Action) → IsDefault (step default_config s b).0
        → OfText (cond (is_end a) (Some (fields_after a fields field, (step default_config s b).0, rest)) (next_record default_config (step default_config s b).0 (fields_after a fields field) (field_after a b field) rest))
    by_action Skip g = next (step default_config s b).0 fields field g k l
    by_action Copy g = next (step default_config s b).0 fields (field ++ b ∷ []) g k (IsUtf8-append field (b ∷ []) l u)
    by_action EndField g = next (step default_config s b).0 (fields ++ field ∷ []) [] g (texts_more fields field k l) IsUtf8-nil
    by_action EndRecord g = (texts_more fields field k l, g, left)

-- the next record after whole characters
after_word : (cs : List ℕ) → scalars cs ≡ true → ReadsOn (encodes cs)
after_word [] sc s fields field h k l = at_end s fields field k l
after_word (c ∷ cs) sc s fields field h k l =
    let parts = and_parts (scalar c) (scalars cs) sc in
    let one = IsUtf8-encode c parts.0 in
    let more = after_word cs parts.1 in
    elim (cases_lt c 128) [
      | inl low ↦
          let bytes = one_byte c low in
          subst (λ bs. OfText (next_record default_config s fields field (bs ++ encodes cs))) (sym bytes)
          (after_byte c (encodes cs) s fields field (cs, (parts.1, refl)) more h k l (subst IsUtf8 bytes one))
      | inr g ↦
          let to = joined (encode c) (encodes cs) s fields field h (high c g) in
          subst OfText (sym to.2) (more to.0 fields (field ++ encode c) to.1 k (IsUtf8-append field (encode c) l one))
    ]

-- the next record of a text
pub record_texts : (s : State) (xs : List ℕ) → IsDefault s → IsUtf8 xs → OfText (next_record default_config s [] [] xs)
unfolding AllText
record_texts s xs h u = subst (λ ys. OfText (next_record default_config s [] [] ys)) u.1.1 (after_word u.0 u.1.0 s [] [] h tt IsUtf8-nil)

-- after any records of a text there is a text
pub left_text : (rows : List (List (List ℕ))) (s t : State) (xs ys : List ℕ) → IsDefault s → IsUtf8 xs → Reached default_config s xs rows t ys → IsDefault t × IsUtf8 ys
unfolding Reached
left_text [] s t xs ys h u r = (subst IsDefault r.0 h, subst IsUtf8 r.1 u)
left_text (row ∷ rows) s t xs ys h u r =
    let of = subst OfText r.1 (record_texts s xs h u) in
    left_text rows r.0.1 t r.0.2 ys of.1 of.2 r.3

-- a text without its byte order mark
pub without_mark : (xs : List ℕ) → IsUtf8 xs → IsUtf8 (strip_bom xs)
unfolding strip_bom encode
without_mark [] u = u
without_mark (a ∷ []) u = u
without_mark (a ∷ b ∷ []) u = u
without_mark (a ∷ b ∷ c ∷ rest) u = if_mark (eqb a 239) (eqb b 187) (eqb c 191) refl refl refl
  where
    if_mark : (p q r : Bool) → eqb a 239 ≡ p → eqb b 187 ≡ q → eqb c 191 ≡ r → IsUtf8 (cond ((p && q) && r) rest (a ∷ b ∷ c ∷ rest))
    if_mark true true true e f g = IsUtf8-past_char (a ∷ b ∷ c ∷ rest) rest 65279 u (rw (same_number a 239 e, same_number b 187 f, same_number c 191 g) refl)
    if_mark true true false e f g = u
    if_mark true false r e f g = u
    if_mark false q r e f g = u

-- the last of some records of a text
pub last_texts : (rows : List (List (List ℕ))) (row : List (List ℕ)) (s t : State) (xs ys : List ℕ) → IsDefault s → IsUtf8 xs → Reached default_config s xs (rows ++ row ∷ []) t ys → AllText row
unfolding Reached
last_texts [] row s t xs ys h u r = subst AllText (sym r.2) (subst OfText r.1 (record_texts s xs h u)).0
last_texts (first ∷ rows) row s t xs ys h u r =
    let of = subst OfText r.1 (record_texts s xs h u) in
    last_texts rows row r.0.1 t r.0.2 ys of.1 of.2 r.3
