-- The reading of all the bytes: the one thing that they spell, or the column of the fault.
use Rattle.std.proofs.Common.{◌≡◌, ℕ, suc, ◌+◌, ◌<◌, List, [], ◌∷◌, ◌++◌, length, refl, sym, ap, ◌∙◌, subst, inl, inr, arith, append-nil, length-append}
use Rattle.spec_syntax.specs.Grammar.{Grammar}
use Rattle.spec_syntax.specs.Language.{IsColumn, Spell, SpellNone}
use Rattle.spec_syntax.specs.Reader.{Step, found, stopped, Verdict, read, fault, whole}
use Rattle.spec_syntax.proofs.Missed.{missed, missed-prefix, missed_none, Shared, shared, missed_shared}
use Rattle.spec_syntax.proofs.ReadSteps.{no_more, Finds, Stops, IsStep}

-- what the reading of all the bytes says of them
abbrev pub IsVerdict : {A : Type 0} → Grammar A → List ℕ → Verdict A → Type 0
IsVerdict L bs (read a) = Spell L bs a
IsVerdict L bs (fault left) = SpellNone L bs × ((column : ℕ) → column + left ≡ length bs + 1 → IsColumn L bs column)

-- a text with nothing after it
missed_alone : (t bs : List ℕ) → missed (t ++ []) bs ≡ missed t bs
missed_alone t bs = ap (λ x. missed x bs) (append-nil t)

found_all : {A : Type 0} (L : Grammar A) (bs : List ℕ) (a : A) → Finds L no_more bs a [] → Spell L bs a
found_all L bs a f =
    let all : bs ≡ f.prefix = f.are ∙ append-nil f.prefix in
    record {
      spelled = subst (L a) (sym all) f.spelled;
      alone = λ b s. elim (f.others b bs [] s refl) as (λ _. b ≡ a) [
        | inl e ↦ e.0
        | inr h ↦ absurd (omega (arith, missed_alone bs bs, missed_none bs))
      ];
    }

-- no text is nearer than that many bytes, and one is as near
near_enough : {A : Type 0} (L : Grammar A) (bs : List ℕ) (left : ℕ) (a : A) (t : List ℕ) → L a t → missed t bs ≡ suc left → ((b : A) (s : List ℕ) → L b s → left < missed s bs) → IsVerdict L bs (fault left)
near_enough L bs left a t l near nearest =
    let s : Shared t bs left = shared t bs left near in (
      λ b h. absurd (omega (arith, nearest b bs h, missed_none bs)),
      λ column e. (
        s.prefix,
        record {
          rest = s.rest;
          is = s.bytes;
          begins = (a, s.more, subst (L a) s.text l);
          longest = λ other more f g.
              let h : left < missed (other ++ g.1) bs = nearest g.0 (other ++ g.1) g.2 in
              let k : missed (other ++ g.1) bs ≡ missed (other ++ g.1) (other ++ more) = ap (missed (other ++ g.1)) f in
              omega (arith, missed_shared other g.1 more, ap length f, length-append other more, ap length s.bytes, length-append s.prefix s.rest, s.so_many);
        },
        omega (arith, ap length s.bytes, length-append s.prefix s.rest, s.so_many),
      ),
    )

found_some : {A : Type 0} (L : Grammar A) (bs : List ℕ) (a : A) (c : ℕ) (rest : List ℕ) → Finds L no_more bs a (c ∷ rest) → IsVerdict L bs (fault (length rest + 1))
found_some L bs a c rest f =
    let here : missed f.prefix bs ≡ length rest + 2 = ap (missed f.prefix) f.are ∙ ap (λ x. missed x (f.prefix ++ (c ∷ rest))) (sym (append-nil f.prefix)) ∙ missed-prefix f.prefix [] (c ∷ rest) in
    near_enough L bs (length rest + 1) a f.prefix f.spelled (omega (arith, here)) (λ b t s. elim (f.others b t [] s refl) as (λ _. length rest + 1 < missed t bs) [
      | inl e ↦ omega (arith, here, ap (λ x. missed x bs) e.1)
      | inr h ↦ omega (arith, missed_alone t bs, h)
    ])

stopped_near : {A : Type 0} (L : Grammar A) (bs : List ℕ) (left : ℕ) → Stops L no_more bs left → IsVerdict L bs (fault left)
stopped_near L bs left f =
    near_enough L bs left f.thing f.text f.spelled
    (sym (ap (λ x. missed x bs) (ap (λ y. f.text ++ y) f.follows ∙ append-nil f.text)) ∙ f.near)
    (λ b t s. omega (arith, f.nearest b t [] s refl, missed_alone t bs))

-- the verdict of a reader that reads the grammar with nothing after it
pub verdict_of : {A : Type 0} (L : Grammar A) (bs : List ℕ) (st : Step A) → IsStep L no_more bs st → IsVerdict L bs (whole st)
verdict_of L bs (found a []) f = found_all L bs a f
verdict_of L bs (found a (c ∷ rest)) f = found_some L bs a c rest f
verdict_of L bs (stopped left) f = stopped_near L bs left f
