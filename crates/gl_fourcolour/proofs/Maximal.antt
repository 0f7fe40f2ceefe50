-- Lemmas on maximal runs.
use Rattle.std.proofs.Common.{◌≡◌, ◌≢◌, ℕ, zero, suc, ◌+◌, ◌<◌, ◌≤◌, Bool, true, false, cond, List, [], ◌∷◌, ◌++◌, length, replicate, refl, sym, ap, ◌∙◌, subst, arith}
use Rattle.std.proofs.lemmas.Bool.{eq-eqb, ne_eqb}
use Rattle.gl_fourcolour.specs.Colours.{begins_with, run_count, AllBelow}
use Rattle.gl_fourcolour.specs.Rows.{expanded, Differs, IsMaximal, last_from, Meets}
use Rattle.gl_fourcolour.specs.declared.run.Run.{Run}
use Rattle.gl_fourcolour.proofs.Expansions.{length-expanded-cons}

-- maximal runs in two parts
pub record Parts (bound : ℕ) (prefix back : List Run) : Type 0 where
  pub prefix_is : IsMaximal bound prefix
  pub meets : Meets prefix back
  pub back_is : IsMaximal bound back

record PartsAfter (bound colour : ℕ) (prefix back : List Run) : Type 0 where
  differs : Differs colour prefix
  prefix_is : IsMaximal bound prefix
  meets : Differs (last_from colour prefix) back
  back_is : IsMaximal bound back

parts_after : (bound colour : ℕ) (prefix back : List Run) → Differs colour (prefix ++ back) → IsMaximal bound (prefix ++ back) → PartsAfter bound colour prefix back
parts_after bound colour [] back d m = record { differs = tt; prefix_is = tt; meets = d; back_is = m }
parts_after bound colour (r ∷ rs) back d m =
    let p = parts_after bound r.colour rs back m.2 m.3 in
    record { differs = d; prefix_is = (m.0, m.1, p.differs, p.prefix_is); meets = p.meets; back_is = p.back_is }

pub parts : (bound : ℕ) (prefix back : List Run) → IsMaximal bound (prefix ++ back) → Parts bound prefix back
parts bound [] back m = record { prefix_is = tt; meets = tt; back_is = m }
parts bound (r ∷ rs) back m =
    let p = parts_after bound r.colour rs back m.2 m.3 in
    record { prefix_is = (m.0, m.1, p.differs, p.prefix_is); meets = p.meets; back_is = p.back_is }

together_after : (bound colour : ℕ) (prefix back : List Run) → Differs colour prefix → IsMaximal bound prefix → Differs (last_from colour prefix) back → IsMaximal bound back → Differs colour (prefix ++ back) × IsMaximal bound (prefix ++ back)
together_after bound colour [] back d f meets b = (meets, b)
together_after bound colour (r ∷ rs) back d f meets b =
    let p = together_after bound r.colour rs back f.2 f.3 meets b in
    (d, (f.0, f.1, p.0, p.1))

pub together : (bound : ℕ) (prefix back : List Run) → Parts bound prefix back → IsMaximal bound (prefix ++ back)
together bound [] back p = p.back_is
together bound (r ∷ rs) back p =
    let f = p.prefix_is in
    let q = together_after bound r.colour rs back f.2 f.3 p.meets p.back_is in
    (f.0, f.1, q.0, q.1)

-- only the colour of the first run of the back matters
pub meets_same : (prefix : List Run) (x y : Run) (xs ys : List Run) → x.colour ≡ y.colour → Meets prefix (x ∷ xs) → Meets prefix (y ∷ ys)
meets_same [] x y xs ys same h = tt
meets_same (r ∷ rs) x y xs ys same h = λ equal. h (same ∙ equal)

last_from_end : (colour : ℕ) (prefix : List Run) (r : Run) → last_from colour (prefix ++ r ∷ []) ≡ r.colour
last_from_end colour [] r = refl
last_from_end colour (x ∷ prefix) r = last_from_end x.colour prefix r

-- the last run of the front decides
pub meets_end : (prefix : List Run) (r : Run) (back : List Run) → Differs r.colour back → Meets (prefix ++ r ∷ []) back
meets_end [] r back d = d
meets_end (x ∷ prefix) r back d = subst (λ c. Differs c back) (sym (last_from_end x.colour prefix r)) d

-- a run of another length
pub resized : (bound : ℕ) (prefix rest : List Run) (c l n : ℕ) → 1 ≤ n → IsMaximal bound (prefix ++ record { colour = c; len = l } ∷ rest) → IsMaximal bound (prefix ++ record { colour = c; len = n } ∷ rest)
resized bound prefix rest c l n some m =
    let p = parts bound prefix (record { colour = c; len = l } ∷ rest) m in
    let b = p.back_is in
    together bound prefix (record { colour = c; len = n } ∷ rest) (record { prefix_is = p.prefix_is; meets = meets_same prefix (record { colour = c; len = l }) (record { colour = c; len = n }) rest rest refl p.meets; back_is = (b.0, some, b.2, b.3) })

-- a run in the middle of another
pub split : (bound : ℕ) (prefix rest : List Run) (c l o d n k : ℕ) → 1 ≤ o → 1 ≤ n → 1 ≤ k → d < bound → c ≢ d → IsMaximal bound (prefix ++ record { colour = c; len = l } ∷ rest) → IsMaximal bound (prefix ++ record { colour = c; len = o } ∷ record { colour = d; len = n } ∷ record { colour = c; len = k } ∷ rest)
split bound prefix rest c l o d n k o_some n_some k_some below other m =
    let p = parts bound prefix (record { colour = c; len = l } ∷ rest) m in
    let b = p.back_is in
    together bound prefix (record { colour = c; len = o } ∷ record { colour = d; len = n } ∷ record { colour = c; len = k } ∷ rest) (record {
      prefix_is = p.prefix_is;
      meets = meets_same prefix (record { colour = c; len = l }) (record { colour = c; len = o }) rest (record { colour = d; len = n } ∷ record { colour = c; len = k } ∷ rest) refl p.meets;
      back_is = (b.0, o_some, (λ same. other (sym same)), (below, n_some, other, (b.0, k_some, b.2, b.3)));
    })

-- a run between two others
pub between : (bound : ℕ) (prefix back : List Run) (r : Run) → 1 ≤ r.len → r.colour < bound → Meets prefix (r ∷ []) → Differs r.colour back → IsMaximal bound (prefix ++ back) → IsMaximal bound (prefix ++ r ∷ back)
between bound prefix back r some below meets differs m =
    let p = parts bound prefix back m in
    together bound prefix (r ∷ back) (record { prefix_is = p.prefix_is; meets = meets_same prefix r r [] back refl meets; back_is = (below, some, differs, p.back_is) })

-- without a run
pub without : (bound : ℕ) (prefix back : List Run) (r : Run) → Meets prefix back → IsMaximal bound (prefix ++ r ∷ back) → IsMaximal bound (prefix ++ back)
without bound prefix back r meets m =
    let p = parts bound prefix (r ∷ back) m in
    let b = p.back_is in
    together bound prefix back (record { prefix_is = p.prefix_is; meets = meets; back_is = b.3 })

-- without a run between two of one colour, which are one then
pub without_joined : (bound : ℕ) (prefix rest : List Run) (l r x : Run) (n : ℕ) → 1 ≤ n → l.colour ≡ x.colour → IsMaximal bound (prefix ++ l ∷ r ∷ x ∷ rest) → IsMaximal bound (prefix ++ record { colour = l.colour; len = n } ∷ rest)
without_joined bound prefix rest l r x n some same m =
    let p = parts bound prefix (l ∷ r ∷ x ∷ rest) m in
    let b = p.back_is in
    let inner = b.3 in
    let last = inner.3 in
    together bound prefix (record { colour = l.colour; len = n } ∷ rest) (record {
      prefix_is = p.prefix_is;
      meets = meets_same prefix l (record { colour = l.colour; len = n }) (r ∷ x ∷ rest) rest refl p.meets;
      back_is = (b.0, some, subst (λ c. Differs c rest) (sym same) last.2, last.3);
    })

-- how many runs there are
begins-replicate : (c n : ℕ) (ys : List ℕ) → begins_with c (replicate (suc n) c ++ ys) ≡ true
begins-replicate c n ys = eq-eqb c c refl

abbrev one_unless : Bool → ℕ
one_unless b = cond b 0 1

run_count-replicate : (c n : ℕ) (ys : List ℕ) → run_count (replicate (suc n) c ++ ys) ≡ cond (begins_with c ys) 0 1 + run_count ys
unfolding run_count
run_count-replicate c zero ys = refl
run_count-replicate c (suc n) ys =
    omega (arith, ap one_unless (begins-replicate c n ys), run_count-replicate c n ys)

begins_other : (bound c : ℕ) (rs : List Run) → Differs c rs → IsMaximal bound rs → begins_with c (expanded rs) ≡ false
unfolding expanded
begins_other bound c [] d m = refl
begins_other bound c (r ∷ rs) d m = by_len r.len m.1
  where
    by_len : (n : ℕ) → 1 ≤ n → begins_with c (replicate n r.colour ++ expanded rs) ≡ false
    by_len zero some = absurd (omega (arith, some))
    by_len (suc n) some = ne_eqb r.colour c d

run_count-prefix : (c n k : ℕ) (ys : List ℕ) → 1 ≤ n → begins_with c ys ≡ false → run_count ys ≡ k → run_count (replicate n c ++ ys) ≡ suc k
run_count-prefix c zero k ys some other is = absurd (omega (arith, some))
run_count-prefix c (suc n) k ys some other is = omega (arith, run_count-replicate c n ys, ap one_unless other, is)

pub run_count-expanded : (bound : ℕ) (rs : List Run) → IsMaximal bound rs → run_count (expanded rs) ≡ length rs
unfolding run_count expanded
run_count-expanded bound [] m = refl
run_count-expanded bound (r ∷ rs) m =
    run_count-prefix r.colour r.len (length rs) (expanded rs) m.1 (begins_other bound r.colour rs m.2 m.3) (run_count-expanded bound rs m.3)

pub length-runs : (bound : ℕ) (rs : List Run) → IsMaximal bound rs → length rs ≤ length (expanded rs)
length-runs bound [] m = omega arith
length-runs bound (r ∷ rs) m = omega (arith, m.1, length-expanded-cons r rs, length-runs bound rs m.3)

-- all colours are below the bound
AllBelow-replicate : (bound c n : ℕ) (ys : List ℕ) → c < bound → AllBelow bound ys → AllBelow bound (replicate n c ++ ys)
AllBelow-replicate bound c zero ys below h = h
AllBelow-replicate bound c (suc n) ys below h = (below, AllBelow-replicate bound c n ys below h)

pub all_below : (bound : ℕ) (rs : List Run) → IsMaximal bound rs → AllBelow bound (expanded rs)
unfolding expanded
all_below bound [] m = tt
all_below bound (r ∷ rs) m = AllBelow-replicate bound r.colour r.len (expanded rs) m.0 (all_below bound rs m.3)
