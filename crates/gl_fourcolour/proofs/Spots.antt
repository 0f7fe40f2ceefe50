-- Lemmas on the run that has a place, and on lists of runs that are given in parts.
use Rattle.std.proofs.Common.{◌≡◌, ◌≢◌, ℕ, ◌+◌, ◌-◌, ◌<◌, ◌≤◌, Bool, cond, List, [], ◌∷◌, ◌++◌, length, set, insert, remove, Option, Some, None, refl, sym, ap, ◌∙◌, inl, inr, subst, arith, append-nil, length-append}
use Rattle.std.specs.List.{slice_get}
use Rattle.std.proofs.Math.Seq.{set-append_seam}
use Rattle.std.proofs.lemmas.List.Edits.{insert-append_right, remove-append_right}
use Rattle.std.proofs.lemmas.Bool.Decides.{eqb_tells}
use Rattle.gl_fourcolour.specs.Colours.{is_among}
use Rattle.gl_fourcolour.specs.Rows.{expanded, Differs, IsMaximal, Meets, first_run, last_run, last_run_from, last_from, GoesPast, IsSpot, run_if, joined}
use Rattle.gl_fourcolour.specs.Counts.{weigh, total_of, sum_of, counts_of, IsFound, Outweighs}
use Rattle.gl_fourcolour.specs.declared.run.Run.{Run}
use Rattle.gl_fourcolour.specs.declared.counts.Counts.{Counts}
use Rattle.gl_fourcolour.proofs.Expansions.{length-expanded-cons, length-expanded-append}
use Rattle.gl_fourcolour.proofs.Maximal.{parts}
use Rattle.gl_fourcolour.proofs.Weights.{total-sum, total-counted}

-- all four colours together are all places
pub weigh-all : (c : Counts) → weigh 15 c ≡ total_of c
unfolding weigh is_among
weigh-all c = refl

goes_past : (bound start so_far at : ℕ) (back : List Run) → bound ≤ 4 → IsMaximal bound back → so_far ≡ start → Outweighs 15 so_far at back → GoesPast start at back
goes_past bound start so_far at [] few m is h = tt
goes_past bound start so_far at (r ∷ rs) few m is h =
    omega (arith, h, is, weigh-all (counts_of r), total-counted r.colour r.len (omega (arith, m.0, few)))

pub spot : (bound bits at position start : ℕ) (runs : List Run) (before : Counts) (run : Option Run) → bound ≤ 4 → IsMaximal bound runs → bits ≡ 15 → IsFound bits at runs position before run → start ≡ total_of before → IsSpot runs at position start run
spot bound bits at position start runs before run few m all found start_total =
    let f = subst (λ b. IsFound b at runs position before run) all found in
    let p = parts bound f.prefix f.back (subst (λ rs. IsMaximal bound rs) f.is m) in
    let total = total-sum bound f.prefix few p.prefix_is in
    let weight = weigh-all (sum_of f.prefix) in
    let before_total = ap total_of f.before_is in
    record {
      prefix = f.prefix;
      back = f.back;
      is = f.is;
      position_is = f.position_is;
      start_is = omega (arith, start_total, before_total, total);
      run_is = f.run_is;
      reached = omega (arith, start_total, before_total, weight, f.reached);
      passed = goes_past bound start (weigh 15 (sum_of f.prefix)) at f.back few p.back_is (omega (arith, start_total, before_total, weight)) f.passed;
    }

-- the run that has a place
pub record AtRun (runs : List Run) (at position start : ℕ) (here : Run) : Type 0 where
  pub prefix : List Run
  pub rest : List Run
  pub is : runs ≡ prefix ++ here ∷ rest
  pub position_is : position ≡ length prefix
  pub start_is : start ≡ length (expanded prefix)
  pub reached : start ≤ at
  pub inside : at < start + here.len

at_back : (runs prefix back : List Run) (at position start : ℕ) (here : Run) → runs ≡ prefix ++ back → position ≡ length prefix → start ≡ length (expanded prefix) → Some here ≡ first_run back → start ≤ at → GoesPast start at back → AtRun runs at position start here
at_back runs prefix [] at position start here is position_is start_is run_is reached passed = absurd (cc)
at_back runs prefix (r ∷ rest) at position start here is position_is start_is run_is reached passed =
    let same : r ≡ here = cc in
    record {
      prefix = prefix;
      rest = rest;
      is = is ∙ ap (λ x. prefix ++ x ∷ rest) same;
      position_is = position_is;
      start_is = start_is;
      reached = reached;
      inside = omega (arith, passed, ap (λ (x : Run). x.len) same);
    }

pub at_run : (runs : List Run) (at position start : ℕ) (here : Run) → IsSpot runs at position start (Some here) → AtRun runs at position start here
at_run runs at position start here s = at_back runs s.prefix s.back at position start here s.is s.position_is s.start_is s.run_is s.reached s.passed

-- past the last run
pub none_back : (runs prefix back : List Run) → runs ≡ prefix ++ back → None ≡ first_run back → runs ≡ prefix
none_back runs prefix [] is none = is ∙ append-nil prefix
none_back runs prefix (r ∷ rest) is none = absurd (cc)

pub past_end : (runs : List Run) (at position start : ℕ) → IsSpot runs at position start None → start ≡ length (expanded runs)
past_end runs at position start s = s.start_is ∙ ap (λ rs. length (expanded rs)) (sym (none_back runs s.prefix s.back s.is s.run_is))

-- what is known of a run among maximal ones
pub record RunFacts (runs prefix rest : List Run) (here : Run) : Type 0 where
  pub within : length prefix < length runs
  pub count : length runs ≡ length prefix + length rest + 1
  pub colour : here.colour < 4
  pub some : 1 ≤ here.len
  pub size : length (expanded prefix) + here.len + length (expanded rest) ≡ length (expanded runs)

pub run_facts : (bound : ℕ) (runs prefix rest : List Run) (here : Run) → bound ≤ 4 → IsMaximal bound runs → runs ≡ prefix ++ here ∷ rest → RunFacts runs prefix rest here
run_facts bound runs prefix rest here few m is =
    let p = parts bound prefix (here ∷ rest) (subst (λ rs. IsMaximal bound rs) is m) in
    let b = p.back_is in
    let len_is = ap length is in
    let size_is = ap (λ rs. length (expanded rs)) is in
    record {
      within = omega (arith, len_is, length-append prefix (here ∷ rest));
      count = omega (arith, len_is, length-append prefix (here ∷ rest));
      colour = omega (arith, b.0, few);
      some = b.1;
      size = omega (arith, size_is, length-expanded-append prefix (here ∷ rest), length-expanded-cons here rest);
    }

-- edits of a list that is given in parts
pub set_here : (runs prefix rest : List Run) (x y : Run) (position : ℕ) → runs ≡ prefix ++ x ∷ rest → position ≡ length prefix → set runs position y ≡ prefix ++ y ∷ rest
set_here runs prefix rest x y position is position_is =
    ap (λ rs. set rs position y) is ∙ (ap (λ k. set (prefix ++ x ∷ rest) k y) position_is ∙ set-append_seam prefix x rest y)

pub insert_here : (runs prefix back : List Run) (y : Run) (position : ℕ) → runs ≡ prefix ++ back → position ≡ length prefix → insert runs position y ≡ prefix ++ y ∷ back
insert_here runs prefix back y position is position_is =
    let none : position - length prefix ≡ 0 = omega (arith, position_is) in
    ap (λ rs. insert rs position y) is ∙ (insert-append_right prefix back (length prefix) position y refl (omega (arith, position_is)) ∙ ap (λ k. prefix ++ insert back k y) none)

pub insert_next : (runs prefix rest : List Run) (x y : Run) (position : ℕ) → runs ≡ prefix ++ x ∷ rest → position ≡ length prefix → insert runs (position + 1) y ≡ prefix ++ x ∷ y ∷ rest
insert_next runs prefix rest x y position is position_is =
    let one : position + 1 - length prefix ≡ 1 = omega (arith, position_is) in
    ap (λ rs. insert rs (position + 1) y) is ∙ (insert-append_right prefix (x ∷ rest) (length prefix) (position + 1) y refl (omega (arith, position_is)) ∙ ap (λ k. prefix ++ insert (x ∷ rest) k y) one)

pub insert_second : (runs prefix rest : List Run) (x y z : Run) (position : ℕ) → runs ≡ prefix ++ x ∷ y ∷ rest → position ≡ length prefix → insert runs (position + 2) z ≡ prefix ++ x ∷ y ∷ z ∷ rest
insert_second runs prefix rest x y z position is position_is =
    let two : position + 2 - length prefix ≡ 2 = omega (arith, position_is) in
    ap (λ rs. insert rs (position + 2) z) is ∙ (insert-append_right prefix (x ∷ y ∷ rest) (length prefix) (position + 2) z refl (omega (arith, position_is)) ∙ ap (λ k. prefix ++ insert (x ∷ y ∷ rest) k z) two)

pub remove_here : (runs prefix rest : List Run) (x : Run) (position : ℕ) → runs ≡ prefix ++ x ∷ rest → position ≡ length prefix → remove runs position ≡ prefix ++ rest
remove_here runs prefix rest x position is position_is =
    let none : position - length prefix ≡ 0 = omega (arith, position_is) in
    ap (λ rs. remove rs position) is ∙ (remove-append_right prefix (x ∷ rest) (length prefix) position refl (omega (arith, position_is)) ∙ ap (λ k. prefix ++ remove (x ∷ rest) k) none)

-- a run that has the colour
pub record HasColour (run : Option Run) (colour : ℕ) (here : Run) : Type 0 where
  pub is : run ≡ Some here
  pub colour_is : here.colour ≡ colour

pub has_colour : (run : Option Run) (colour : ℕ) (here : Run) → Some here ≡ run_if run colour → HasColour run colour here
has_colour None colour here is = absurd (cc)
has_colour (Some r) colour here is =
    elim (eqb_tells r.colour colour) [
      | inl same ↦
          let test : Bool → Option Run = λ b. cond b (Some r) None in
          let both : Some here ≡ Some r = is ∙ ap test same.0 in
          let one : here ≡ r = cc in
          record { is = sym both; colour_is = ap (λ (x : Run). x.colour) one ∙ same.1 }
      | inr other ↦
          let test : Bool → Option Run = λ b. cond b (Some r) None in
          let both : Some here ≡ None = is ∙ ap test other.0 in
          absurd (cc)
    ]

pub has_none : (run : Option Run) (colour : ℕ) (here : Run) → None ≡ run_if run colour → run ≡ Some here → here.colour ≢ colour
has_none None colour here is some = absurd (cc)
has_none (Some r) colour here is some =
    elim (eqb_tells r.colour colour) [
      | inl same ↦
          let test : Bool → Option Run = λ b. cond b (Some r) None in
          let both : None ≡ Some r = is ∙ ap test same.0 in
          absurd (cc)
      | inr other ↦ let one : r ≡ here = cc in λ same. other.1 (ap (λ (x : Run). x.colour) one ∙ same)
    ]

-- no first run has the colour
pub differs_first : (colour : ℕ) (back : List Run) → None ≡ run_if (first_run back) colour → Differs colour back
differs_first colour [] none = tt
differs_first colour (r ∷ rest) none = has_none (Some r) colour r none refl

-- the last run of a list
pub record Ends (prefix : List Run) (last : Run) : Type 0 where
  pub start : List Run
  pub is : prefix ≡ start ++ last ∷ []

ends_from : (r : Run) (rs : List Run) → Ends (r ∷ rs) (last_run_from r rs)
ends_from r [] = record { start = []; is = refl }
ends_from r (s ∷ rs) = let e = ends_from s rs in record { start = r ∷ e.start; is = ap (λ xs. r ∷ xs) e.is }

pub ends : (prefix : List Run) (last : Run) → last_run prefix ≡ Some last → Ends prefix last
ends [] last is = absurd (cc)
ends (r ∷ rs) last is = let one : last_run_from r rs ≡ last = cc in subst (λ x. Ends (r ∷ rs) x) one (ends_from r rs)

last_colour : (r : Run) (rs : List Run) → (last_run_from r rs).colour ≡ last_from r.colour rs
last_colour r [] = refl
last_colour r (s ∷ rs) = last_colour s rs

-- no last run has the colour
pub meets_last : (colour n : ℕ) (prefix : List Run) → None ≡ run_if (last_run prefix) colour → Meets prefix (record { colour = colour; len = n } ∷ [])
meets_last colour n [] none = tt
meets_last colour n (r ∷ rs) none =
    let other = has_none (Some (last_run_from r rs)) colour (last_run_from r rs) none refl in
    λ same. other (last_colour r rs ∙ sym same)

-- two neighbours that are joined
pub record Joins (left right : Option Run) (whole : Run) : Type 0 where
  pub l : Run
  pub r : Run
  pub left_is : left ≡ Some l
  pub right_is : right ≡ Some r
  pub same : l.colour ≡ r.colour
  pub colour : whole.colour ≡ l.colour
  pub len : whole.len ≡ l.len + r.len

pub joins : (left right : Option Run) (whole : Run) → Some whole ≡ joined left right → Joins left right whole
joins None right whole is = absurd (cc)
joins (Some l) None whole is = absurd (cc)
joins (Some l) (Some r) whole is =
    elim (eqb_tells l.colour r.colour) [
      | inl same ↦
          let both : Run = record { colour = l.colour; len = l.len + r.len } in
          let test : Bool → Option Run = λ b. cond b (Some both) None in
          let e : Some whole ≡ Some both = is ∙ ap test same.0 in
          let one : whole ≡ both = cc in
          record { l = l; r = r; left_is = refl; right_is = refl; same = same.1; colour = ap (λ (x : Run). x.colour) one; len = ap (λ (x : Run). x.len) one }
      | inr other ↦
          let both : Run = record { colour = l.colour; len = l.len + r.len } in
          let test : Bool → Option Run = λ b. cond b (Some both) None in
          let e : Some whole ≡ None = is ∙ ap test other.0 in
          absurd (cc)
    ]

pub apart : (l r : Run) → None ≡ joined (Some l) (Some r) → r.colour ≢ l.colour
apart l r none =
    elim (eqb_tells l.colour r.colour) [
      | inl same ↦
          let both : Run = record { colour = l.colour; len = l.len + r.len } in
          let test : Bool → Option Run = λ b. cond b (Some both) None in
          let e : None ≡ Some both = none ∙ ap test same.0 in
          absurd (cc)
      | inr other ↦ λ same. other.1 (sym same)
    ]

-- neighbours that are not joined
pub meets_gap : (prefix back : List Run) → None ≡ joined (last_run prefix) (first_run back) → Meets prefix back
meets_gap [] back none = tt
meets_gap (r ∷ rs) [] none = tt
meets_gap (r ∷ rs) (x ∷ back) none = λ same. apart (last_run_from r rs) x none (same ∙ sym (last_colour r rs))

pub get_first : (runs prefix back : List Run) (position : ℕ) → runs ≡ prefix ++ back → position ≡ length prefix → slice_get runs position ≡ first_run back
get_first runs prefix back position is position_is = ap (λ rs. slice_get rs position) is ∙ (ap (λ k. slice_get (prefix ++ back) k) position_is ∙ at_seam prefix back)
  where
    at_seam : (prefix back : List Run) → slice_get (prefix ++ back) (length prefix) ≡ first_run back
    at_seam [] [] = refl
    at_seam [] (x ∷ back) = refl
    at_seam (x ∷ prefix) back = at_seam prefix back

pub first_is : (back : List Run) (r : Run) → first_run back ≡ Some r → (rest : List Run) × (back ≡ r ∷ rest)
first_is [] r is = absurd (cc)
first_is (x ∷ back) r is = let one : x ≡ r = cc in (back, ap (λ y. y ∷ back) one)
