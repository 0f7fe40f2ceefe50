-- Lemmas for taking places out.
use Rattle.std.proofs.Common.{◌≡◌, ◌≢◌, ℕ, ◌+◌, ◌-◌, ◌<◌, ◌≤◌, ◌^◌, List, [], ◌∷◌, ◌++◌, length, take, drop, set, remove, Option, None, refl, sym, ap, ◌∙◌, subst, arith, append_assoc, length-append}
use Rattle.std.proofs.lemmas.List.{take-append-drop, length-take-le, length-drop, length-set}
use Rattle.std.proofs.lemmas.List.Edits.{remove-append_right}
use Rattle.gl_fourcolour.specs.Colours.{removed}
use Rattle.gl_fourcolour.specs.Rows.{Row, expanded, IsMaximal, first_run, last_run, last_run_from, CanCut, Cuts, JoinFits, joined}
use Rattle.gl_fourcolour.specs.Edits.{TakesOut, Clearing}
use Rattle.gl_fourcolour.specs.declared.run.Run.{Run}
use Rattle.gl_fourcolour.proofs.Expansions.{expanded-append, length-expanded-cons, length-expanded-append, cut_colours, whole_colours, joined_colours, removed_at}
use Rattle.gl_fourcolour.proofs.Maximal.{resized, without, without_joined, parts}
use Rattle.gl_fourcolour.proofs.Spots.{AtRun, run_facts, set_here, ends, Joins, first_is, meets_gap}

-- taking out of a list
parted : (xs : List ℕ) (at : ℕ) → at ≤ length xs → (prefix : List ℕ) × (back : List ℕ) × (xs ≡ prefix ++ back) × (at ≡ length prefix)
parted xs at within = (take at xs, drop at xs, sym (take-append-drop at xs), sym (length-take-le at xs within))

pub removed_none : (xs : List ℕ) (at : ℕ) → at ≤ length xs → removed xs at 0 ≡ xs
removed_none xs at within =
    let p = parted xs at within in
    ap (λ zs. removed zs at 0) p.2 ∙ (removed_at p.0 [] p.1 at 0 p.3 refl ∙ sym p.2)

pub removed_more : (xs : List ℕ) (at k m : ℕ) → at + k + m ≤ length xs → removed (removed xs at k) at m ≡ removed xs at (k + m)
removed_more xs at k m within =
    let p = parted xs at (omega (arith, within)) in
    let back_len : k + m ≤ length p.1 = omega (arith, within, ap length p.2, length-append p.0 p.1, p.3) in
    let q = parted p.1 k (omega (arith, back_len)) in
    let r = parted q.1 m (omega (arith, back_len, ap length q.2, length-append q.0 q.1, q.3)) in
    let whole : xs ≡ p.0 ++ (q.0 ++ (r.0 ++ r.1)) = p.2 ∙ ap (λ zs. p.0 ++ zs) (q.2 ∙ ap (λ zs. q.0 ++ zs) r.2) in
    let once : removed xs at k ≡ p.0 ++ (r.0 ++ r.1) = ap (λ zs. removed zs at k) whole ∙ removed_at p.0 q.0 (r.0 ++ r.1) at k p.3 q.3 in
    let both : xs ≡ p.0 ++ ((q.0 ++ r.0) ++ r.1) = whole ∙ ap (λ zs. p.0 ++ zs) (sym (append_assoc q.0 r.0 r.1)) in
    let at_once : removed xs at (k + m) ≡ p.0 ++ r.1 = ap (λ zs. removed zs at (k + m)) both ∙ removed_at p.0 (q.0 ++ r.0) r.1 at (k + m) p.3 (omega (arith, q.3, r.3, length-append q.0 r.0)) in
    ap (λ zs. removed zs at m) once ∙ (removed_at p.0 r.0 r.1 at m p.3 r.3 ∙ sym at_once)

pub length-removed : (xs : List ℕ) (at n : ℕ) → at + n ≤ length xs → length (removed xs at n) + n ≡ length xs
unfolding removed
length-removed xs at n within =
    omega (arith, length-append (take at xs) (drop (at + n) xs), length-take-le at xs (omega (arith, within)), length-drop (at + n) xs)

-- a shorter run
pub cut_done : (bound at n position start taken : ℕ) (old new : Row) (here : Run) → CanCut bound old at n → AtRun old.runs at position start here → taken ≤ here.len - (at - start) → taken < here.len → new.runs ≡ set old.runs position (record { colour = here.colour; len = here.len - taken }) → new.room ≡ old.room → Cuts bound old new at taken
cut_done bound at n position start taken old new here can a few less new_is room_is =
    let shorter : Run = record { colour = here.colour; len = here.len - taken } in
    let runs_are = new_is ∙ set_here old.runs a.prefix a.rest here shorter position a.is a.position_is in
    let max = resized bound a.prefix a.rest here.colour here.len (here.len - taken) (omega (arith, less)) (subst (λ rs. IsMaximal bound rs) a.is can.maximal) in
    record {
      maximal = subst (λ rs. IsMaximal bound rs) (sym runs_are) max;
      colours = ap expanded runs_are ∙ (cut_colours a.prefix a.rest here.colour here.len (at - start) taken at (omega (arith, few, a.inside, a.reached)) (omega (arith, a.start_is, a.reached)) ∙ ap (λ rs. removed (expanded rs) at taken) (sym a.is));
      fewer = omega (arith, ap length new_is, length-set old.runs position shorter);
      room = room_is;
    }

-- a whole run
pub whole_done : (bound at n position start taken : ℕ) (old new : Row) (here : Run) → CanCut bound old at n → (a : AtRun old.runs at position start here) → taken ≤ here.len - (at - start) → here.len ≤ taken → TakesOut bound old new a.prefix a.rest → Cuts bound old new at taken
whole_done bound at n position start taken old new here can a few all out =
    let f = run_facts bound old.runs a.prefix a.rest here can.few_colours can.maximal a.is in
    let taken_is : taken ≡ here.len = omega (arith, few, all) in
    let at_is : at ≡ length (expanded a.prefix) = omega (arith, few, all, a.reached, a.start_is, f.some) in
    record {
      maximal = out.maximal;
      colours = out.colours ∙ (whole_colours a.prefix a.rest here at at_is ∙ (ap (λ rs. removed (expanded rs) at here.len) (sym a.is) ∙ ap (λ k. removed (expanded old.runs) at k) (sym taken_is)));
      fewer = out.fewer;
      room = out.room;
    }

-- a gap that stays
pub gap_kept : (bound : ℕ) (old : Row) (prefix back : List Run) (r : Run) (left right : Option Run) → old.runs ≡ prefix ++ back → IsMaximal bound (prefix ++ r ∷ back) → None ≡ joined left right → left ≡ last_run prefix → right ≡ first_run back → TakesOut bound old old prefix back
gap_kept bound old prefix back r left right is m none left_is right_is =
    let none_is : None ≡ joined (last_run prefix) (first_run back) = none ∙ (ap (λ o. joined o right) left_is ∙ ap (λ o. joined (last_run prefix) o) right_is) in
    let max = without bound prefix back r (meets_gap prefix back none_is) m in
    record {
      maximal = subst (λ rs. IsMaximal bound rs) (sym is) max;
      colours = ap expanded is ∙ expanded-append prefix back;
      fewer = omega arith;
      room = refl;
    }

-- a gap between two runs of one colour
pub record Gap (bound position : ℕ) (old : Row) (prefix back : List Run) (whole : Run) : Type 0 where
  pub start : List Run
  pub rest : List Run
  pub l : Run
  pub x : Run
  pub prefix_is : prefix ≡ start ++ l ∷ []
  pub back_is : back ≡ x ∷ rest
  pub is : old.runs ≡ start ++ l ∷ x ∷ rest
  pub position_is : position ≡ length start + 1
  pub whole_is : whole ≡ record { colour = l.colour; len = l.len + x.len }
  pub same : l.colour ≡ x.colour
  pub colour : whole.colour < 4
  pub some : 1 ≤ whole.len
  pub small : whole.len < 2 ^ 32
  pub count : position < length old.runs
  pub after : position ≢ 0
  pub maximal : IsMaximal bound (start ++ record { colour = l.colour; len = l.len + x.len } ∷ rest)

whole_same : (whole l x : Run) → whole.colour ≡ l.colour → whole.len ≡ l.len + x.len → whole ≡ record { colour = l.colour; len = l.len + x.len }
whole_same whole l x colours lens =
    let make : ℕ → ℕ → Run = λ c n. record { colour = c; len = n } in
    ap (λ c. make c whole.len) colours ∙ ap (λ n. make l.colour n) lens

pub gap : (bound position : ℕ) (old : Row) (prefix back : List Run) (r : Run) (left right : Option Run) (whole : Run) → bound ≤ 4 → old.runs ≡ prefix ++ back → position ≡ length prefix → IsMaximal bound (prefix ++ r ∷ back) → length (expanded old.runs) < 2 ^ 32 → left ≡ last_run prefix → right ≡ first_run back → Joins left right whole → Gap bound position old prefix back whole
gap bound position old prefix back r left right whole few is position_is m small left_is right_is j =
    let e = ends prefix j.l (sym left_is ∙ j.left_is) in
    let f = first_is back j.r (sym right_is ∙ j.right_is) in
    let parts_are : prefix ++ r ∷ back ≡ e.start ++ j.l ∷ r ∷ j.r ∷ f.0 =
    ap (λ zs. zs ++ r ∷ back) e.is ∙ (append_assoc e.start (j.l ∷ []) (r ∷ back) ∙ ap (λ zs. e.start ++ j.l ∷ r ∷ zs) f.1) in
    let max = subst (λ rs. IsMaximal bound rs) parts_are m in
    let p = (parts bound e.start (j.l ∷ r ∷ j.r ∷ f.0) max).back_is in
    let old_is : old.runs ≡ e.start ++ j.l ∷ j.r ∷ f.0 = is ∙ (ap (λ zs. zs ++ back) e.is ∙ (append_assoc e.start (j.l ∷ []) back ∙ ap (λ zs. e.start ++ j.l ∷ zs) f.1)) in
    let start_len = length-append e.start (j.l ∷ []) in
    let size = length-expanded-append e.start (j.l ∷ j.r ∷ f.0) in
    record {
      start = e.start;
      rest = f.0;
      l = j.l;
      x = j.r;
      prefix_is = e.is;
      back_is = f.1;
      is = old_is;
      position_is = omega (arith, position_is, ap length e.is, start_len);
      whole_is = whole_same whole j.l j.r j.colour j.len;
      same = j.same;
      colour = omega (arith, j.colour, p.0, few);
      some = omega (arith, j.len, p.1);
      small = omega (arith, j.len, small, ap (λ rs. length (expanded rs)) old_is, size, length-expanded-cons j.l (j.r ∷ f.0), length-expanded-cons j.r f.0);
      count = omega (arith, position_is, ap length e.is, start_len, ap length old_is, length-append e.start (j.l ∷ j.r ∷ f.0));
      after = λ none. absurd (omega (arith, none, position_is, ap length e.is, start_len));
      maximal = without_joined bound e.start f.0 j.l r j.r (j.l.len + j.r.len) (omega (arith, p.1)) j.same max;
    }

remove_next : (runs prefix rest : List Run) (x y : Run) (position : ℕ) → runs ≡ prefix ++ x ∷ y ∷ rest → position ≡ length prefix + 1 → remove runs position ≡ prefix ++ x ∷ rest
remove_next runs prefix rest x y position is position_is =
    let one : position - length prefix ≡ 1 = omega (arith, position_is) in
    ap (λ rs. remove rs position) is ∙ (remove-append_right prefix (x ∷ y ∷ rest) (length prefix) position refl (omega (arith, position_is)) ∙ ap (λ k. prefix ++ remove (x ∷ y ∷ rest) k) one)

pub gap_closed : (bound position : ℕ) (old n1 new : Row) (prefix back : List Run) (whole : Run) → old.runs ≡ prefix ++ back → Gap bound position old prefix back whole → n1.runs ≡ set old.runs (position - 1) whole → new.runs ≡ remove n1.runs position → n1.room ≡ old.room → new.room ≡ n1.room → TakesOut bound old new prefix back
gap_closed bound position old n1 new prefix back whole is g first second r1 r2 =
    let e1 = first ∙ set_here old.runs g.start (g.x ∷ g.rest) g.l whole (position - 1) g.is (omega (arith, g.position_is)) in
    let e2 = second ∙ remove_next n1.runs g.start g.rest whole g.x position e1 g.position_is in
    let runs_are = e2 ∙ ap (λ w. g.start ++ w ∷ g.rest) g.whole_is in
    record {
      maximal = subst (λ rs. IsMaximal bound rs) (sym runs_are) g.maximal;
      colours = ap expanded runs_are ∙ (joined_colours g.start g.rest g.l g.x g.same ∙ (ap expanded (sym g.is ∙ is) ∙ expanded-append prefix back));
      fewer = omega (arith, ap length runs_are, ap length g.is, length-append g.start (record { colour = g.l.colour; len = g.l.len + g.x.len } ∷ g.rest), length-append g.start (g.l ∷ g.x ∷ g.rest));
      room = r2 ∙ r1;
    }

-- the runs beside a gap are short enough together
last_len : (r : Run) (rs : List Run) → (last_run_from r rs).len ≤ length (expanded (r ∷ rs))
last_len r [] = omega (arith, length-expanded-cons r [])
last_len r (s ∷ rs) = omega (arith, last_len s rs, length-expanded-cons r (s ∷ rs))

pub join_fits : (runs prefix back : List Run) (left right : Option Run) → runs ≡ prefix ++ back → length (expanded runs) < 2 ^ 32 → left ≡ last_run prefix → right ≡ first_run back → JoinFits left right
join_fits runs prefix back left right is small left_is right_is =
    subst (λ o. JoinFits o right) (sym left_is) (subst (λ o. JoinFits (last_run prefix) o) (sym right_is) (by_parts prefix back (omega (arith, small, ap (λ rs. length (expanded rs)) is))))
  where
    by_parts : (prefix back : List Run) → length (expanded (prefix ++ back)) < 2 ^ 32 → JoinFits (last_run prefix) (first_run back)
    by_parts [] [] small = tt
    by_parts [] (x ∷ back) small = tt
    by_parts (s ∷ rs) [] small = tt
    by_parts (s ∷ rs) (x ∷ back) small =
        omega (arith, small, last_len s rs, length-expanded-append (s ∷ rs) (x ∷ back), length-expanded-cons x back)

-- the loop that takes out run after run
pub clearing_more : (bound at n left taken : ℕ) (start now next : Row) → Clearing bound start now at n left → taken ≤ left → Cuts bound now next at taken → Clearing bound start next at n (left - taken)
clearing_more bound at n left taken start now next c few cuts =
    let len = length-removed (expanded now.runs) at taken (omega (arith, c.in_range, few)) in
    let next_len = ap length cuts.colours in
    let sum_is : taken + (left - taken) ≡ left = omega (arith, few) in
    record {
      few_colours = c.few_colours;
      maximal = cuts.maximal;
      in_range = omega (arith, c.in_range, few, len, next_len);
      small = omega (arith, c.small, len, next_len);
      colours = ap (λ zs. removed zs at (left - taken)) cuts.colours ∙ (removed_more (expanded now.runs) at taken (left - taken) (omega (arith, c.in_range, few)) ∙ (ap (λ k. removed (expanded now.runs) at k) sum_is ∙ c.colours));
      fewer = omega (arith, cuts.fewer, c.fewer);
      room = cuts.room ∙ c.room;
    }

pub cleared : (bound at n left : ℕ) (start now : Row) → Clearing bound start now at n left → left ≡ 0 → Cuts bound start now at n
cleared bound at n left start now c none =
    record {
      maximal = c.maximal;
      colours = sym (removed_none (expanded now.runs) at (omega (arith, c.in_range))) ∙ (ap (λ k. removed (expanded now.runs) at k) (sym none) ∙ c.colours);
      fewer = c.fewer;
      room = c.room;
    }
