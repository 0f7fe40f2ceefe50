-- The one spelling of a matcher within the limits is spelled: the grammar has it, with the parentheses that it needs.
use Rattle.std.proofs.Common.{◌≡◌, ℕ, zero, suc, ◌+◌, ◌≤◌, true, List, [], ◌∷◌, ◌++◌, length, refl, sym, ap, ◌∙◌, inl, inr, arith, append_assoc, append-nil, codes}
use Rattle.spec_value.specs.Tree.{Tree}
use Rattle.spec_syntax.specs.Grammar.{Grammar, many, words}
use Rattle.spec_lang.specs.declared.Test.{Test}
use Rattle.spec_lang.specs.declared.Test.TheVariants.{Eq, Ne, Lt, Le, Gt, Ge}
use Rattle.spec_lang.specs.Matcher as meant
use Rattle.spec_syntax.specs.ValueText.{spelled_value}
use Rattle.spec_syntax.specs.Value.{value}
use Rattle.spec_syntax.specs.Matcher.{all_of, any_of, Joint, conjunction, disjunction, up_to_or, after_or, chained, joint_words, joined_unit, chain, test_words, tested, comparison, unit, matcher}
use Rattle.spec_syntax.specs.Proper.{IsMatcher, AreMatchers, deeper_if, matcher_nesting, units_nesting, choices_nesting}
use Rattle.spec_syntax.specs.Spelled.{spelled_path, spelled_test, is_joined, is_choice, enclosed_if, spelled_matcher, spelled_units, spelled_other_units, spelled_choices, spelled_other_choices}
use Rattle.spec_syntax.proofs.Spelled.{value_spelled}
use Rattle.spec_syntax.proofs.Within.{path_spelled}

-- a unit after ` and ` or ` or `
abbrev Joined : ℕ → Grammar (Joint × meant.Matcher)
Joined depth = words (joined_unit (unit depth)) joint_words

abbrev joined_by_and : List meant.Matcher → List (Joint × meant.Matcher) → List (Joint × meant.Matcher)
joined_by_and [] rest = rest
joined_by_and (m ∷ ms) rest = (conjunction, m) ∷ joined_by_and ms rest

up_to_joined : (ms : List meant.Matcher) (rest : List (Joint × meant.Matcher)) → up_to_or rest ≡ [] → up_to_or (joined_by_and ms rest) ≡ ms
up_to_joined [] rest h = h
up_to_joined (m ∷ ms) rest h = ap (λ x. m ∷ x) (up_to_joined ms rest h)

after_joined : (ms : List meant.Matcher) (rest : List (Joint × meant.Matcher)) → after_or (joined_by_and ms rest) ≡ after_or rest
after_joined [] rest = refl
after_joined (m ∷ ms) rest = after_joined ms rest

matchers_listed : (ms : meant.Matchers) → meant.matchers (meant.listed ms) ≡ ms
matchers_listed meant.none = refl
matchers_listed (meant.more m ms) = ap (meant.more m) (matchers_listed ms)

-- bytes that spell a part of an `or`: units with ` and ` between every two
record IsPart (depth : ℕ) (m : meant.Matcher) (bs : List ℕ) : Type 0 where
  first : meant.Matcher
  others : List meant.Matcher
  made : all_of first others ≡ m
  prefix : List ℕ
  back : List ℕ
  begun : unit depth first prefix
  goes_on : (rest : List (Joint × meant.Matcher)) (t : List ℕ) → many (Joined depth) rest t → many (Joined depth) (joined_by_and others rest) (back ++ t)
  text : bs ≡ prefix ++ back

single : (depth : ℕ) (m : meant.Matcher) (bs : List ℕ) → unit depth m bs → IsPart depth m bs
single depth m bs s = record { first = m; others = []; made = refl; prefix = bs; back = []; begun = s; goes_on = λ rest t r. r; text = sym (append-nil bs) }

-- a part alone is a matcher
part_chain : (depth : ℕ) (m : meant.Matcher) (bs : List ℕ) → IsPart depth m bs → chain (unit depth) m bs
part_chain depth m bs p =
    let joints = joined_by_and p.others [] in
    let alone : chained (p.first, joints) ≡ m =
    ap (λ x. any_of (all_of p.first x) (after_or joints)) (up_to_joined p.others [] refl) ∙ ap (any_of (all_of p.first p.others)) (after_joined p.others []) ∙ p.made in
    ((p.first, joints), (p.prefix, p.back ++ [], p.begun, p.goes_on [] [] refl, p.text ∙ sym (ap (λ x. p.prefix ++ x) (append-nil p.back))), sym alone)

-- bytes that spell the parts of an `or` after its first one
record AreParts (depth : ℕ) (ms : meant.Matchers) (bs : List ℕ) : Type 0 where
  joints : List (Joint × meant.Matcher)
  ends : up_to_or joints ≡ []
  made : after_or joints ≡ meant.listed ms
  spelled : many (Joined depth) joints bs

no_parts : (depth : ℕ) → AreParts depth meant.none []
no_parts depth = record { joints = []; ends = refl; made = refl; spelled = refl }

more_parts : (depth : ℕ) (m : meant.Matcher) (ms : meant.Matchers) (bs rest : List ℕ) → IsPart depth m bs → AreParts depth ms rest → AreParts depth (meant.more m ms) ((codes " or " ++ bs) ++ rest)
more_parts depth m ms bs rest p r = record {
  joints = (disjunction, p.first) ∷ joined_by_and p.others r.joints;
  ends = refl;
  made =
      ap (λ x. all_of p.first x ∷ after_or (joined_by_and p.others r.joints)) (up_to_joined p.others r.joints r.ends)
      ∙ ap (λ x. x ∷ after_or (joined_by_and p.others r.joints)) p.made
      ∙ ap (λ x. m ∷ x) (after_joined p.others r.joints ∙ r.made);
  spelled = (
    codes " or " ++ p.prefix,
    p.back ++ rest,
    inr (inl ((tt, (disjunction, p.first)), (codes " or ", p.prefix, refl, (p.first, p.begun, refl), refl), refl)),
    p.goes_on r.joints rest r.spelled,
    ap (λ x. codes " or " ++ (x ++ rest)) p.text ∙ ap (λ x. codes " or " ++ x) (append_assoc p.prefix p.back rest),
  );
}

parts_chain : (depth : ℕ) (m : meant.Matcher) (ms : meant.Matchers) (bs rest : List ℕ) → 1 ≤ length (meant.listed ms) → IsPart depth m bs → AreParts depth ms rest → chain (unit depth) (meant.either (meant.more m ms)) (bs ++ rest)
parts_chain depth m meant.none bs rest l p r = absurd (omega arith)
parts_chain depth m (meant.more n ms) bs rest l p r =
    let joints = joined_by_and p.others r.joints in
    let whole : chained (p.first, joints) ≡ meant.either (meant.more m (meant.more n ms)) =
    ap (λ x. any_of (all_of p.first x) (after_or joints)) (up_to_joined p.others r.joints r.ends)
    ∙ ap (λ x. any_of x (after_or joints)) p.made
    ∙ ap (any_of m) (after_joined p.others r.joints ∙ r.made)
    ∙ ap (λ x. meant.either (meant.more m (meant.more n x))) (matchers_listed ms) in
    ((p.first, joints), (p.prefix, p.back ++ rest, p.begun, p.goes_on r.joints rest r.spelled, ap (λ x. x ++ rest) p.text ∙ append_assoc p.prefix p.back rest), sym whole)

test_in : (test : Test) (v : Tree) (t : List ℕ) → value 64 v t → words tested test_words (test, v) (spelled_test test ++ t)
test_in Eq v t s = inl ((tt, (Eq, v)), (codes " = ", t, refl, (v, s, refl), refl), refl)
test_in Ne v t s = inr (inl ((tt, (Ne, v)), (codes " != ", t, refl, (v, s, refl), refl), refl))
test_in Lt v t s = inr (inr (inl ((tt, (Lt, v)), (codes " < ", t, refl, (v, s, refl), refl), refl)))
test_in Le v t s = inr (inr (inr (inl ((tt, (Le, v)), (codes " <= ", t, refl, (v, s, refl), refl), refl))))
test_in Gt v t s = inr (inr (inr (inr (inl ((tt, (Gt, v)), (codes " > ", t, refl, (v, s, refl), refl), refl)))))
test_in Ge v t s = inr (inr (inr (inr (inr (inl ((tt, (Ge, v)), (codes " >= ", t, refl, (v, s, refl), refl), refl))))))

comparison_in : (p : List ℕ) (test : Test) (v : Tree) → IsMatcher (meant.is p test v) → comparison (meant.is p test v) (spelled_matcher (meant.is p test v))
comparison_in p test v h =
    ((p, (test, v)), (spelled_path p, spelled_test test ++ spelled_value v, path_spelled p h.0, test_in test v (spelled_value v) (value_spelled v h.1 64 h.2), append_assoc (spelled_path p) (spelled_test test) (spelled_value v)), refl)

unit_compares : (depth : ℕ) (m : meant.Matcher) (bs : List ℕ) → comparison m bs → unit depth m bs
unfolding unit
unit_compares zero m bs s = inl s
unit_compares (suc depth) m bs s = inl s

unit_all : (depth : ℕ) → unit depth meant.all (codes "all")
unfolding unit
unit_all zero = inr (inl ((tt, meant.all), (codes "all", [], refl, (tt, refl, refl), refl), refl))
unit_all (suc depth) = inr (inr (inr (inl ((tt, meant.all), (codes "all", [], refl, (tt, refl, refl), refl), refl))))

unit_nothing : (depth : ℕ) → unit depth meant.nothing (codes "none")
unfolding unit
unit_nothing zero = inr (inr (inl ((tt, meant.nothing), (codes "none", [], refl, (tt, refl, refl), refl), refl)))
unit_nothing (suc depth) = inr (inr (inr (inr (inl ((tt, meant.nothing), (codes "none", [], refl, (tt, refl, refl), refl), refl)))))

unit_negated : (n depth : ℕ) (m : meant.Matcher) (bs : List ℕ) → n + 1 ≤ depth → ((k : ℕ) → n ≤ k → unit k m bs) → unit depth (meant.negation m) (codes "not " ++ bs)
unfolding unit
unit_negated n zero m bs l s = absurd (omega arith)
unit_negated n (suc depth) m bs l s = inr (inl ((tt, meant.negation m), (codes "not ", bs, refl, (m, s depth (omega arith), refl), refl), refl))

unit_enclosed : (n depth : ℕ) (m : meant.Matcher) (bs : List ℕ) → n + 1 ≤ depth → ((k : ℕ) → n ≤ k → chain (unit k) m bs) → unit depth m (enclosed_if true bs)
unfolding unit
unit_enclosed n zero m bs l s = absurd (omega arith)
unit_enclosed n (suc depth) m bs l s = inr (inr (inl ((tt, m), (codes "(", bs ++ codes ")", refl, ((m, tt), (bs, codes ")", s depth (omega arith), refl, refl), refl), refl), refl)))

-- the spelling of a matcher as a unit and as a part of an `or`, wherever there is depth enough
abbrev IsWritten : meant.Matcher → Type 0
IsWritten m =
    ((depth : ℕ) → deeper_if (is_joined m) (matcher_nesting m) ≤ depth → unit depth m (enclosed_if (is_joined m) (spelled_matcher m)))
    × ((depth : ℕ) → deeper_if (is_choice m) (matcher_nesting m) ≤ depth → IsPart depth m (enclosed_if (is_choice m) (spelled_matcher m)))

abbrev AreWritten : meant.Matchers → Type 0
AreWritten meant.none = Unit {0}
AreWritten (meant.more m ms) = IsWritten m × AreWritten ms

-- the parts of an `and` after its first one
units_on : (ms : meant.Matchers) → AreWritten ms → (depth : ℕ) → units_nesting ms ≤ depth → (rest : List (Joint × meant.Matcher)) (t : List ℕ) → many (Joined depth) rest t → many (Joined depth) (joined_by_and (meant.listed ms) rest) (spelled_other_units ms ++ t)
units_on meant.none w depth l rest t s = s
units_on (meant.more m ms) w depth l rest t s =
    let own = enclosed_if (is_joined m) (spelled_matcher m) in (
      codes " and " ++ own,
      spelled_other_units ms ++ t,
      inl ((tt, (conjunction, m)), (codes " and ", own, refl, (m, w.0.0 depth (omega arith), refl), refl), refl),
      units_on ms w.1 depth (omega arith) rest t s,
      ap (λ x. codes " and " ++ x) (append_assoc own (spelled_other_units ms) t),
    )

both_part : (ms : meant.Matchers) → 2 ≤ length (meant.listed ms) → AreWritten ms → (depth : ℕ) → units_nesting ms ≤ depth → IsPart depth (meant.both ms) (spelled_units ms)
both_part meant.none two w depth l = absurd (omega arith)
both_part (meant.more m meant.none) two w depth l = absurd (omega arith)
both_part (meant.more m (meant.more n ms)) two w depth l = record {
  first = m;
  others = meant.listed (meant.more n ms);
  made = ap (λ x. meant.both (meant.more m (meant.more n x))) (matchers_listed ms);
  prefix = enclosed_if (is_joined m) (spelled_matcher m);
  back = spelled_other_units (meant.more n ms);
  begun = w.0.0 depth (omega arith);
  goes_on = units_on (meant.more n ms) w.1 depth (omega arith);
  text = refl;
}

-- the parts of an `or` after its first one
choices_on : (ms : meant.Matchers) → AreWritten ms → (depth : ℕ) → choices_nesting ms ≤ depth → AreParts depth ms (spelled_other_choices ms)
choices_on meant.none w depth l = no_parts depth
choices_on (meant.more m ms) w depth l =
    more_parts depth m ms (enclosed_if (is_choice m) (spelled_matcher m)) (spelled_other_choices ms) (w.0.1 depth (omega arith)) (choices_on ms w.1 depth (omega arith))

either_chain : (ms : meant.Matchers) → 2 ≤ length (meant.listed ms) → AreWritten ms → (depth : ℕ) → choices_nesting ms ≤ depth → chain (unit depth) (meant.either ms) (spelled_choices ms)
either_chain meant.none two w depth l = absurd (omega arith)
either_chain (meant.more m ms) two w depth l =
    parts_chain depth m ms (enclosed_if (is_choice m) (spelled_matcher m)) (spelled_other_choices ms) (omega arith) (w.0.1 depth (omega arith)) (choices_on ms w.1 depth (omega arith))

mutual
  written : (m : meant.Matcher) → IsMatcher m → IsWritten m
  written meant.all h = (λ depth l. unit_all depth, λ depth l. single depth meant.all (codes "all") (unit_all depth))
  written meant.nothing h = (λ depth l. unit_nothing depth, λ depth l. single depth meant.nothing (codes "none") (unit_nothing depth))
  written (meant.is p test v) h =
      let own = comparison_in p test v h in
      let bs = spelled_matcher (meant.is p test v) in
      (λ depth l. unit_compares depth (meant.is p test v) bs own, λ depth l. single depth (meant.is p test v) bs (unit_compares depth (meant.is p test v) bs own))
  written (meant.negation m) h =
      let own = written m h in
      let bs = enclosed_if (is_joined m) (spelled_matcher m) in
      let n = deeper_if (is_joined m) (matcher_nesting m) in
      (λ depth l. unit_negated n depth m bs l own.0, λ depth l. single depth (meant.negation m) (codes "not " ++ bs) (unit_negated n depth m bs l own.0))
  written (meant.both ms) h =
      let part = both_part ms h.0 (all_written ms h.1) in
      (λ depth l. unit_enclosed (units_nesting ms) depth (meant.both ms) (spelled_units ms) l (λ k e. part_chain k (meant.both ms) (spelled_units ms) (part k e)), λ depth l. part depth l)
  written (meant.either ms) h =
      let own = either_chain ms h.0 (all_written ms h.1) in
      let n = choices_nesting ms in
      (λ depth l. unit_enclosed n depth (meant.either ms) (spelled_choices ms) l own, λ depth l. single depth (meant.either ms) (enclosed_if true (spelled_choices ms)) (unit_enclosed n depth (meant.either ms) (spelled_choices ms) l own))

  all_written : (ms : meant.Matchers) → AreMatchers ms → AreWritten ms
  all_written meant.none h = tt
  all_written (meant.more m ms) h = (written m h.0, all_written ms h.1)

-- the one spelling of a matcher is spelled
pub matcher_spelled : (m : meant.Matcher) → IsMatcher m → matcher_nesting m ≤ 8 → matcher m (spelled_matcher m)
matcher_spelled meant.all h l = part_chain 8 meant.all (codes "all") ((written meant.all h).1 8 l)
matcher_spelled meant.nothing h l = part_chain 8 meant.nothing (codes "none") ((written meant.nothing h).1 8 l)
matcher_spelled (meant.is p test v) h l = part_chain 8 (meant.is p test v) (spelled_matcher (meant.is p test v)) ((written (meant.is p test v) h).1 8 l)
matcher_spelled (meant.negation m) h l = part_chain 8 (meant.negation m) (spelled_matcher (meant.negation m)) ((written (meant.negation m) h).1 8 l)
matcher_spelled (meant.both ms) h l = part_chain 8 (meant.both ms) (spelled_units ms) ((written (meant.both ms) h).1 8 l)
matcher_spelled (meant.either ms) h l = either_chain ms h.0 (all_written ms h.1) 8 l
