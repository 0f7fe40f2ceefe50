-- Steps of the loops that build tables.
use Rattle.std.proofs.Common.{◌≡◌, ℕ, ◌+◌, ◌<◌, ◌≤◌, ◌==◌, ◌||◌, Bool, true, false, List, [], ◌∷◌, ◌++◌, map, length, get_or, take, drop, Option, Some, None, refl, sym, ap, subst, ◌∙◌, arith, length-append}
use Rattle.std.specs.Prelude.{option_map, option_to_list, filter_map}
use Rattle.std.specs.List.{AllZip, cons_option}
use Rattle.std.proofs.lemmas.List.{append-nil, take_more, take-append-drop, length-map, map-append}
use Rattle.std.proofs.lemmas.Bool.{eqb-true}
use Rattle.std.proofs.lemmas.List.Elements.{filter_map-append}
use Rattle.spec_order.specs.DependencyOrder.{has}
use Rattle.gl_lines.specs.declared.named.Named.{Named}
use Rattle.gl_lines.specs.declared.line.NumberedLine.{NumberedLine}
use Rattle.spec_plans.specs.Lines.{Head, Hearer, head_of, hearer_of}
use Rattle.spec_plans.specs.Names.{heads, hearers, list_names, listener_names, number_of, numbers_in}
use Rattle.gl_plan_faults.specs.declared.listed.Listed.{Listed}
use Rattle.gl_plan_faults.specs.Marks.{Lists, StandsFor}
use Rattle.spec_basics.proofs.Booleans.{or_false}

module _ {X Y : Type 0} (h : X → Option Y) where
  one_given : (o : Option Y) → cons_option o [] ≡ option_to_list o
  one_given None = refl
  one_given (Some y) = refl

  -- what is given of one item more
  pub given_more : (xs : List X) (i : ℕ) (x : X) → i < length xs → x ≡ get_or xs i x
      → filter_map h (take (i + 1) xs) ≡ filter_map h (take i xs) ++ option_to_list (h x)
  given_more xs i x l e =
      ap (filter_map h) (take_more xs i x l)
      ∙ filter_map-append h (take i xs) (get_or xs i x ∷ [])
      ∙ ap (λ ys. filter_map h (take i xs) ++ ys) (one_given (h (get_or xs i x)) ∙ ap (λ y. option_to_list (h y)) (sym e))

  -- the first items give no more than all
  pub given_few : (xs : List X) (i : ℕ) → length (filter_map h (take i xs)) ≤ length (filter_map h xs)
  given_few xs i =
      let e : filter_map h xs ≡ filter_map h (take i xs) ++ filter_map h (drop i xs) =
      ap (filter_map h) (sym (take-append-drop i xs)) ∙ filter_map-append h (take i xs) (drop i xs) in
      let n : length (filter_map h xs) ≡ length (filter_map h (take i xs)) + length (filter_map h (drop i xs)) =
      ap length e ∙ length-append (filter_map h (take i xs)) (filter_map h (drop i xs)) in
      omega (arith, n)

mapped_option : {X Y : Type 0} (f : X → Y) (o : Option X) → map f (option_to_list o) ≡ option_to_list (option_map f o)
mapped_option f None = refl
mapped_option f (Some x) = refl

pub few_lists : (lines : List NumberedLine) (i : ℕ) → length (heads lines) ≤ 256 → length (list_names (take i lines)) < 4294967296
few_lists lines i few =
    let n : length (list_names (take i lines)) ≡ length (heads (take i lines)) = length-map (heads (take i lines)) (λ (h : Head). h.name.name) in
    omega (arith, n, given_few (λ (l : NumberedLine). head_of l.what) lines i)

pub few_listeners : (lines : List NumberedLine) (i : ℕ) → length (hearers lines) ≤ 256 → length (listener_names (take i lines)) < 4294967296
few_listeners lines i few =
    let n : length (listener_names (take i lines)) ≡ length (hearers (take i lines)) = length-map (hearers (take i lines)) (λ (h : Hearer). h.name.name) in
    omega (arith, n, given_few (λ (l : NumberedLine). hearer_of l.what) lines i)

pub lists_more : (lines : List NumberedLine) (i : ℕ) (l : NumberedLine) → i < length lines → l ≡ get_or lines i l
    → list_names (take i lines) ++ option_to_list (option_map (λ h. h.name.name) (head_of l.what)) ≡ list_names (take (i + 1) lines)
lists_more lines i l within e =
    let f : Head → List ℕ = λ h. h.name.name in
    sym (ap (map f) (given_more (λ (l : NumberedLine). head_of l.what) lines i l within e)
    ∙ map-append f (heads (take i lines)) (option_to_list (head_of l.what))
    ∙ ap (λ ns. list_names (take i lines) ++ ns) (mapped_option f (head_of l.what)))

pub listeners_more : (lines : List NumberedLine) (i : ℕ) (l : NumberedLine) → i < length lines → l ≡ get_or lines i l
    → listener_names (take i lines) ++ option_to_list (option_map (λ h. h.name.name) (hearer_of l.what)) ≡ listener_names (take (i + 1) lines)
listeners_more lines i l within e =
    let f : Hearer → List ℕ = λ h. h.name.name in
    sym (ap (map f) (given_more (λ (l : NumberedLine). hearer_of l.what) lines i l within e)
    ∙ map-append f (hearers (take i lines)) (option_to_list (hearer_of l.what))
    ∙ ap (λ ns. listener_names (take i lines) ++ ns) (mapped_option f (hearer_of l.what)))

-- numbers among two lists
pub has-append : (xs ys : List ℕ) (b : ℕ) → has (xs ++ ys) b ≡ (has xs b || has ys b)
has-append [] ys b = refl
has-append (x ∷ xs) ys b = ap (λ t. (x == b) || t) (has-append xs ys b) ∙ regroup (x == b) (has xs b) (has ys b)
  where
    regroup : (p q r : Bool) → (p || (q || r)) ≡ ((p || q) || r)
    regroup true q r = refl
    regroup false q r = refl

numbers-append : (names : List (List ℕ)) (xs ys : List Named) → numbers_in names (xs ++ ys) ≡ numbers_in names xs ++ numbers_in names ys
numbers-append names xs ys = filter_map-append (λ (n : Named). number_of names n.name) xs ys

pub has_both : (names : List (List ℕ)) (xs ys : List Named) (first both : List ℕ)
    → ((b : ℕ) → has first b ≡ has (numbers_in names xs) b)
    → ((b : ℕ) → has both b ≡ (has first b || has (numbers_in names ys) b))
    → (b : ℕ) → has both b ≡ has (numbers_in names (xs ++ ys)) b
has_both names xs ys first both f g b =
    g b ∙ ap (λ t. t || has (numbers_in names ys) b) (f b)
    ∙ sym (has-append (numbers_in names xs) (numbers_in names ys) b)
    ∙ ap (λ ns. has ns b) (sym (numbers-append names xs ys))

or_assoc : (p q r : Bool) → ((p || q) || r) ≡ (p || (q || r))
or_assoc true q r = refl
or_assoc false q r = refl

pub numbers_more : (names : List (List ℕ)) (listed : List Named) (i : ℕ) (n : Named) (at_first so_far more : List ℕ) → i < length listed → n ≡ get_or listed i n
    → ((b : ℕ) → has so_far b ≡ (has at_first b || has (numbers_in names (take i listed)) b))
    → ((b : ℕ) → has more b ≡ (has so_far b || has (option_to_list (number_of names n.name)) b))
    → (b : ℕ) → has more b ≡ (has at_first b || has (numbers_in names (take (i + 1) listed)) b)
numbers_more names listed i n at_first so_far more within e f g b =
    g b ∙ ap (λ t. t || has (option_to_list (number_of names n.name)) b) (f b)
    ∙ or_assoc (has at_first b) (has (numbers_in names (take i listed)) b) (has (option_to_list (number_of names n.name)) b)
    ∙ ap (λ t. has at_first b || t) (sym (has-append (numbers_in names (take i listed)) (option_to_list (number_of names n.name)) b)
    ∙ ap (λ ns. has ns b) (sym (given_more (λ (m : Named). number_of names m.name) listed i n within e)))

pub has_no_more : (xs : List ℕ) (b : ℕ) → has xs b ≡ (has xs b || false)
has_no_more xs b = or_false (has xs b)

pub has_pushed : (xs : List ℕ) (n b : ℕ) → has (xs ++ n ∷ []) b ≡ (has xs b || has (n ∷ []) b)
has_pushed xs n b = has-append xs (n ∷ []) b

pub has_already : (xs : List ℕ) (n b : ℕ) → true ≡ has xs n → has xs b ≡ (has xs b || has (n ∷ []) b)
has_already xs n b there = by (n == b) refl
  where
    always : (p : Bool) → p ≡ true → p ≡ (p || true)
    always true e = refl
    always false e = e

    by : (t : Bool) → (n == b) ≡ t → has xs b ≡ (has xs b || (t || false))
    by true e = always (has xs b) (ap (has xs) (sym (eqb-true n b e)) ∙ sym there)
    by false e = or_false (has xs b)

-- a list more
all_zip_push : {X Y : Type 0} (R : X → Y → Type 0) (xs : List X) (ys : List Y) (x : X) (y : Y) → AllZip R xs ys → R x y → AllZip R (xs ++ x ∷ []) (ys ++ y ∷ [])
all_zip_push R [] [] x y z r = (r, tt)
all_zip_push R [] (w ∷ ys) x y z r = absurd z
all_zip_push R (v ∷ xs) [] x y z r = absurd z
all_zip_push R (v ∷ xs) (w ∷ ys) x y z r = (z.0, all_zip_push R xs ys x y z.1 r)

pub listed_none : (names : List (List ℕ)) (lists : List Listed) (o : Option Head) → None ≡ o → Lists names lists o lists
listed_none names lists o e = subst (λ p. Lists names lists p lists) e refl

pub listed_one : (names : List (List ℕ)) (lists : List Listed) (o : Option Head) (h : Head) (list : Listed) → Some h ≡ o → list.class ≡ h.class
    → ((b : ℕ) → has list.needs b ≡ has (numbers_in names (h.inputs ++ h.may)) b) → Lists names lists o (lists ++ list ∷ [])
listed_one names lists o h list e class needs = subst (λ p. Lists names lists p (lists ++ list ∷ [])) e (list, refl, class, needs)

with_one : (lines : List NumberedLine) (hs : List Head) (lists : List Listed) (o : Option Head) (more : List Listed)
    → AllZip (StandsFor lines) hs lists → Lists (list_names lines) lists o more → AllZip (StandsFor lines) (hs ++ option_to_list o) more
with_one lines hs lists None more z e =
    subst (λ gs. AllZip (StandsFor lines) gs more) (sym (append-nil hs)) (subst (AllZip (StandsFor lines) hs) (sym e) z)
with_one lines hs lists (Some h) more z m =
    subst (AllZip (StandsFor lines) (hs ++ h ∷ [])) (sym m.1)
    (all_zip_push (StandsFor lines) hs lists h m.0 z (record { class_is = m.2; needs_are = m.3 }))

pub listed_more : (lines : List NumberedLine) (i : ℕ) (l : NumberedLine) (lists more : List Listed) → i < length lines → l ≡ get_or lines i l
    → AllZip (StandsFor lines) (heads (take i lines)) lists → Lists (list_names lines) lists (head_of l.what) more
    → AllZip (StandsFor lines) (heads (take (i + 1) lines)) more
listed_more lines i l lists more within e z m =
    subst (λ hs. AllZip (StandsFor lines) hs more) (sym (given_more (λ (k : NumberedLine). head_of k.what) lines i l within e))
    (with_one lines (heads (take i lines)) lists (head_of l.what) more z m)
