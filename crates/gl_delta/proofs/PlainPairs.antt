-- Elements with an equal partner, counted and found by the kept pieces.
use Rattle.std.proofs.Common.{◌≡◌, ◌∙◌, ℕ, zero, suc, ◌+◌, ◌-◌, ◌<◌, ◌≤◌, List, [], ◌∷◌, ◌++◌, length, take, drop, min, nat_lt, Bool, true, false, Option, Some, None, option_map, slice_get, refl, ap, sym, arith}
use Rattle.std.proofs.lemmas.Bool.Decides.{nat_tests}
use Rattle.std.proofs.lemmas.List.{length-append, length-drop, length-take-le, take_all}
use Rattle.spec_value.specs.Tree.{Tree}
use Rattle.spec_lists.specs.Piece.{Piece, kept, updated, deleted, inserted, new_len}
use Rattle.spec_lists.specs.Sides.{Item, plain, changed, lone, news}
use Rattle.gl_delta.specs.declared.mark.Side.TheVariants.{New}
use Rattle.gl_delta.specs.Marks.{IsSelected}
use Rattle.gl_delta.specs.Part.{plain_values, plain_len, plain_position}
use Rattle.gl_delta.specs.Plain.{kept_len}

-- the kept pieces before a place are the elements below it that have an equal partner
counts_plain : (ps : List Piece) (position i : ℕ) → kept_len (take position ps) ≡ plain_len (take (new_len (take position ps)) (news i ps))
counts_plain ps zero i = refl
counts_plain [] (suc position) i = refl
counts_plain (kept ∷ ps) (suc position) i = ap suc (counts_plain ps position (suc i))
counts_plain (updated v w ∷ ps) (suc position) i = counts_plain ps position (suc i)
counts_plain (deleted v ∷ ps) (suc position) i = counts_plain ps position (suc i)
counts_plain (inserted w ∷ ps) (suc position) i = counts_plain ps position i

length-news : (ps : List Piece) (i : ℕ) → length (news i ps) ≡ new_len ps
length-news [] i = refl
length-news (kept ∷ ps) i = ap suc (length-news ps (suc i))
length-news (updated v w ∷ ps) i = ap suc (length-news ps (suc i))
length-news (deleted v ∷ ps) i = length-news ps (suc i)
length-news (inserted w ∷ ps) i = ap suc (length-news ps i)

kept_few : (ps : List Piece) → kept_len ps ≤ new_len ps
kept_few [] = omega arith
kept_few (kept ∷ ps) = omega (arith, kept_few ps)
kept_few (updated v w ∷ ps) = omega (arith, kept_few ps)
kept_few (deleted v ∷ ps) = omega (arith, kept_few ps)
kept_few (inserted w ∷ ps) = omega (arith, kept_few ps)

-- what is below a place, or all where that many aren't there
at_most : (n : ℕ) (xs : List Item) → take (min n (length xs)) xs ≡ take n xs
at_most n xs = by_test (nat_lt n (length xs)) refl
  where
    by_test : (b : Bool) → nat_lt n (length xs) ≡ b → take (min n (length xs)) xs ≡ take n xs
    by_test true e = let less : n < length xs = grind (arith, nat_tests) in let m : min n (length xs) ≡ n = omega (arith, less) in ap (λ k. take k xs) m
    by_test false e =
        let past : length xs ≤ n = grind (arith, nat_tests) in
        let m : length xs ≤ min n (length xs) = omega (arith, past) in
        take_all (min n (length xs)) xs m ∙ sym (take_all n xs past)

pub before_few : (ps : List Piece) (at k position : ℕ) → k ≡ min at (new_len ps) → IsSelected New ps k position → kept_len (take position ps) ≤ at
before_few ps at k position h s = let m : min at (new_len ps) ≤ at = omega arith in omega (arith, h, m, s.before, kept_few (take position ps))

pub before_is : (ps : List Piece) (at k position : ℕ) → k ≡ min at (new_len ps) → IsSelected New ps k position → kept_len (take position ps) ≡ plain_len (take at (news 0 ps))
before_is ps at k position e s =
    let n : new_len (take position ps) ≡ min at (length (news 0 ps)) = s.before ∙ (e ∙ ap (min at) (sym (length-news ps 0))) in
    counts_plain ps position 0 ∙ ap plain_len (ap (λ i. take i (news 0 ps)) n ∙ at_most at (news 0 ps))

-- a kept piece is an element that has an equal partner
pub position_is : (ps : List Piece) (k found i : ℕ) → slice_get ps found ≡ Some kept → kept_len (take found ps) ≡ k → plain_position (news i ps) k ≡ Some (new_len (take found ps))
position_is [] k found i got e = cc
position_is (kept ∷ ps) zero zero i got e = refl
position_is (kept ∷ ps) (suc k) zero i got e = absurd (omega (arith, e))
position_is (updated v w ∷ ps) k zero i got e = cc
position_is (deleted v ∷ ps) k zero i got e = cc
position_is (inserted w ∷ ps) k zero i got e = cc
position_is (kept ∷ ps) zero (suc found) i got e = absurd (omega (arith, e))
position_is (kept ∷ ps) (suc k) (suc found) i got e = ap (option_map suc) (position_is ps k found (suc i) got (omega (arith, e)))
position_is (updated v w ∷ ps) k (suc found) i got e = ap (option_map suc) (position_is ps k found (suc i) got e)
position_is (deleted v ∷ ps) k (suc found) i got e = position_is ps k found (suc i) got e
position_is (inserted w ∷ ps) k (suc found) i got e = ap (option_map suc) (position_is ps k found i got e)

pub no_place : (ps : List Piece) (k i : ℕ) → kept_len ps ≤ k → plain_position (news i ps) k ≡ None
no_place [] k i h = refl
no_place (kept ∷ ps) zero i h = absurd (omega (arith, h))
no_place (kept ∷ ps) (suc k) i h = ap (option_map suc) (no_place ps k (suc i) (omega (arith, h)))
no_place (updated v w ∷ ps) k i h = ap (option_map suc) (no_place ps k (suc i) h)
no_place (deleted v ∷ ps) k i h = no_place ps k (suc i) h
no_place (inserted w ∷ ps) k i h = ap (option_map suc) (no_place ps k i h)

-- an element with an equal partner, from a place on, is found in the whole list by its number there
abbrev pub at_position : List Tree → Option ℕ → Option Tree
at_position ys None = None
at_position ys (Some i) = slice_get ys i

at_next : (y : Tree) (ys : List Tree) (o : Option ℕ) → at_position ys o ≡ at_position (y ∷ ys) (option_map suc o)
at_next y ys None = refl
at_next y ys (Some i) = refl

nowhere : (o : Option ℕ) → None ≡ at_position [] (option_map suc o)
nowhere None = refl
nowhere (Some i) = refl

none_there : (o : Option ℕ) → at_position [] o ≡ None
none_there None = refl
none_there (Some j) = refl

plain_get : (xs : List Item) (ys : List Tree) (k : ℕ) → slice_get (plain_values xs ys) k ≡ at_position ys (plain_position xs k)
plain_get [] ys k = refl
plain_get (plain i ∷ xs) [] zero = refl
plain_get (plain i ∷ xs) [] (suc k) = nowhere (plain_position xs k)
plain_get (plain i ∷ xs) (y ∷ ys) zero = refl
plain_get (plain i ∷ xs) (y ∷ ys) (suc k) = plain_get xs ys k ∙ at_next y ys (plain_position xs k)
plain_get (changed i w ∷ xs) [] k = nowhere (plain_position xs k)
plain_get (changed i w ∷ xs) (y ∷ ys) k = plain_get xs ys k ∙ at_next y ys (plain_position xs k)
plain_get (lone w ∷ xs) [] k = nowhere (plain_position xs k)
plain_get (lone w ∷ xs) (y ∷ ys) k = plain_get xs ys k ∙ at_next y ys (plain_position xs k)

at_number : (xs : List Item) (k l : ℕ) → k ≡ l → plain_position xs k ≡ plain_position xs l
at_number xs k l e = ap (plain_position xs) e

-- where the list ends there are none
no_values : (xs : List Item) (k : ℕ) → slice_get (plain_values xs []) k ≡ None
no_values [] k = refl
no_values (plain i ∷ xs) k = refl
no_values (changed i w ∷ xs) k = refl
no_values (lone w ∷ xs) k = refl

plain_get_from : (xs : List Item) (ys : List Tree) (upto k : ℕ) → slice_get (plain_values (drop upto xs) (drop upto ys)) k ≡ at_position ys (plain_position xs (plain_len (take upto xs) + k))
plain_get_from xs ys zero k = plain_get xs ys k ∙ ap (at_position ys) (at_number xs k (0 + k) (omega arith))
plain_get_from xs [] (suc upto) k = no_values (drop (suc upto) xs) k ∙ sym (none_there (plain_position xs (plain_len (take (suc upto) xs) + k)))
plain_get_from [] (y ∷ ys) (suc upto) k = refl
plain_get_from (plain i ∷ xs) (y ∷ ys) (suc upto) k =
    plain_get_from xs ys upto k ∙ (at_next y ys (plain_position xs (plain_len (take upto xs) + k)) ∙ ap (at_position (y ∷ ys)) (at_number (plain i ∷ xs) (suc (plain_len (take upto xs) + k)) (suc (plain_len (take upto xs)) + k) (omega arith)))
plain_get_from (changed i w ∷ xs) (y ∷ ys) (suc upto) k = plain_get_from xs ys upto k ∙ at_next y ys (plain_position xs (plain_len (take upto xs) + k))
plain_get_from (lone w ∷ xs) (y ∷ ys) (suc upto) k = plain_get_from xs ys upto k ∙ at_next y ys (plain_position xs (plain_len (take upto xs) + k))

-- an element of a part, below its place and from there on
pub part_prefix : (xs : List Item) (ys : List Tree) (upto position : ℕ) → position < upto → slice_get (take upto ys ++ plain_values xs (drop upto ys)) position ≡ slice_get ys position
part_prefix xs ys zero position h = absurd (omega (arith, h))
part_prefix xs [] (suc upto) position h = no_values xs position
part_prefix xs (y ∷ ys) (suc upto) zero h = refl
part_prefix xs (y ∷ ys) (suc upto) (suc position) h = part_prefix xs ys upto position (omega (arith, h))

part_back : (xs : List Item) (ys : List Tree) (upto position : ℕ) → upto ≤ position → slice_get (take upto ys ++ plain_values xs (drop upto ys)) position ≡ slice_get (plain_values xs (drop upto ys)) (position - upto)
part_back xs ys zero position h = let e : position ≡ position - 0 = omega arith in ap (slice_get (plain_values xs ys)) e
part_back xs [] (suc upto) position h = no_values xs position ∙ sym (no_values xs (position - suc upto))
part_back xs (y ∷ ys) (suc upto) zero h = absurd (omega (arith, h))
part_back xs (y ∷ ys) (suc upto) (suc position) h = let e : position - upto ≡ suc position - suc upto = omega arith in part_back xs ys upto position (omega (arith, h)) ∙ ap (slice_get (plain_values xs (drop upto ys))) e

pub part_found : (xs : List Item) (ys : List Tree) (upto position : ℕ) → upto ≤ position → slice_get (take upto ys ++ plain_values (drop upto xs) (drop upto ys)) position ≡ at_position ys (plain_position xs (plain_len (take upto xs) + (position - upto)))
part_found xs ys upto position h = part_back (drop upto xs) ys upto position h ∙ plain_get_from xs ys upto (position - upto)

-- how many elements a part has
values_length : (xs : List Item) (ys : List Tree) → length (plain_values xs ys) ≡ plain_len (take (length ys) xs)
values_length [] [] = refl
values_length [] (y ∷ ys) = refl
values_length (plain i ∷ xs) [] = refl
values_length (plain i ∷ xs) (y ∷ ys) = ap suc (values_length xs ys)
values_length (changed i w ∷ xs) [] = refl
values_length (changed i w ∷ xs) (y ∷ ys) = values_length xs ys
values_length (lone w ∷ xs) [] = refl
values_length (lone w ∷ xs) (y ∷ ys) = values_length xs ys

values_from : (xs : List Item) (ys : List Tree) (upto : ℕ) → upto ≤ length ys → plain_len (take upto xs) + length (plain_values (drop upto xs) (drop upto ys)) ≡ plain_len (take (length ys) xs)
values_from xs ys zero h = omega (arith, values_length xs ys)
values_from xs [] (suc upto) h = absurd (omega (arith, h))
values_from [] (y ∷ ys) (suc upto) h = refl
values_from (plain i ∷ xs) (y ∷ ys) (suc upto) h = omega (arith, values_from xs ys upto (omega (arith, h)))
values_from (changed i w ∷ xs) (y ∷ ys) (suc upto) h = values_from xs ys upto (omega (arith, h))
values_from (lone w ∷ xs) (y ∷ ys) (suc upto) h = values_from xs ys upto (omega (arith, h))

values_few : (xs : List Item) (ys : List Tree) → length (plain_values xs ys) ≤ length ys
values_few [] ys = omega arith
values_few (plain i ∷ xs) [] = omega arith
values_few (plain i ∷ xs) (y ∷ ys) = omega (arith, values_few xs ys)
values_few (changed i w ∷ xs) [] = omega arith
values_few (changed i w ∷ xs) (y ∷ ys) = omega (arith, values_few xs ys)
values_few (lone w ∷ xs) [] = omega arith
values_few (lone w ∷ xs) (y ∷ ys) = omega (arith, values_few xs ys)

no_length : (xs : List Item) → length (plain_values xs []) ≡ 0
no_length xs = omega (arith, values_few xs [])

pub part_all : (xs : List Item) (ys : List Tree) (upto : ℕ) → length ys ≤ upto → length (take upto ys ++ plain_values xs (drop upto ys)) ≡ length ys
part_all xs [] upto h = ap length (part_none xs upto) ∙ no_length xs
  where
    part_none : (zs : List Item) (n : ℕ) → take n [] ++ plain_values zs (drop n []) ≡ plain_values zs []
    part_none zs zero = refl
    part_none zs (suc n) = refl
part_all xs (y ∷ ys) zero h = absurd (omega (arith, h))
part_all xs (y ∷ ys) (suc upto) h = ap suc (part_all xs ys upto (omega (arith, h)))

-- the lengths of the parts of a part that doesn't have all
pub record PartLength (xs : List Item) (ys : List Tree) (upto : ℕ) : Type 0 where
  pub rises : plain_len (take upto xs) ≤ plain_len (take (length ys) xs)
  pub few : upto + (plain_len (take (length ys) xs) - plain_len (take upto xs)) ≤ length ys
  pub is : length (take upto ys ++ plain_values (drop upto xs) (drop upto ys)) ≡ upto + (plain_len (take (length ys) xs) - plain_len (take upto xs))

pub part_length : (xs : List Item) (ys : List Tree) (upto : ℕ) → upto ≤ length ys → PartLength xs ys upto
part_length xs ys upto h =
    let n = values_from xs ys upto h in
    let m = values_few (drop upto xs) (drop upto ys) in
    let l = length-drop upto ys in
    let t : length (take upto ys) ≡ upto = length-take-le upto ys h in
    record {
      rises = omega (arith, n);
      few = omega (arith, n, m, l, h);
      is = length-append (take upto ys) (plain_values (drop upto xs) (drop upto ys)) ∙ omega (arith, n, t);
    }
