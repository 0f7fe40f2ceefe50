-- The members of a composite and the lists that may become members, one after another.
use Rattle.std.proofs.Common.{◌≡◌, ℕ, zero, suc, ◌+◌, ◌-◌, ◌≤◌, true, false, cond, List, [], ◌∷◌, ◌++◌, length, refl, sym, ap, ◌∙◌, arith, append_assoc, append-nil, codes}
use Rattle.spec_syntax.specs.Reader.{Step, found, stopped, first_is, made, on, seq, read_word, after_word, nearer}
use Rattle.spec_syntax.proofs.Joints.{after_on, later_stops}
use Rattle.spec_syntax.specs.Name.{read_name}
use Rattle.spec_syntax.specs.ValueReader.{is}
use Rattle.spec_lines.specs.Line.{at, in_row, past, composite_line}
use Rattle.spec_lines.specs.Reader.{read_names, read_may, member_or_may, read_composite, read_composite_part}
use Rattle.gl_lines.specs.declared.named.Named.{Named}
use Rattle.gl_lines.specs.declared.line.Line.TheVariants as line
use Rattle.gl_line_reader.specs.Named.{read_named}
use Rattle.gl_line_reader.specs.Members.{put_before, read_members, may_or, member_or, read_part, after_part}
use Rattle.gl_line_reader.specs.declared.composite.Part.TheVariants.{Member, May}
use Rattle.gl_line_reader.proofs.Columns.{made_after, after_length}
use Rattle.gl_line_reader.proofs.Names.{first_some}

members_are : (members : List Named) (column most : ℕ) (bs : List ℕ) → length bs ≤ most → first_is (is 32) bs ≡ true → read_members members column most bs ≡ on (read_part column bs) (after_part members column (most - 1))
members_are members column zero bs l h = absurd (omega (arith, l, first_some (is 32) bs h))
members_are members column (suc m) bs l h =
    ap (λ x. made (put_before members column) (cond x (member_or_may (after_word (codes " ") read_name bs) (read_may bs) (read_composite m)) (found ([], []) bs))) h
    ∙ by_part (after_word (codes " ") read_name bs) (read_may bs)
    ∙ ap (λ st. on (member_or st (λ left. may_or left column bs)) (after_part members column m)) (sym (made_after (at (column + 1)) (codes " ") read_name bs))
    ∙ ap (λ n. on (read_part column bs) (after_part members column n)) (let e : m ≡ suc m - 1 = omega arith in e)
  where
    by_others : (a : List ℕ) (st : Step (List (List ℕ) × List (List ℕ))) → made (put_before members column) (made {A = List (List ℕ) × List (List ℕ)} (λ ab. (a ∷ ab.0, ab.1)) st) ≡ made (put_before (members ++ at (column + 1) a ∷ []) (column + 1 + length a)) st
    by_others a (found parts rest) = ap (λ l. found (l, in_row (past (column + 1 + length a) parts.0 + 5) parts.1) rest) (sym (append_assoc members (at (column + 1) a ∷ []) (in_row (column + 1 + length a + 1) parts.0)))
    by_others a (stopped left) = refl

    by_part : (member : Step (List ℕ)) (may : Step (List (List ℕ))) → made (put_before members column) (member_or_may member may (read_composite m)) ≡ on (member_or (made (at (column + 1)) member) (λ left. made May (nearer (made (in_row (column + 5)) may) (stopped left)))) (after_part members column m)
    by_part (found a rest) may = by_others a (read_composite m rest)
    by_part (stopped left) (found lists rest) = ap (λ l. found (l, in_row (column + 5) lists) rest) (append-nil members)
    by_part (stopped left) (stopped least) = refl

pub members_on : (members : List Named) (column most : ℕ) (bs : List ℕ) (n : Named) (rest : List ℕ) → length bs ≤ most → first_is (is 32) bs ≡ true → read_part column bs ≡ found (Member n) rest → read_members members column most bs ≡ read_members (members ++ n ∷ []) (column + 1 + length n.name) (most - 1) rest
members_on members column most bs n rest l h g = members_are members column most bs l h ∙ ap (λ st. on st (after_part members column (most - 1))) g

pub members_may : (members : List Named) (column most : ℕ) (bs : List ℕ) (lists : List Named) (rest : List ℕ) → length bs ≤ most → first_is (is 32) bs ≡ true → read_part column bs ≡ found (May lists) rest → read_members members column most bs ≡ found (members, lists) rest
members_may members column most bs lists rest l h g = members_are members column most bs l h ∙ ap (λ st. on st (after_part members column (most - 1))) g

pub members_stop : (members : List Named) (column most : ℕ) (bs : List ℕ) (left : ℕ) → length bs ≤ most → first_is (is 32) bs ≡ true → read_part column bs ≡ stopped left → read_members members column most bs ≡ stopped left
members_stop members column most bs left l h g = members_are members column most bs l h ∙ ap (λ st. on st (after_part members column (most - 1))) g

pub members_end : (members : List Named) (column most : ℕ) (bs : List ℕ) → first_is (is 32) bs ≡ false → read_members members column most bs ≡ found (members, []) bs
members_end members column zero bs h = ap (λ l. found (l, []) bs) (append-nil members)
members_end members column (suc m) bs h =
    ap (λ x. made (put_before members column) (cond x (member_or_may (after_word (codes " ") read_name bs) (read_may bs) (read_composite m)) (found ([], []) bs))) h
    ∙ ap (λ l. found (l, []) bs) (append-nil members)

pub part_length : (column : ℕ) (bs : List ℕ) (n : Named) (rest : List ℕ) → read_part column bs ≡ found (Member n) rest → length bs ≡ 1 + length n.name + length rest
part_length column bs n rest h = by_member (after_word (codes " ") (read_named (column + 1)) bs) refl h
  where
    none : (st : Step (List Named)) → made May st ≡ found (Member n) rest → length bs ≡ 1 + length n.name + length rest
    none (found lists r) g = cc
    none (stopped left) g = cc

    by_member : (st : Step Named) → after_word (codes " ") (read_named (column + 1)) bs ≡ st → member_or st (λ left. may_or left column bs) ≡ found (Member n) rest → length bs ≡ 1 + length n.name + length rest
    by_member (found m r) k g = let e : found m r ≡ found n rest = cc in after_length (codes " ") bs rest (column + 1) n (k ∙ e)
    by_member (stopped left) k g = none (nearer (made (in_row (column + 5)) (read_may bs)) (stopped left)) g

-- the lists after ` may `
pub may_on : (column : ℕ) (bs rest : List ℕ) → read_word (codes " may ") bs ≡ found tt rest → made (in_row column) (read_may bs) ≡ made (in_row column) (read_names 32 (codes " ") rest)
may_on column bs rest h = ap (made (in_row column)) (after_on (codes " may ") (read_names 32 (codes " ")) bs rest h)

pub may_stops : (column : ℕ) (bs : List ℕ) (left : ℕ) → read_word (codes " may ") bs ≡ stopped left → made (in_row column) (read_may bs) ≡ stopped left
may_stops column bs left h = ap (made (in_row column)) (later_stops (codes " may ") (read_names 32 (codes " ")) bs left h)

-- a composite
composite_is : (column : ℕ) (bs : List ℕ) → made (composite_line column) (seq read_name read_composite_part bs) ≡ on (read_named column bs) (λ n rest. made (λ parts. line.Composite n parts.0 parts.1) (read_members [] (column + length n.name) (length rest) rest))
composite_is column bs = by_name (read_name bs)
  where
    by_parts : (a : List ℕ) (st : Step (List (List ℕ) × List (List ℕ))) → made (composite_line column) (made {A = List (List ℕ) × List (List ℕ)} (λ b. (a, b)) st) ≡ made {A = List Named × List Named} (λ parts. line.Composite (at column a) parts.0 parts.1) (made (put_before [] (column + length a)) st)
    by_parts a (found parts rest) = refl
    by_parts a (stopped left) = refl

    by_name : (st : Step (List ℕ)) → made (composite_line column) (on st (λ a rest. made (λ b. (a, b)) (read_composite_part rest))) ≡ on (made (at column) st) (λ n rest. made (λ parts. line.Composite n parts.0 parts.1) (read_members [] (column + length n.name) (length rest) rest))
    by_name (found a rest) = by_parts a (read_composite_part rest)
    by_name (stopped left) = refl

pub composite_found : (column : ℕ) (bs r1 rest : List ℕ) (n : Named) (members may : List Named) → read_named column bs ≡ found n r1 → read_members [] (column + length n.name) (length r1) r1 ≡ found (members, may) rest → made (composite_line column) (seq read_name read_composite_part bs) ≡ found (line.Composite n members may) rest
composite_found column bs r1 rest n members may h g =
    composite_is column bs ∙ ap (λ st. on st (λ n rest. made (λ parts. line.Composite n parts.0 parts.1) (read_members [] (column + length n.name) (length rest) rest))) h
    ∙ ap (made (λ parts. line.Composite n parts.0 parts.1)) g

pub composite_stops : (column : ℕ) (bs : List ℕ) (left : ℕ) → read_named column bs ≡ stopped left → made (composite_line column) (seq read_name read_composite_part bs) ≡ stopped left
composite_stops column bs left h = composite_is column bs ∙ ap (λ st. on st (λ n rest. made (λ parts. line.Composite n parts.0 parts.1) (read_members [] (column + length n.name) (length rest) rest))) h

pub composite_ends : (column : ℕ) (bs r1 : List ℕ) (n : Named) (left : ℕ) → read_named column bs ≡ found n r1 → read_members [] (column + length n.name) (length r1) r1 ≡ stopped left → made (composite_line column) (seq read_name read_composite_part bs) ≡ stopped left
composite_ends column bs r1 n left h g =
    composite_is column bs ∙ ap (λ st. on st (λ n rest. made (λ parts. line.Composite n parts.0 parts.1) (read_members [] (column + length n.name) (length rest) rest))) h
    ∙ ap (made (λ parts. line.Composite n parts.0 parts.1)) g
