-- The deltas of edits: of one element, of many at the end, and of all.
use Rattle.std.proofs.Common.{◌≡◌, ℕ, zero, suc, ◌+◌, List, [], ◌∷◌, ◌++◌, length, map, slice_set, insert, remove, pos, refl, ap, arith}
use Rattle.std.specs.Prelude.{unwrap_or, slice_get}
use Rattle.spec_value.specs.Tree.{Tree, num}
use Rattle.spec_lists.specs.Piece.{Piece, kept, updated, deleted, inserted, identity, IsNormal}
use Rattle.spec_lists.specs.Leads.{IsDelta}

-- kept pieces alone, and with one other piece among them, are in normal form
pub identity_normal : (n : ℕ) → IsNormal (identity n)
identity_normal zero = tt
identity_normal (suc n) = identity_normal n

pub around_normal : (at r : ℕ) (x : Piece) → IsNormal (identity at ++ x ∷ identity r)
around_normal zero r kept = identity_normal r
around_normal zero r (updated v w) = identity_normal r
around_normal zero r (deleted v) = identity_normal r
around_normal zero zero (inserted w) = (tt, tt)
around_normal zero (suc r) (inserted w) = (tt, identity_normal r)
around_normal (suc at) r x = around_normal at r x

pub identity_leads_by : (xs : List Tree) (n : ℕ) → length xs ≡ n → IsDelta (identity n) xs xs
identity_leads_by [] zero e = record { starts = tt; ends = refl }
identity_leads_by [] (suc n) e = absurd (omega (arith, e))
identity_leads_by (x ∷ xs) zero e = absurd (omega (arith, e))
identity_leads_by (x ∷ xs) (suc n) e =
    let h = identity_leads_by xs n (omega (arith, e)) in
    record { starts = h.starts; ends = ap (λ ys. x ∷ ys) h.ends }

-- nothing changes
pub identity_leads : (xs : List Tree) → IsDelta (identity (length xs)) xs xs
identity_leads xs = identity_leads_by xs (length xs) refl

pub insert_leads : (xs : List Tree) (at r : ℕ) (v : Tree) → length xs ≡ at + r → IsDelta (identity at ++ inserted v ∷ identity r) xs (insert xs at v)
insert_leads [] zero zero v e = record { starts = tt; ends = refl }
insert_leads [] zero (suc r) v e = absurd (omega (arith, e))
insert_leads [] (suc at) r v e = absurd (omega (arith, e))
insert_leads (x ∷ xs) zero r v e =
    let h = identity_leads_by (x ∷ xs) r (omega (arith, e)) in
    record { starts = h.starts; ends = ap (λ ys. v ∷ ys) h.ends }
insert_leads (x ∷ xs) (suc at) r v e =
    let h = insert_leads xs at r v (omega (arith, e)) in
    record { starts = h.starts; ends = ap (λ ys. x ∷ ys) h.ends }

-- the element at a place; past the end the number 0
abbrev at_position : List Tree → ℕ → Tree
at_position xs position = unwrap_or (slice_get xs position) (num (pos 0))

pub set_leads : (xs : List Tree) (at r : ℕ) (w : Tree) → length xs ≡ at + suc r → IsDelta (identity at ++ updated (at_position xs at) w ∷ identity r) xs (slice_set xs at w)
set_leads [] at r w e = absurd (omega (arith, e))
set_leads (x ∷ xs) zero r w e =
    let h = identity_leads_by xs r (omega (arith, e)) in
    record { starts = (refl, h.starts); ends = ap (λ ys. w ∷ ys) h.ends }
set_leads (x ∷ xs) (suc at) r w e =
    let h = set_leads xs at r w (omega (arith, e)) in
    record { starts = h.starts; ends = ap (λ ys. x ∷ ys) h.ends }

pub remove_leads : (xs : List Tree) (at r : ℕ) → length xs ≡ at + suc r → IsDelta (identity at ++ deleted (at_position xs at) ∷ identity r) xs (remove xs at)
remove_leads [] at r e = absurd (omega (arith, e))
remove_leads (x ∷ xs) zero r e =
    let h = identity_leads_by xs r (omega (arith, e)) in
    record { starts = (refl, h.starts); ends = h.ends }
remove_leads (x ∷ xs) (suc at) r e =
    let h = remove_leads xs at r (omega (arith, e)) in
    record { starts = h.starts; ends = ap (λ ys. x ∷ ys) h.ends }

-- an insertion at the end
pub insert_last : (xs : List Tree) (v : Tree) → xs ++ v ∷ [] ≡ insert xs (length xs) v
insert_last [] v = refl
insert_last (x ∷ xs) v = ap (λ ys. x ∷ ys) (insert_last xs v)

-- many at the end
pub all_inserted : (vs : List Tree) → IsDelta (map inserted vs) [] vs
all_inserted [] = record { starts = tt; ends = refl }
all_inserted (v ∷ vs) = let h = all_inserted vs in record { starts = h.starts; ends = ap (λ ys. v ∷ ys) h.ends }

pub append_leads : (xs vs : List Tree) → IsDelta (identity (length xs) ++ map inserted vs) xs (xs ++ vs)
append_leads [] vs = all_inserted vs
append_leads (x ∷ xs) vs = let h = append_leads xs vs in record { starts = h.starts; ends = ap (λ ys. x ∷ ys) h.ends }

pub inserted_normal : (vs : List Tree) → IsNormal (map inserted vs)
inserted_normal [] = tt
inserted_normal (v ∷ []) = (tt, tt)
inserted_normal (v ∷ w ∷ vs) = (tt, inserted_normal (w ∷ vs))

pub append_normal : (n : ℕ) (vs : List Tree) → IsNormal (identity n ++ map inserted vs)
append_normal zero vs = inserted_normal vs
append_normal (suc n) vs = append_normal n vs

-- all are deleted
pub clear_leads : (xs : List Tree) → IsDelta (map deleted xs) xs []
clear_leads [] = record { starts = tt; ends = refl }
clear_leads (x ∷ xs) = let h = clear_leads xs in record { starts = (refl, h.starts); ends = h.ends }

pub clear_normal : (xs : List Tree) → IsNormal (map deleted xs)
clear_normal [] = tt
clear_normal (x ∷ xs) = clear_normal xs
