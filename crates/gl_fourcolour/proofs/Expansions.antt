-- Lemmas on runs and the colours that they stand for.
use Rattle.std.proofs.Common.{◌≡◌, ℕ, ◌+◌, ◌-◌, ◌≤◌, List, [], ◌∷◌, ◌++◌, length, take, drop, replicate, refl, sym, ap, ◌∙◌, arith, append_assoc, length-append}
use Rattle.std.proofs.Math.Seq.{take-append_seam, drop-append_seam}
use Rattle.std.proofs.lemmas.List.{length-replicate, replicate-append-replicate}
use Rattle.gl_fourcolour.specs.Colours.{inserted, removed}
use Rattle.gl_fourcolour.specs.Rows.{expanded}
use Rattle.gl_fourcolour.specs.declared.run.Run.{Run}

-- edits of a list that is given in parts
pub inserted_at : (xs ys : List ℕ) (at colour n : ℕ) → at ≡ length xs → inserted (xs ++ ys) at colour n ≡ xs ++ (replicate n colour ++ ys)
unfolding inserted
inserted_at xs ys at colour n is = rw (is, take-append_seam xs ys, drop-append_seam xs ys)

pub drop_parts : (xs ms ys : List ℕ) (at n : ℕ) → at ≡ length xs → n ≡ length ms → drop (at + n) (xs ++ (ms ++ ys)) ≡ ys
drop_parts xs ms ys at n at_is n_is =
    let len_is : at + n ≡ length (xs ++ ms) = omega (arith, at_is, n_is, length-append xs ms) in
    ap (λ k. drop k (xs ++ (ms ++ ys))) len_is ∙ (ap (λ zs. drop (length (xs ++ ms)) zs) (sym (append_assoc xs ms ys)) ∙ drop-append_seam (xs ++ ms) ys)

pub removed_at : (xs ms ys : List ℕ) (at n : ℕ) → at ≡ length xs → n ≡ length ms → removed (xs ++ (ms ++ ys)) at n ≡ xs ++ ys
unfolding removed
removed_at xs ms ys at n at_is n_is =
    ap (λ zs. take at (xs ++ (ms ++ ys)) ++ zs) (drop_parts xs ms ys at n at_is n_is) ∙ (ap (λ k. take k (xs ++ (ms ++ ys)) ++ ys) at_is ∙ ap (λ zs. zs ++ ys) (take-append_seam xs (ms ++ ys)))

pub rep_add : (m n c : ℕ) → replicate (m + n) c ≡ replicate m c ++ replicate n c
rep_add m n c = sym (replicate-append-replicate m n c)

-- runs side by side
pub expanded-append : (xs ys : List Run) → expanded (xs ++ ys) ≡ expanded xs ++ expanded ys
unfolding expanded
expanded-append [] ys = refl
expanded-append (r ∷ xs) ys =
    ap (λ zs. replicate r.len r.colour ++ zs) (expanded-append xs ys) ∙ sym (append_assoc (replicate r.len r.colour) (expanded xs) (expanded ys))

pub expanded-cons : (r : Run) (rs : List Run) → expanded (r ∷ rs) ≡ replicate r.len r.colour ++ expanded rs
unfolding expanded
expanded-cons r rs = refl

pub length-expanded-cons : (r : Run) (rs : List Run) → length (expanded (r ∷ rs)) ≡ r.len + length (expanded rs)
length-expanded-cons r rs = omega (arith, ap length (expanded-cons r rs), length-append (replicate r.len r.colour) (expanded rs), length-replicate r.len r.colour)

pub length-expanded-append : (xs ys : List Run) → length (expanded (xs ++ ys)) ≡ length (expanded xs) + length (expanded ys)
length-expanded-append xs ys = omega (arith, ap length (expanded-append xs ys), length-append (expanded xs) (expanded ys))

-- a run in the middle, cut after some of its places
pub expanded_cut : (prefix rest : List Run) (c l o : ℕ) → o ≤ l → expanded (prefix ++ record { colour = c; len = l } ∷ rest) ≡ (expanded prefix ++ replicate o c) ++ (replicate (l - o) c ++ expanded rest)
expanded_cut prefix rest c l o within =
    let whole : l ≡ o + (l - o) = omega (arith, within) in
    let run : replicate l c ≡ replicate o c ++ replicate (l - o) c = ap (λ k. replicate k c) whole ∙ rep_add o (l - o) c in
    expanded-append prefix (record { colour = c; len = l } ∷ rest) ∙ (ap (λ zs. expanded prefix ++ zs) (expanded-cons (record { colour = c; len = l }) rest ∙ (ap (λ zs. zs ++ expanded rest) run ∙ append_assoc (replicate o c) (replicate (l - o) c) (expanded rest))) ∙ sym (append_assoc (expanded prefix) (replicate o c) (replicate (l - o) c ++ expanded rest)))

pub length-prefix : (prefix : List Run) (c o : ℕ) → length (expanded prefix ++ replicate o c) ≡ length (expanded prefix) + o
length-prefix prefix c o = omega (arith, length-append (expanded prefix) (replicate o c), length-replicate o c)

-- a longer run
pub grow_colours : (prefix rest : List Run) (c l o n at : ℕ) → o ≤ l → at ≡ length (expanded prefix) + o → expanded (prefix ++ record { colour = c; len = l + n } ∷ rest) ≡ inserted (expanded (prefix ++ record { colour = c; len = l } ∷ rest)) at c n
grow_colours prefix rest c l o n at within at_is =
    let split = ap (λ zs. inserted zs at c n) (expanded_cut prefix rest c l o within) in
    let put = inserted_at (expanded prefix ++ replicate o c) (replicate (l - o) c ++ expanded rest) at c n (omega (arith, at_is, length-prefix prefix c o)) in
    let whole = expanded_cut prefix rest c (l + n) o (omega (arith, within)) in
    let left : l + n - o ≡ n + (l - o) = omega (arith, within) in
    let middle : replicate (l + n - o) c ≡ replicate n c ++ replicate (l - o) c = ap (λ k. replicate k c) left ∙ rep_add n (l - o) c in
    whole ∙ (ap (λ zs. (expanded prefix ++ replicate o c) ++ zs) (ap (λ zs. zs ++ expanded rest) middle ∙ append_assoc (replicate n c) (replicate (l - o) c) (expanded rest)) ∙ sym (split ∙ put))

-- a run in the middle of another
pub split_colours : (prefix rest : List Run) (c l o d n at : ℕ) → o ≤ l → at ≡ length (expanded prefix) + o → expanded (prefix ++ record { colour = c; len = o } ∷ record { colour = d; len = n } ∷ record { colour = c; len = l - o } ∷ rest) ≡ inserted (expanded (prefix ++ record { colour = c; len = l } ∷ rest)) at d n
split_colours prefix rest c l o d n at within at_is =
    let split = ap (λ zs. inserted zs at d n) (expanded_cut prefix rest c l o within) in
    let put = inserted_at (expanded prefix ++ replicate o c) (replicate (l - o) c ++ expanded rest) at d n (omega (arith, at_is, length-prefix prefix c o)) in
    let third = expanded-cons (record { colour = c; len = l - o }) rest in
    let second = expanded-cons (record { colour = d; len = n }) (record { colour = c; len = l - o } ∷ rest) ∙ ap (λ zs. replicate n d ++ zs) third in
    let first = expanded-cons (record { colour = c; len = o }) (record { colour = d; len = n } ∷ record { colour = c; len = l - o } ∷ rest) ∙ ap (λ zs. replicate o c ++ zs) second in
    let whole = expanded-append prefix (record { colour = c; len = o } ∷ record { colour = d; len = n } ∷ record { colour = c; len = l - o } ∷ rest) ∙ ap (λ zs. expanded prefix ++ zs) first in
    whole ∙ (sym (append_assoc (expanded prefix) (replicate o c) (replicate n d ++ (replicate (l - o) c ++ expanded rest))) ∙ sym (split ∙ put))

-- a run between two others
pub new_colours : (prefix back : List Run) (d n at : ℕ) → at ≡ length (expanded prefix) → expanded (prefix ++ record { colour = d; len = n } ∷ back) ≡ inserted (expanded (prefix ++ back)) at d n
new_colours prefix back d n at at_is =
    expanded-append prefix (record { colour = d; len = n } ∷ back) ∙ (ap (λ zs. expanded prefix ++ zs) (expanded-cons (record { colour = d; len = n }) back) ∙ sym (ap (λ zs. inserted zs at d n) (expanded-append prefix back) ∙ inserted_at (expanded prefix) (expanded back) at d n at_is))

-- a shorter run
pub cut_colours : (prefix rest : List Run) (c l o t at : ℕ) → o + t ≤ l → at ≡ length (expanded prefix) + o → expanded (prefix ++ record { colour = c; len = l - t } ∷ rest) ≡ removed (expanded (prefix ++ record { colour = c; len = l } ∷ rest)) at t
cut_colours prefix rest c l o t at within at_is =
    let left : l - o ≡ t + (l - t - o) = omega (arith, within) in
    let run : replicate (l - o) c ≡ replicate t c ++ replicate (l - t - o) c = ap (λ k. replicate k c) left ∙ rep_add t (l - t - o) c in
    let back : replicate (l - o) c ++ expanded rest ≡ replicate t c ++ (replicate (l - t - o) c ++ expanded rest) = ap (λ zs. zs ++ expanded rest) run ∙ append_assoc (replicate t c) (replicate (l - t - o) c) (expanded rest) in
    let split = expanded_cut prefix rest c l o (omega (arith, within)) ∙ ap (λ zs. (expanded prefix ++ replicate o c) ++ zs) back in
    let out = removed_at (expanded prefix ++ replicate o c) (replicate t c) (replicate (l - t - o) c ++ expanded rest) at t (omega (arith, at_is, length-prefix prefix c o)) (sym (length-replicate t c)) in
    expanded_cut prefix rest c (l - t) o (omega (arith, within)) ∙ sym (ap (λ zs. removed zs at t) split ∙ out)

-- without a whole run
pub whole_colours : (prefix rest : List Run) (r : Run) (at : ℕ) → at ≡ length (expanded prefix) → expanded prefix ++ expanded rest ≡ removed (expanded (prefix ++ r ∷ rest)) at r.len
whole_colours prefix rest r at at_is =
    sym (ap (λ zs. removed zs at r.len) (expanded-append prefix (r ∷ rest) ∙ ap (λ zs. expanded prefix ++ zs) (expanded-cons r rest)) ∙ removed_at (expanded prefix) (replicate r.len r.colour) (expanded rest) at r.len at_is (sym (length-replicate r.len r.colour)))

-- two neighbours as one
pub joined_colours : (prefix rest : List Run) (l r : Run) → l.colour ≡ r.colour → expanded (prefix ++ record { colour = l.colour; len = l.len + r.len } ∷ rest) ≡ expanded (prefix ++ l ∷ r ∷ rest)
joined_colours prefix rest l r same =
    let run : replicate (l.len + r.len) l.colour ++ expanded rest ≡ replicate l.len l.colour ++ (replicate r.len r.colour ++ expanded rest) =
    ap (λ zs. zs ++ expanded rest) (rep_add l.len r.len l.colour) ∙ (append_assoc (replicate l.len l.colour) (replicate r.len l.colour) (expanded rest) ∙ ap (λ c. replicate l.len l.colour ++ (replicate r.len c ++ expanded rest)) same) in
    let apart : expanded (l ∷ r ∷ rest) ≡ replicate l.len l.colour ++ (replicate r.len r.colour ++ expanded rest) = expanded-cons l (r ∷ rest) ∙ ap (λ zs. replicate l.len l.colour ++ zs) (expanded-cons r rest) in
    expanded-append prefix (record { colour = l.colour; len = l.len + r.len } ∷ rest) ∙ (ap (λ zs. expanded prefix ++ zs) (expanded-cons (record { colour = l.colour; len = l.len + r.len }) rest ∙ (run ∙ sym apart)) ∙ sym (expanded-append prefix (l ∷ r ∷ rest)))

pub nothing : length (expanded []) ≡ 0
unfolding expanded
nothing = refl

pub expanded_none : expanded [] ≡ []
unfolding expanded
expanded_none = refl
