-- Reading the bytes after the first one of a character.
use Rattle.std.proofs.Common.{◌≡◌, ◌⊎◌, inl, inr, ℕ, suc, ◌+◌, ◌-◌, ◌<◌, ◌≤◌, false, cond, List, [], ◌∷◌, ◌++◌, length, drop, get_or, ap, ◌∙◌, arith, drop-cons}
use Rattle.std.proofs.lemmas.Bool.Decides.{nat_tests}
use Rattle.std.proofs.lemmas.List.{drop_all, length-drop}
use Rattle.spec_syntax.specs.Reader.{found, stopped, made, on}
use Rattle.spec_syntax.specs.Number.{between}
use Rattle.spec_syntax.specs.ValueReader.{read_continued}

-- the bytes end ahead of a range
pub continued_past : (ranges : List (ℕ × ℕ)) (bytes char : List ℕ) (offset : ℕ) → offset < length ranges → length bytes ≤ offset → read_continued ranges bytes ≡ made (λ more. char ++ more) (read_continued (drop offset ranges) (drop offset bytes)) → read_continued ranges bytes ≡ stopped 0
continued_past ranges bytes char offset within ends whole =
    let there : drop offset ranges ≡ get_or ranges offset (0, 0) ∷ drop (suc offset) ranges = drop-cons ranges offset (0, 0) within in
    whole ∙ ap (λ x. made (λ more. char ++ more) (read_continued (drop offset ranges) x)) (drop_all offset bytes ends)
    ∙ ap (λ x. made (λ more. char ++ more) (read_continued x [])) there

out_of : (low high b : ℕ) → (b < low) ⊎ (high < b) → between low high b ≡ false
out_of low high b h = elim h as (λ _. between low high b ≡ false) [ inl l ↦ grind (arith, nat_tests) | inr l ↦ grind (arith, nat_tests) ]

stops_at : (range : ℕ × ℕ) (ranges : List (ℕ × ℕ)) (char : List ℕ) (b : ℕ) (rest : List ℕ) → between range.0 range.1 b ≡ false → made (λ more. char ++ more) (read_continued (range ∷ ranges) (b ∷ rest)) ≡ stopped (length rest + 1)
stops_at range ranges char b rest e =
    ap (λ x. made (λ more. char ++ more) (made {A = ℕ × List ℕ} (λ c. c.0 ∷ c.1) (on (cond x (found b rest) (stopped (length rest + 1))) (λ a left. made (λ c. (a, c)) (read_continued ranges left))))) e

-- a byte is out of its range
pub continued_out : (ranges : List (ℕ × ℕ)) (bytes char : List ℕ) (offset b : ℕ) (range : ℕ × ℕ) → offset < length ranges → offset < length bytes → get_or ranges offset (0, 0) ≡ range → get_or bytes offset 0 ≡ b → (b < range.0) ⊎ (range.1 < b) → read_continued ranges bytes ≡ made (λ more. char ++ more) (read_continued (drop offset ranges) (drop offset bytes)) → read_continued ranges bytes ≡ stopped (length bytes - offset)
continued_out ranges bytes char offset b range within inside is this out whole =
    let ranged : drop offset ranges ≡ range ∷ drop (suc offset) ranges = drop-cons ranges offset (0, 0) within ∙ ap (λ r. r ∷ drop (suc offset) ranges) is in
    let there : drop offset bytes ≡ b ∷ drop (suc offset) bytes = drop-cons bytes offset 0 inside ∙ ap (λ r. r ∷ drop (suc offset) bytes) this in
    let left : length (drop (suc offset) bytes) + 1 ≡ length bytes - offset = omega (arith, length-drop (suc offset) bytes) in
    whole ∙ ap (λ x. made (λ more. char ++ more) (read_continued x (drop offset bytes))) ranged
    ∙ ap (λ x. made (λ more. char ++ more) (read_continued (range ∷ drop (suc offset) ranges) x)) there
    ∙ stops_at range (drop (suc offset) ranges) char b (drop (suc offset) bytes) (out_of range.0 range.1 b out)
    ∙ ap stopped left
