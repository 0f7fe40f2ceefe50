-- A line more, with the number after that of the last one.
use Rattle.std.proofs.Common.{◌≡◌, ◌∙◌, ◌+◌, ℕ, suc, List, [], ◌∷◌, ◌++◌, length, map, refl, sym, ap, arith}
use Rattle.gl_lines.specs.declared.line.Line.{Line}
use Rattle.gl_lines.specs.declared.line.NumberedLine.{NumberedLine}
use Rattle.spec_plans.specs.Numbered.{numbered}
use Rattle.gl_big.specs.Lines.{said, AreNumbered}

pub said_more : (lines : List NumberedLine) (l : NumberedLine) → said (lines ++ l ∷ []) ≡ said lines ++ l.what ∷ []
said_more [] l = refl
said_more (m ∷ lines) l = ap (λ ls. m.what ∷ ls) (said_more lines l)

numbered_push : (n k : ℕ) (lines : List NumberedLine) (what : Line) → lines ≡ numbered n (said lines) → n + length lines ≡ k
    → lines ++ record { line = k; what = what } ∷ [] ≡ numbered n (said (lines ++ record { line = k; what = what } ∷ []))
numbered_push n k [] what e count =
    let same : k ≡ n = omega (arith, count) in
    ap (λ (i : ℕ). record { line = i; what = what } ∷ []) same
numbered_push n k (m ∷ lines) what e count =
    let rest : lines ≡ numbered (suc n) (said lines) = tail_of m (record { line = n; what = m.what }) lines (numbered (suc n) (said lines)) e in
    let head : m ≡ record { line = n; what = m.what } = head_of m (record { line = n; what = m.what }) lines (numbered (suc n) (said lines)) e in
    ap (λ (l : NumberedLine). l ∷ lines ++ record { line = k; what = what } ∷ []) head
    ∙ ap (λ ls. record { line = n; what = m.what } ∷ ls) (numbered_push (suc n) k lines what rest (omega (arith, count)))
  where
    tail_of : (a b : NumberedLine) (xs ys : List NumberedLine) → a ∷ xs ≡ b ∷ ys → xs ≡ ys
    tail_of a b xs ys h = cc

    head_of : (a b : NumberedLine) (xs ys : List NumberedLine) → a ∷ xs ≡ b ∷ ys → a ≡ b
    head_of a b xs ys h = cc

pub numbered_more : (lines : List NumberedLine) (l : NumberedLine) → AreNumbered lines → l.line ≡ length lines + 2
    → AreNumbered (lines ++ l ∷ [])
numbered_more lines l are number =
    numbered_push 2 l.line lines l.what are (omega (arith, number))
