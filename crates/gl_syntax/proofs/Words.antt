-- Reading a word sign by sign.
use Rattle.std.proofs.Common.{◌≡◌, ℕ, suc, ◌<◌, ◌≤◌, List, [], ◌∷◌, length, drop, get_or, sym, ap, ◌∙◌, arith, drop-cons}
use Rattle.spec_syntax.specs.Reader.{stopped, read_word}

past : (c : ℕ) (w rest : List ℕ) → length rest ≤ 0 → read_word (c ∷ w) rest ≡ stopped 0
past c w [] h = cc
past c w (b ∷ rest) h = absurd (omega arith)

-- the bytes end ahead of a sign
pub word_past : (word bytes rest : List ℕ) (offset : ℕ) → offset < length word → length rest ≤ 0 → read_word (drop offset word) rest ≡ read_word word bytes → read_word word bytes ≡ stopped 0
word_past word bytes rest offset within ends whole =
    sym whole ∙ ap (λ w. read_word w rest) (drop-cons word offset 0 within) ∙ past (get_or word offset 0) (drop (suc offset) word) rest ends
