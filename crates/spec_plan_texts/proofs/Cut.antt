-- The lines of the one text of a plan.
use Rattle.std.proofs.Common.{◌≡◌, ◌∙◌, ℕ, cond, List, [], ◌∷◌, ◌++◌, map, refl, ap, codes, append_assoc, arith}
use Rattle.std.specs.Prelude.{flat_map}
use Rattle.std.specs.Str.{IsUtf8}
use Rattle.std.specs.List.{AllByRecursion}
use Rattle.std.proofs.lemmas.Str.{IsUtf8-append, IsUtf8-nil}
use Rattle.spec_syntax.proofs.Utf8.{ascii_utf8}
use Rattle.spec_syntax.specs.Cuts.{with_prefix, lines_in}
use Rattle.gl_lines.specs.declared.line.Line.{Line}
use Rattle.spec_lines.specs.Spelled.{spelled_line}
use Rattle.spec_plan_texts.specs.Canonical.{ended}
use Rattle.spec_plan_texts.proofs.Fine.{HasNoFeed, IsFine}

-- a line with its line feed comes first
pub line_first : (raw rest : List ℕ) → HasNoFeed raw → lines_in (raw ++ 10 ∷ rest) ≡ raw ∷ lines_in rest
line_first [] rest h = refl
line_first (b ∷ bs) rest h =
    ap (λ t. cond t ([] ∷ lines_in (bs ++ 10 ∷ rest)) (with_prefix b (lines_in (bs ++ 10 ∷ rest)))) h.0
    ∙ ap (with_prefix b) (line_first bs rest h.1)

abbrev pub IsFineLine : Line → Type 0
IsFineLine l = IsFine (spelled_line l)

pub text_lines : (ls : List Line) → AllByRecursion IsFineLine ls → lines_in (flat_map ended ls) ≡ map spelled_line ls
text_lines [] h = refl
text_lines (l ∷ ls) h =
    ap lines_in (append_assoc (spelled_line l) (codes "\n") (flat_map ended ls))
    ∙ line_first (spelled_line l) (flat_map ended ls) h.0.no_feed
    ∙ ap (λ raws. spelled_line l ∷ raws) (text_lines ls h.1)

pub text_utf8 : (ls : List Line) → AllByRecursion IsFineLine ls → IsUtf8 (flat_map ended ls)
text_utf8 [] h = IsUtf8-nil
text_utf8 (l ∷ ls) h =
    IsUtf8-append (ended l) (flat_map ended ls)
    (IsUtf8-append (spelled_line l) (codes "\n") h.0.utf8 (ascii_utf8 10 (omega arith))) (text_utf8 ls h.1)
