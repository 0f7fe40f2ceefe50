-- Writing the lines of lists with their lengths one after another.
use Rattle.std.proofs.Common.{◌≡◌, ◌∙◌, ℕ, zero, suc, ◌+◌, ◌<◌, ◌++◌, List, [], ◌∷◌, length, get_or, drop, sym, ap, arith, append_assoc}
use Rattle.gl_lines.specs.declared.plan.ListDecl.{ListDecl}
use Rattle.spec_reports.specs.Shown.{Table, shows_in}
use Rattle.spec_reports.specs.Summary.{length_lines}
use Rattle.gl_report.specs.Counts.{length_line}

length_step : (lists : List ListDecl) (shown : Table) (k : ℕ) (d : ListDecl) → k < length lists → length lists ≡ length shown
    → d ≡ get_or lists k d
    → length_lines (drop k lists) (drop k shown)
    ≡ length_line d.name (length (shows_in shown k)) ++ length_lines (drop (suc k) lists) (drop (suc k) shown)
length_step [] shown k d within same is = absurd (omega (arith, within))
length_step (e ∷ lists) [] k d within same is = absurd (omega (arith, same))
length_step (e ∷ lists) (values ∷ shown) zero d within same is =
    ap (λ (x : ListDecl). length_line x.name (length values) ++ length_lines lists shown) (sym is)
length_step (e ∷ lists) (values ∷ shown) (suc k) d within same is =
    length_step lists shown k d (omega (arith, within)) (omega (arith, same)) is

-- the line of one list more is written, of those from a place on
pub length_more : (out before : List ℕ) (lists : List ListDecl) (shown : Table) (k : ℕ) (d : ListDecl)
    → k < length lists → length lists ≡ length shown → d ≡ get_or lists k d
    → out ++ length_lines (drop k lists) (drop k shown) ≡ before
    → (out ++ length_line d.name (length (shows_in shown k))) ++ length_lines (drop (k + 1) lists) (drop (k + 1) shown) ≡ before
length_more out before lists shown k d within same is whole =
    let e : k + 1 ≡ suc k = omega arith in
    let next : length_lines (drop k lists) (drop k shown)
    ≡ length_line d.name (length (shows_in shown k)) ++ length_lines (drop (k + 1) lists) (drop (k + 1) shown) =
    rw e (length_step lists shown k d within same is) in
    append_assoc out (length_line d.name (length (shows_in shown k))) (length_lines (drop (k + 1) lists) (drop (k + 1) shown))
    ∙ ap (λ l. out ++ l) (sym next) ∙ whole
