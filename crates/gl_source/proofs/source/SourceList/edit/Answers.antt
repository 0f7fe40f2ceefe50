use Rattle.std.proofs.Common.{◌≡◌, ◌∙◌, ◌≤◌, List, length, ap, sym, subst, arith}
use Rattle.spec_value.specs.Tree.{Tree}
use Rattle.spec_lists.specs.Piece.{Piece, new_len}
use Rattle.spec_lists.specs.Leads.{LeadsFrom, applied}
use Rattle.gl_source.specs.Kept.{Kept}
use Rattle.gl_source.specs.Edits.{edited, told, IsOutside}
use Rattle.gl_source.proofs.Leads.{edit_leads, told_len}
use Rattle.gl_source.proofs.source.SourceList.edit.Goals as goal

pub apply-requires-clause-leads : goal.apply-requires-clause-leads
apply-requires-clause-leads c =
    let e = c.args.e in
    let xs = c.args.self.now.values in
    let d_is : c.in_ok-d.d.pieces ≡ told e xs = c.in_ok-d.ensures ∙ ap (λ (k : Kept). told e k.values) c.self.view_is in
    let Inside : List Tree → Type 0 = λ ys. ¬ IsOutside e ys in
    let inside : ¬ IsOutside e xs = subst Inside (ap (λ (k : Kept). k.values) c.self.view_is) c.in_default.ensures.0 in
    let From : List Piece → Type 0 = λ ps. LeadsFrom ps xs in
    subst From (sym d_is) (edit_leads e xs inside).starts

pub apply-requires-clause-within : goal.apply-requires-clause-within
apply-requires-clause-within c =
    let e = c.args.e in
    let xs = c.args.self.now.values in
    let d_is : c.in_ok-d.d.pieces ≡ told e xs = c.in_ok-d.ensures ∙ ap (λ (k : Kept). told e k.values) c.self.view_is in
    let Inside : List Tree → Type 0 = λ ys. ¬ IsOutside e ys in
    let inside : ¬ IsOutside e xs = subst Inside (ap (λ (k : Kept). k.values) c.self.view_is) c.in_default.ensures.0 in
    let short : length (edited e xs) ≤ c.args.self.now.limit =
    omega (arith, c.in_default.ensures.1, ap (λ (k : Kept). length (edited e k.values)) c.self.view_is, ap (λ (k : Kept). k.limit) c.self.view_is) in
    omega (arith, ap new_len d_is, told_len e xs inside, short)

pub returns-clause-values : goal.returns-clause-values
returns-clause-values c =
    let e = c.args.e in
    let xs = c.args.self.now.values in
    let d_is : c.in_ok-d.d.pieces ≡ told e xs = c.in_ok-d.ensures ∙ ap (λ (k : Kept). told e k.values) c.self.view_is in
    let Inside : List Tree → Type 0 = λ ys. ¬ IsOutside e ys in
    let inside : ¬ IsOutside e xs = subst Inside (ap (λ (k : Kept). k.values) c.self.view_is) c.in_default.ensures.0 in
    c.in_ok-undo.ensures.values ∙ (ap (λ ps. applied ps xs) d_is ∙ sym (edit_leads e xs inside).ends)

pub returns-clause-leads : goal.returns-clause-leads
returns-clause-leads c =
    let e = c.args.e in
    let xs = c.args.self.now.values in
    let d_is : c.in_ok-d.d.pieces ≡ told e xs = c.in_ok-d.ensures ∙ ap (λ (k : Kept). told e k.values) c.self.view_is in
    let Inside : List Tree → Type 0 = λ ys. ¬ IsOutside e ys in
    let inside : ¬ IsOutside e xs = subst Inside (ap (λ (k : Kept). k.values) c.self.view_is) c.in_default.ensures.0 in
    let From : List Piece → Type 0 = λ ps. LeadsFrom ps xs in
    record { starts = subst From (sym d_is) (edit_leads e xs inside).starts; ends = c.in_ok-undo.ensures.values }
