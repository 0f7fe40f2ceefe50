use Rattle.std.proofs.Common.{rules, ◌≡◌, Equal, sym, ap, ◌∙◌}
use Rattle.std.specs.Ordering.{nat_cmp}
use Rattle.std.specs.Cmp.Lexicographic.{slice_cmp}
use Rattle.std.proofs.lemmas.Map.Lookups.{exact_bytes}
use Rattle.gl_lines.specs.declared.named.Named.{Named}
use Rattle.gl_text.proofs.shared_names.SharedNames.share_name.Goals as goal

pub returns-in-Some : goal.returns-in-Some
returns-in-Some c =
    let equal : slice_cmp nat_cmp c.args.named.now.name c.in-Some.name.now ≡ Equal = c.in-Some.ensures.same_key in
    let same : c.args.named.now.name ≡ c.in-Some.name.now = exact_bytes c.args.named.now.name c.in-Some.name.now equal in
    let copy : c.in_ok-named.field-0 ≡ c.in-Some.name.now = search rules in
    let named : Named = c.args.named.now in
    ap (λ n. record { name = n; column = named.column }) (copy ∙ sym same)
