-- Steps of the loop that gathers proxies.
use Rattle.std.proofs.Common.{◌≡◌, ℕ, suc, ◌+◌, ◌<◌, List, ◌∷◌, ◌++◌, length, get_or, drop, refl, sym, ap, ◌∙◌, arith, append_assoc}
use Rattle.std.proofs.Math.Seq.{drop-cons}
use Rattle.gl_lines.specs.declared.plan.ListDecl.{ListDecl}
use Rattle.gl_lines.specs.declared.plan.ListKind.{ListKind}
use Rattle.gl_lines.specs.declared.plan.ListKind.TheVariants.{Source, Filter, Sorted, Unique, Grouping, Range, Function, Collection, Composite, Transaction, Freezable, Proxy}
use Rattle.spec_plans.specs.Plan.{proxies_from}
use Rattle.gl_plan.specs.Proxies.{proxy_here}

first_proxy : (n : ℕ) (name : List ℕ) (k : ListKind) (ds : List ListDecl) → proxies_from n (record { name = name; kind = k } ∷ ds) ≡ proxy_here n k ++ proxies_from (suc n) ds
first_proxy n name (Source rows) ds = refl
first_proxy n name (Filter input matcher) ds = refl
first_proxy n name (Sorted input order) ds = refl
first_proxy n name (Unique input order) ds = refl
first_proxy n name (Grouping input order) ds = refl
first_proxy n name (Range input bounds) ds = refl
first_proxy n name (Function input func) ds = refl
first_proxy n name (Collection input kids) ds = refl
first_proxy n name (Composite members may) ds = refl
first_proxy n name (Transaction input) ds = refl
first_proxy n name (Freezable input) ds = refl
first_proxy n name (Proxy input) ds = refl

pub proxies_more : (ds : List ListDecl) (i : ℕ) (d : ListDecl) (found more whole : List ℕ) → i < length ds → d ≡ get_or ds i d
    → more ≡ found ++ proxy_here i d.kind
    → found ++ proxies_from i (drop i ds) ≡ whole → more ++ proxies_from (i + 1) (drop (i + 1) ds) ≡ whole
proxies_more ds i d found more whole within is added left =
    let n : suc i ≡ i + 1 = omega arith in
    ap (λ ks. ks ++ proxies_from (i + 1) (drop (i + 1) ds)) added
    ∙ append_assoc found (proxy_here i d.kind) (proxies_from (i + 1) (drop (i + 1) ds))
    ∙ ap (λ ks. found ++ ks)
    (sym (ap (proxies_from i) (drop-cons ds i d within)
    ∙ ap (λ e. proxies_from i (e ∷ drop (suc i) ds)) (sym is)
    ∙ first_proxy i d.name d.kind (drop (suc i) ds)
    ∙ ap (λ k. proxy_here i d.kind ++ proxies_from k (drop k ds)) n))
    ∙ left
