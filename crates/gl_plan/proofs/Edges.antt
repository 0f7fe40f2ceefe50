-- Steps of the loops that gather dependencies.
use Rattle.std.proofs.Common.{◌≡◌, ℕ, suc, ◌+◌, ◌<◌, List, ◌++◌, length, map, get_or, drop, sym, ap, ◌∙◌, arith, append_assoc}
use Rattle.std.proofs.Math.Seq.{drop-cons}
use Rattle.gl_lines.specs.declared.plan.ListDecl.{ListDecl}
use Rattle.gl_lines.specs.declared.plan.ListenerDecl.{ListenerDecl}
use Rattle.spec_plans.specs.Plan.{inputs_of, edges_from}

-- the edges of one item, and then those of the others
first_edges : {X : Type 0} (f : X → List ℕ) (xs : List X) (i : ℕ) (x : X) → i < length xs → x ≡ get_or xs i x
    → edges_from i (map f (drop i xs)) ≡ map (λ b. (i, b)) (f x) ++ edges_from (i + 1) (map f (drop (i + 1) xs))
first_edges f xs i x within is =
    let n : i + 1 ≡ suc i = omega arith in
    ap (λ ys. edges_from i (map f ys)) (drop-cons xs i x within)
    ∙ ap (λ y. map (λ b. (i, b)) (f y) ++ edges_from (suc i) (map f (drop (suc i) xs))) (sym is)
    ∙ ap (λ k. map (λ b. (i, b)) (f x) ++ edges_from k (map f (drop k xs))) (sym n)

-- what is left, after what there is, stays the whole
edges_more : {X : Type 0} (f : X → List ℕ) (xs : List X) (i : ℕ) (x : X) (edges more whole : List (ℕ × ℕ)) → i < length xs → x ≡ get_or xs i x
    → more ≡ edges ++ map (λ b. (i, b)) (f x)
    → edges ++ edges_from i (map f (drop i xs)) ≡ whole → more ++ edges_from (i + 1) (map f (drop (i + 1) xs)) ≡ whole
edges_more f xs i x edges more whole within is added left =
    ap (λ es. es ++ edges_from (i + 1) (map f (drop (i + 1) xs))) added
    ∙ append_assoc edges (map (λ b. (i, b)) (f x)) (edges_from (i + 1) (map f (drop (i + 1) xs)))
    ∙ ap (λ es. edges ++ es) (sym (first_edges f xs i x within is))
    ∙ left

pub lists_more : (xs : List ListDecl) (i : ℕ) (x : ListDecl) (edges more whole : List (ℕ × ℕ)) → i < length xs → x ≡ get_or xs i x
    → more ≡ edges ++ map (λ b. (i, b)) (inputs_of x.kind)
    → edges ++ edges_from i (map (λ d. inputs_of d.kind) (drop i xs)) ≡ whole → more ++ edges_from (i + 1) (map (λ d. inputs_of d.kind) (drop (i + 1) xs)) ≡ whole
lists_more = edges_more (λ (d : ListDecl). inputs_of d.kind)

pub listeners_more : (xs : List ListenerDecl) (i : ℕ) (x : ListenerDecl) (edges more whole : List (ℕ × ℕ)) → i < length xs → x ≡ get_or xs i x
    → more ≡ edges ++ map (λ b. (i, b)) x.after
    → edges ++ edges_from i (map (λ d. d.after) (drop i xs)) ≡ whole → more ++ edges_from (i + 1) (map (λ d. d.after) (drop (i + 1) xs)) ≡ whole
listeners_more = edges_more (λ (d : ListenerDecl). d.after)
