use Rattle.std.proofs.Common.{◌≡◌, ℕ, ◌+◌, ◌<◌, length, get_or, set, take, not, Option, Some, None, List, [], ◌∷◌, ◌++◌, sym, ap, ◌∙◌, subst, arith, rules}
use Rattle.gl_publisher.specs.Distances.{distance_of, EndsWith, Finds}
use Rattle.gl_publisher.proofs.Finds.{finds_pair, finds_new, finds_known, none_read, some_read}
use Rattle.gl_publisher.proofs.distances.find.Goals as goal
use Rattle.gl_publisher.proofs.distances.find.Goals.{then-is_none+in_ok-push, else-is_none}

pub loop-number-preserved : goal.loop-number-preserved
loop-number-preserved c =
    let xs = c.args.pairs.now in
    let i = c.loop-number.number-index in
    let a = (get_or xs i (0, 0)).1 in
    let mid = c.loop-number.distances in
    let a_in : a < length mid.items = omega (arith, mid.ok.0, c.args.distances.now.ok.0, c.loop-number.invariant.size, c.requires i (0, 0) c.loop-number-test.true) in
    elim c.if-is_none.branch [
      | then-is_none+in_ok-push w ↦
          let e : c.if-is_none.distances.items ≡ set mid.items a (Some c.args.distance) = search rules in
          let f : c.if-is_none.found.items ≡ c.loop-number.found.items ++ a ∷ [] = search rules in
          let none : distance_of mid.items a ≡ None = none_read mid.items a c.index.result.now a_in c.index.ensures (c.is_none.ensures ∙ ap not w.if-is_none.true) in
          let step = finds_new c.args.distance a mid.items c.loop-number.found.items a_in none in
          subst (λ (ds : List (Option ℕ)). Finds (EndsWith (take (i + 1) xs)) c.args.distance c.args.distances.now.items ds c.args.found.now.items c.if-is_none.found.items) (sym e)
          (subst (λ (fs : List ℕ). Finds (EndsWith (take (i + 1) xs)) c.args.distance c.args.distances.now.items (set mid.items a (Some c.args.distance)) c.args.found.now.items fs) (sym f)
          (finds_pair xs i (0, 0) c.loop-number-test.true c.loop-number.invariant step))
      | else-is_none w ↦
          let e : c.if-is_none.distances.items ≡ mid.items = search rules in
          let f : c.if-is_none.found.items ≡ c.loop-number.found.items = search rules in
          let some = some_read mid.items a c.index.result.now a_in c.index.ensures (c.is_none.ensures ∙ ap not w.if-is_none.false) in
          let step = finds_known c.args.distance a (some.0) mid.items c.loop-number.found.items some.1 in
          subst (λ (ds : List (Option ℕ)). Finds (EndsWith (take (i + 1) xs)) c.args.distance c.args.distances.now.items ds c.args.found.now.items c.if-is_none.found.items) (sym e)
          (subst (λ (fs : List ℕ). Finds (EndsWith (take (i + 1) xs)) c.args.distance c.args.distances.now.items mid.items c.args.found.now.items fs) (sym f)
          (finds_pair xs i (0, 0) c.loop-number-test.true c.loop-number.invariant step))
    ]
