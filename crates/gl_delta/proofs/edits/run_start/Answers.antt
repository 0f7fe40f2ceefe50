use Rattle.std.proofs.Common.{◌≡◌, ◌∙◌, ◌+◌, ◌<◌, ℕ, suc, take, drop, sym, subst, arith}
use Rattle.std.proofs.Math.Numerals.{add-one}
use Rattle.gl_delta.specs.Pieces.{pieces}
use Rattle.gl_delta.proofs.Settled.{IsRun, old_len-take, run_from_start, run_after}
use Rattle.gl_delta.proofs.edits.run_start.Goals as goal

pub returns-then-olds-eq0-clause-run : goal.returns-then-olds-eq0-clause-run
returns-then-olds-eq0-clause-run c = (run_from_start (pieces c.args.store.now) c.args.end (sym c.rank-olds.ensures ∙ c.if-olds-eq0.true)).run

pub select-requires : goal.select-requires
select-requires c = omega (arith, c.rank-olds.ensures, old_len-take (pieces c.args.store.now) c.args.end)

pub overflow_add-result : goal.overflow_add-result
overflow_add-result c =
    let ps = pieces c.args.store.now in
    let some : 0 < c.rank-olds.result = omega (arith, c.if-olds-eq0.false) in
    let r = run_after ps c.select.result c.rank-olds.result c.args.end c.requires.within c.requires.prefix some c.rank-olds.ensures c.select.ensures in
    omega (arith, r.within, c.ranges.end.fits)

pub returns-clause-within : goal.returns-clause-within
returns-clause-within c =
    let ps = pieces c.args.store.now in
    let some : 0 < c.rank-olds.result = omega (arith, c.if-olds-eq0.false) in
    let r = run_after ps c.select.result c.rank-olds.result c.args.end c.requires.within c.requires.prefix some c.rank-olds.ensures c.select.ensures in
    omega (arith, r.within)

pub returns-clause-run : goal.returns-clause-run
returns-clause-run c =
    let ps = pieces c.args.store.now in
    let some : 0 < c.rank-olds.result = omega (arith, c.if-olds-eq0.false) in
    let r = run_after ps c.select.result c.rank-olds.result c.args.end c.requires.within c.requires.prefix some c.rank-olds.ensures c.select.ensures in
    let P : ℕ → Type 0 = λ k. IsRun ps k c.args.end in
    (subst P (sym (add-one c.select.result)) r).run

pub returns-clause-before : goal.returns-clause-before
returns-clause-before c =
    let ps = pieces c.args.store.now in
    let some : 0 < c.rank-olds.result = omega (arith, c.if-olds-eq0.false) in
    let r = run_after ps c.select.result c.rank-olds.result c.args.end c.requires.within c.requires.prefix some c.rank-olds.ensures c.select.ensures in
    let P : ℕ → Type 0 = λ k. IsRun ps k c.args.end in
    (subst P (sym (add-one c.select.result)) r).before
