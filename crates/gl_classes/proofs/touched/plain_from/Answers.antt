use Rattle.std.proofs.Common.{◌∙◌, ap, arith}
use Rattle.std.proofs.lemmas.Option.{slice_get-get_or}
use Rattle.gl_arranged.specs.declared.changed.Ranked.{Ranked}
use Rattle.gl_classes.proofs.Runs.{run_more, stops_at, stops_end, read_is}
use Rattle.gl_classes.proofs.touched.plain_from.Goals.{then-at-ranked-via-then-at-ranked, then-at-ranked-via-else-at-ranked+then-ranked-at}
use Rattle.gl_classes.proofs.touched.plain_from.Goals as goal

pub returns-then-at-ranked : goal.returns-then-at-ranked
returns-then-at-ranked c =
    let i = c.run.invariant in
    elim c.then-at-ranked.branch [
      | then-at-ranked-via-then-at-ranked w ↦ stops_end c.args.ranked.now c.args.from c.args.start c.args.end c.run.at c.run.place i.low i.at_is i.runs c.run-test.true (let past = w.if-at-ranked.true in omega (arith, past))
      | then-at-ranked-via-else-at-ranked+then-ranked-at w ↦ stops_at c.args.ranked.now c.args.from c.args.start c.args.end c.run.at c.run.place i.low i.at_is i.runs c.run-test.true (λ r here e. w.if-ranked-at.true (ap (λ (x : Ranked). x.place) (read_is c.args.ranked.now c.run.at r _ here) ∙ e))
    ]

pub run-preserved : goal.run-preserved
run-preserved c =
    let i = c.run.invariant in
    let inside = c.if-at-ranked.false in
    record {
      low = omega (arith, i.low);
      at_is = omega (arith, i.at_is);
      within = omega (arith, inside);
      runs = run_more c.args.ranked.now c.args.from c.args.start c.run.at c.run.place i.low i.at_is i.runs _ (slice_get-get_or c.args.ranked.now c.run.at _ inside) c.if-ranked-at.false;
    }
