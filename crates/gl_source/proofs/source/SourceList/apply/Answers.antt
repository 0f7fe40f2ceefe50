use Rattle.std.proofs.Common.{◌≡◌, ◌∙◌, length, ap, sym, refl, arith}
use Rattle.spec_lists.specs.Leads.{applied}
use Rattle.spec_lists.proofs.DeltaLeads.{length-applied}
use Rattle.gl_kernel.proofs.Fates.{delta_makes}
use Rattle.gl_source.specs.Kept.{Kept, itself}
use Rattle.gl_source.proofs.Logs.{map-itself}
use Rattle.gl_source.proofs.source.SourceList.apply.Goals as goal

pub apply-requires-clause-within : goal.apply-requires-clause-within
apply-requires-clause-within c =
    let ps = c.args.d.now.pieces in
    let xs = c.args.self.now.values in
    let same = ap (λ (k : Kept). k.values) c.self.view_is ∙ sym (map-itself xs) in
    (delta_makes itself ps xs (applied ps xs) c.in_ok-log.log.items c.self.inside.list.values (record { starts = c.requires.leads; ends = refl })
    (omega (arith, c.old_len-olds.ensures.value, c.old_len-olds.ensures.few)) (omega (arith, c.new_len-news.ensures.value, c.new_len-news.ensures.few)) same c.in_ok-log.ensures).within

pub apply-requires-clause-few : goal.apply-requires-clause-few
apply-requires-clause-few c =
    let ps = c.args.d.now.pieces in
    let xs = c.args.self.now.values in
    let same = ap (λ (k : Kept). k.values) c.self.view_is ∙ sym (map-itself xs) in
    (delta_makes itself ps xs (applied ps xs) c.in_ok-log.log.items c.self.inside.list.values (record { starts = c.requires.leads; ends = refl })
    (omega (arith, c.old_len-olds.ensures.value, c.old_len-olds.ensures.few)) (omega (arith, c.new_len-news.ensures.value, c.new_len-news.ensures.few)) same c.in_ok-log.ensures).few

pub invariant_of-self-2 : goal.invariant_of-self-2
invariant_of-self-2 c =
    let ps = c.args.d.now.pieces in
    let xs = c.args.self.now.values in
    let same = ap (λ (k : Kept). k.values) c.self.view_is ∙ sym (map-itself xs) in
    let values : c.apply.new.list.values ≡ applied ps xs = c.in_ok-log-2.ensures.ok
    ∙ ((delta_makes itself ps xs (applied ps xs) c.in_ok-log.log.items c.self.inside.list.values (record { starts = c.requires.leads; ends = refl })
    (omega (arith, c.old_len-olds.ensures.value, c.old_len-olds.ensures.few)) (omega (arith, c.new_len-news.ensures.value, c.new_len-news.ensures.few)) same c.in_ok-log.ensures).made
    ∙ map-itself (applied ps xs)) in
    record {
      within = omega (arith, ap length values, length-applied ps xs c.requires.leads, c.requires.within, ap (λ (k : Kept). k.limit) c.self.view_is);
      few = c.self.invariant.few;
    }

pub returns-clause-values : goal.returns-clause-values
returns-clause-values c =
    let ps = c.args.d.now.pieces in
    let xs = c.args.self.now.values in
    let same = ap (λ (k : Kept). k.values) c.self.view_is ∙ sym (map-itself xs) in
    c.in_ok-log-2.ensures.ok
    ∙ ((delta_makes itself ps xs (applied ps xs) c.in_ok-log.log.items c.self.inside.list.values (record { starts = c.requires.leads; ends = refl })
    (omega (arith, c.old_len-olds.ensures.value, c.old_len-olds.ensures.few)) (omega (arith, c.new_len-news.ensures.value, c.new_len-news.ensures.few)) same c.in_ok-log.ensures).made
    ∙ map-itself (applied ps xs))
