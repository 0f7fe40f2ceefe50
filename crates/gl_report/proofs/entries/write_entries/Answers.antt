use Rattle.std.proofs.Common.{◌≡◌, ◌∙◌, ◌+◌, ◌++◌, ℕ, [], length, drop, get_or, ap, sym}
use Rattle.std.specs.Prelude.{List, slice_get, unwrap_or}
use Rattle.std.proofs.lemmas.List.{get_or_default}
use Rattle.gl_outside.specs.declared.gate.Actor.{Actor}
use Rattle.gl_outside.specs.declared.gate.Actor.TheVariants.{Writer}
use Rattle.spec_reports.specs.Plan.{Plan}
use Rattle.spec_reports.specs.Run.{run}
use Rattle.spec_reports.specs.Telling.{Telling}
use Rattle.spec_reports.proofs.Runs.{length-replies}
use Rattle.spec_reports.specs.Report.{told_lines, told_first, told_later, entry_lines}
use Rattle.gl_world.specs.Telling.{Telling as Told}
use Rattle.gl_world.specs.Told.{tellings_of}
use Rattle.gl_report.specs.Lines.{spelled_entry}
use Rattle.gl_report.proofs.Lines.{entry_more}
use Rattle.gl_report.proofs.entries.write_entries.Goals as goal

pub loop-place-preserved : goal.loop-place-preserved
loop-place-preserved g c =
    let order = c.order-order.result.now in
    let plan : Plan = c.args.world.now.plan in
    let replies = (run plan c.args.world.now.order).replies in
    let same : length replies ≡ length order = length-replies plan c.args.world.now.order ∙ ap length (sym c.order-order.ensures.order) in
    let actor : Actor = get_or order c.loop-place.place (Writer 0) in
    let is : actor ≡ get_or order c.loop-place.place actor = get_or_default order c.loop-place.place (Writer 0) actor c.loop-place-test.true in
    let told : List Told = c.loop-place.told.now in
    let k : ℕ = c.loop-place.place in
    let named : c.lists.result.now ≡ plan.lists = c.lists.ensures.lists ∙ ap (λ p. p.lists) c.plan-plan.ensures in
    let heard : c.listeners.result.now ≡ plan.listeners = c.listeners.ensures.listeners ∙ ap (λ p. p.listeners) c.plan-plan.ensures in
    let entry : List ℕ = c.loop-place.out ++ spelled_entry plan.lists k actor (unwrap_or (slice_get replies k) []) in
    let lines : List ℕ = told_lines plan.listeners (told_first k (tellings_of told)) in
    let entered : c.write_entry.new.out ≡ entry = c.in_ok-write_entry.ensures
    ∙ ap (λ ls. c.loop-place.out ++ spelled_entry ls k actor c.replies-replies.result.now) named
    ∙ ap (λ rs. c.loop-place.out ++ spelled_entry plan.lists k actor rs) c.replies-replies.ensures in
    let written : c.write_told.new.out ≡ entry ++ lines = c.in_ok-count.ensures.text
    ∙ ap (λ ls. c.write_entry.new.out ++ told_lines ls (told_first k (tellings_of told))) heard
    ∙ ap (λ o. o ++ lines) entered in
    let left : List Telling → List ℕ = λ ts. entry_lines plan (k + 1) (drop (k + 1) order) (drop (k + 1) replies) ts in
    ap (λ ts. c.write_told.new.out ++ left (tellings_of ts)) c.rest-told.ensures
    ∙ ap (λ ts. c.write_told.new.out ++ left ts) c.in_ok-count.ensures.left
    ∙ ap (λ o. o ++ left (told_later k (tellings_of told))) written
    ∙ entry_more plan (tellings_of told) c.loop-place.out _ order replies k actor c.loop-place-test.true same is c.loop-place.invariant
