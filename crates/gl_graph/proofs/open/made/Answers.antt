use Rattle.std.proofs.Common.{◌≡◌, ◌∙◌, ◌<◌, ℕ, length, ap, sym, subst}
use Rattle.std.specs.Prelude.{◌↔◌, Err}
use Rattle.spec_states.specs.View.{view_of, collection}
use Rattle.spec_states.specs.State.{proxy as proxying, opening_of}
use Rattle.spec_states.specs.Shown.{shown_of}
use Rattle.gl_kernels.specs.SortedStands as sorted_stands
use Rattle.gl_kernels.specs.UniqueStands as unique_stands
use Rattle.gl_kernels.specs.GroupingStands as grouping_stands
use Rattle.gl_kernels.specs.KernelFault.TheVariants.{TooLong}
use Rattle.gl_graph.specs.Kept.{Kept}
use Rattle.gl_graph.specs.Nodes.{shown_by, StandsFor}
use Rattle.gl_graph.specs.Opening.{IsOver}
use Rattle.gl_graph.proofs.Openings.{over_by}
use Rattle.gl_graph.proofs.open.made.Goals as goal

pub returns-in_ok-sorted-in-Sorted-clause-stands : goal.returns-in_ok-sorted-in-Sorted-clause-stands
returns-in_ok-sorted-in-Sorted-clause-stands g c =
    let made = c.in_ok-sorted-in-Sorted in
    subst (λ k. StandsFor k (shown_by c.args.prefix.now c.args.positions.now)) (sym c.over-in-Sorted.ensures)
    (subst (λ (s : Kept). sorted_stands.StandsFor made.sorted (shown_by s.prefix s.positions s.list)) c.see-shelf-in-Sorted.ensures.seen made.ensures.stands)

pub returns-in_ok-unique-in-Unique-clause-stands : goal.returns-in_ok-unique-in-Unique-clause-stands
returns-in_ok-unique-in-Unique-clause-stands g c =
    let made = c.in_ok-unique-in-Unique in
    subst (λ k. StandsFor k (shown_by c.args.prefix.now c.args.positions.now)) (sym c.over-in-Unique.ensures)
    (subst (λ (s : Kept). unique_stands.StandsFor made.unique (shown_by s.prefix s.positions s.list)) c.see-shelf-in-Unique.ensures.seen made.ensures.stands)

pub returns-in_ok-grouping-in-Grouping-clause-stands : goal.returns-in_ok-grouping-in-Grouping-clause-stands
returns-in_ok-grouping-in-Grouping-clause-stands g c =
    let made = c.in_ok-grouping-in-Grouping in
    subst (λ k. StandsFor k (shown_by c.args.prefix.now c.args.positions.now)) (sym c.over-in-Grouping.ensures)
    (subst (λ (s : Kept). grouping_stands.StandsFor made.grouping (shown_by s.prefix s.positions s.list)) c.see-shelf-in-Grouping.ensures.seen made.ensures.stands)

pub returns-in_ok-proxy-in-Proxy-clause-own : goal.returns-in_ok-proxy-in-Proxy-clause-own
returns-in_ok-proxy-in-Proxy-clause-own g c =
    let shows = shown_by c.args.prefix.now c.args.positions.now in
    let input = c.in-Proxy.input in
    let made = c.in_ok-proxy-in-Proxy in
    let values : made.proxy.values ≡ shows input =
    made.ensures.values ∙ ap (λ (s : Kept). shown_by s.prefix s.positions s.list) c.see-shelf-in-Proxy.ensures.seen in
    subst (λ kind. proxying input made.proxy.values made.proxy.queue ≡ opening_of shows kind) (sym c.in-Proxy.is)
    (ap (λ xs. proxying input xs made.proxy.queue) values ∙ ap (proxying input (shows input)) made.ensures.queue)

pub returns-in-Err-clause-over : goal.returns-in-Err-clause-over
returns-in-Err-clause-over g c =
    let shows = shown_by c.args.prefix.now c.args.positions.now in
    let made = c.make-in-Collection in
    let why = c.fault_by.result in
    let n = length (view_of (collection c.in_ok-copy-in-Collection.field-0) (shows c.in-Collection.input)) in
    subst (λ kind. IsOver c.args.limit (length (shown_of (opening_of shows kind) shows)) why) (sym c.in-Collection.is)
    (subst (λ path. IsOver c.args.limit (length (view_of (collection path) (shows c.in-Collection.input))) why) c.in_ok-copy-in-Collection.ensures
    (over_by made.result c.args.limit n c.in-Err.fault why
    (subst (λ (s : Kept). (len : ℕ) → (made.result ≡ Err (TooLong len)) ↔ ((c.args.limit < len) × (len ≡ length (view_of (collection c.in_ok-copy-in-Collection.field-0) (shown_by s.prefix s.positions s.list)))))
    c.see-shelf-in-Collection.ensures.seen made.ensures.too_long)
    c.in-Err.is c.fault_by.ensures))
