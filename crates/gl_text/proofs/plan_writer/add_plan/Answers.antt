use Rattle.std.proofs.Common.{◌≡◌, ◌∙◌, ◌++◌, ap, subst}
use Rattle.std.specs.Prelude.{OnOk}
use Rattle.gl_text.specs.Texts.{prefix_text}
use Rattle.gl_text.proofs.Texts.{all_written}
use Rattle.gl_text.proofs.plan_writer.add_plan.Goals as goal

pub returns : goal.returns
returns c =
    let p = c.args.plan.now in
    let parts : prefix_text c.limit.result c.lists.result.now c.listeners.result.now ≡ prefix_text p.limit p.lists
    p.listeners =
    ap (λ k. prefix_text k c.lists.result.now c.listeners.result.now) c.limit.ensures
    ∙ ap (λ ds. prefix_text p.limit ds c.listeners.result.now) c.lists.ensures.lists
    ∙ ap (λ ds. prefix_text p.limit p.lists ds) c.listeners.ensures.listeners in
    let prefix : c.add_prefix.new.out ≡ c.args.out.now ++ prefix_text p.limit p.lists p.listeners =
    c.in_ok-add_prefix.ensures ∙ ap (λ t. c.args.out.now ++ t) parts in
    subst (λ x. OnOk c.add_writers.result (c.add_writers.new.out ≡ x))
    (all_written p c.args.out.now c.add_prefix.new.out prefix) c.add_writers.ensures
