-- What a plan keeps.
use Rattle.std.specs.Prelude.{◌≡◌, length}
use Rattle.spec_plans.specs.DependencyOrder.{dependency_order}
use Rattle.spec_plans.specs.Plan.{list_edges, listener_edges, proxies_of}
use Rattle.gl_plan.specs.declared.plan.Contents.{Contents}
use Rattle.gl_plan.specs.Whole.{IsWhole}

-- a plan, its proxies, and its lists and its listeners in dependency order
pub record AreContents (c : Contents) : Type 0 where
  pub whole : IsWhole c.draft
  pub proxies : c.proxies ≡ proxies_of c.draft
  pub lists : c.list_order ≡ dependency_order (length c.draft.lists) (list_edges c.draft)
  pub listeners : c.listener_order
      ≡ dependency_order (length c.draft.listeners) (listener_edges c.draft)
