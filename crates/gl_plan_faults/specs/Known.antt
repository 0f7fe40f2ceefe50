-- What the tables of known lines stand for.
use Rattle.std.specs.Prelude.{◌≡◌, ℕ}
use Rattle.spec_plans.specs.Names.{list_names, listener_names, is_over_proxy}
use Rattle.gl_plan_faults.specs.Marked.{is_marked}
use Rattle.gl_plan_faults.specs.Marks.{AreListed}
use Rattle.gl_plan_faults.specs.declared.known.Known.{Known}

-- the tables are those of the lines
pub record IsKnown (k : Known) : Type 0 where
  pub names_are : k.names ≡ list_names k.lines.now
  pub listeners_are : k.listeners ≡ listener_names k.lines.now
  pub lists_are : AreListed k.lines.now k.lists.items
  pub over_is : (a : ℕ) → is_marked k.over_proxy.items a ≡ is_over_proxy k.lines.now a
