pub mod Whole
pub mod Contents
pub mod Fault
pub mod Tables
pub mod Sorts
pub mod Proxies
pub use Rattle.spec_lines.specs.Proper
pub use Rattle.spec_lines.specs.Within
pub use Rattle.gl_plan_faults.specs.Before
pub use Rattle.gl_plan_faults.specs.declared.placing.Before as PlanFaultsBefore
