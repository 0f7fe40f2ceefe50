-- What the parts of lines stand for in the definitions.
use Rattle.spec_plans.specs.Lines.{Head, Hearer}
use Rattle.gl_plan_faults.specs.declared.line.ListHead.{ListHead}
use Rattle.gl_plan_faults.specs.declared.line.ListenerHead.{ListenerHead}

abbrev pub head_seen : ListHead → Head
head_seen h = record { name = h.name.now; class = h.class; inputs = h.inputs.now; may = h.may.now }

abbrev pub hearer_seen : ListenerHead → Hearer
hearer_seen h = record { name = h.name.now; list = h.list.now; after = h.after.now }
