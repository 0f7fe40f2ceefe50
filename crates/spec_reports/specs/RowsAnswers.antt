-- What is answered where an order doesn't fit, where words have no form, and where a text is no plan.
use Rattle.std.specs.Prelude.{◌≡◌, [], ◌∷◌, refl, codes}
use Rattle.std.specs.Fmt.{digits}
use Rattle.gl_outside.specs.declared.gate.Actor.TheVariants.{Writer, Proxy}
use Rattle.gl_lines.specs.declared.plan.Command.TheVariants as c
use Rattle.gl_lines.specs.declared.plan.ListKind.TheVariants as kinds
use Rattle.gl_lines.specs.declared.line.Line.TheVariants as line
use Rattle.gl_lines.specs.declared.fault.PlanKind.TheVariants.{OverProxy}
use Rattle.spec_plans.specs.NameFaults.{first_fault_at}
use Rattle.spec_plans.specs.Numbered.{numbered}
use Rattle.spec_plans.specs.Plan.{Plan}
use Rattle.spec_plans.specs.Rows.{at, fault}
use Rattle.spec_runs.specs.Fits.{no_writer, no_section, no_proxy}
use Rattle.spec_runs.specs.RowsWords.{usual_limit, number}
use Rattle.spec_reports.specs.Big.{declared, heard_by}
use Rattle.spec_reports.specs.Answer.{replayed, misfit, usage, faulty, text_of_outcome}

-- a writer with one section, and no proxy
abbrev one_section : Plan
one_section = record {
  limit = usual_limit;
  lists = declared (codes "s") (kinds.Source []) ∷ [];
  listeners = heard_by (codes "a") 0 ∷ [];
  writers = ((c.Insert 0 0 (number 5) ∷ c.Remove 0 0 ∷ []) ∷ []) ∷ [];
}

-- there is no second writer
second_writer :
    replayed one_section (Writer 1 ∷ [])
    ≡ misfit (record { place = 0; reason = no_writer })
second_writer = refl

second_writer_text :
    text_of_outcome (misfit (record { place = 0; reason = no_writer }))
    ≡ codes "order: place 0: no-writer\n"
unfolding digits
second_writer_text = refl

-- nor a second section
second_section :
    replayed one_section (Writer 0 ∷ Writer 0 ∷ [])
    ≡ misfit (record { place = 1; reason = no_section })
second_section = refl

second_section_text :
    text_of_outcome (misfit (record { place = 1; reason = no_section }))
    ≡ codes "order: place 1: no-section\n"
unfolding digits
second_section_text = refl

-- nor a proxy
first_proxy :
    replayed one_section (Proxy 0 ∷ [])
    ≡ misfit (record { place = 0; reason = no_proxy })
first_proxy = refl

first_proxy_text :
    text_of_outcome (misfit (record { place = 0; reason = no_proxy }))
    ≡ codes "order: place 0: no-proxy\n"
unfolding digits
first_proxy_text = refl

-- words without a form
usage_text : text_of_outcome usage ≡ codes "usage: glazed check | replay ORDER | run | big N\n"
usage_text = refl

-- source s; proxy p s; composite c p
over_proxy :
    first_fault_at
    (numbered 2
    (line.Source (at 8 (codes "s"))
    ∷ line.Proxy (at 7 (codes "p")) (at 9 (codes "s"))
    ∷ line.Composite (at 11 (codes "c")) (at 13 (codes "p") ∷ []) []
    ∷ []))
    ≡ fault 4 1 OverProxy
over_proxy = refl

over_proxy_text :
    text_of_outcome (faulty (record { line = 4; column = 1; kind = OverProxy }))
    ≡ codes "plan: line 4 column 1: over-proxy\n"
unfolding digits
over_proxy_text = refl
