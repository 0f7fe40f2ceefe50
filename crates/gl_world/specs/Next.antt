-- What taking a writer's next section means.
use Rattle.std.specs.Prelude.{◌≡◌, ◌<◌, ◌≤◌, ℕ, length}
use Rattle.gl_outside.specs.declared.gate.Actor.TheVariants.{Writer}
use Rattle.spec_states.specs.Plan.{sections_of}
use Rattle.spec_runs.specs.Entry.{taken_by}
use Rattle.gl_world.specs.History.{History, with_entry}
use Rattle.gl_world.specs.declared.next.Next.{Next}
use Rattle.gl_world.specs.declared.next.Next.TheVariants.{Some, None}

-- Where the writer has a section left, it is the new last entry; else the answer names the writer, and nothing changes.
abbrev pub TakesSection : {N : Type 0} → ℕ → History → Next N → History → Type 0
TakesSection writer old (Some place) new =
    (taken_by writer old.order < length (sections_of old.plan writer)) × (place ≡ length old.order)
    × (new ≡ with_entry old (Writer writer))
TakesSection writer old (None spent) new =
    (length (sections_of old.plan writer) ≤ taken_by writer old.order) × (spent ≡ writer)
    × (new ≡ old)
