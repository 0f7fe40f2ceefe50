-- The edits of the marks of the first members that go with the steps of an arrangement.
use Rattle.std.specs.Prelude.{◌++◌, Bool, true, false, not, List, [], ◌∷◌, if◌then◌else◌}
use Rattle.gl_kernel.specs.declared.log_step.LogStep.{LogStep}
use Rattle.gl_kernel.specs.declared.log_step.LogStep.TheVariants.{Insert, Remove, Set}
use Rattle.gl_arranged.specs.declared.step.Step.{Step}
use Rattle.gl_arranged.specs.declared.step.Step.TheVariants.{Removed, Inserted}
use Rattle.gl_arranged.specs.Marks.{leads_key}

-- those of one step; the last one is made first
abbrev pub step_edits : Step → List (LogStep Bool)
step_edits (Removed source spot) =
    (if leads_key spot then Set spot.place true ∷ [] else []) ++ Remove spot.place ∷ []
step_edits (Inserted source spot) =
    Insert spot.place (not spot.before)
    ∷ (if leads_key spot then Set spot.place false ∷ [] else [])

-- those of all steps, of which the first one is taken first
abbrev pub all_edits : List Step → List (LogStep Bool)
all_edits [] = []
all_edits (s ∷ ss) = all_edits ss ++ step_edits s
