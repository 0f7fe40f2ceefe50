-- What the answers of the code stand for.
use Rattle.std.specs.Prelude.{◌≡◌, ℕ, List, []}
use Rattle.gl_plan.specs.declared.fault.PlanFault.{PlanFault}
use Rattle.gl_plan.specs.declared.fault.PlanFault.TheVariants as fault
use Rattle.gl_text.specs.Spelled.{fault_at}
use Rattle.spec_reports.specs.Words.{Request, Asks}
use Rattle.spec_reports.specs.Answer.{Outcome, usage, too_large, faulty, circular, text_of_outcome, ComesTo}
use Rattle.gl_app.specs.declared.status.Status.{Status}
use Rattle.gl_app.specs.declared.status.Status.TheVariants as status
use Rattle.gl_app.specs.declared.answer.Answer.{Answer}
use Rattle.gl_app.specs.declared.answer.Answer.TheVariants.{Usage, TooLarge, Faulty, Circular, Written, TooLong, Misfit, Reported}
use Rattle.gl_app.specs.Status.{status_of}

abbrev pub status_at : Answer → Status
status_at Usage = status.Usage
status_at TooLarge = status.TooLarge
status_at (Faulty text) = status.Plan
status_at (Circular text) = status.Plan
status_at (Written text) = status.Done
status_at (TooLong text) = status.TooLong
status_at (Misfit text) = status.Order
status_at (Reported text) = status.Done

abbrev pub text_at : Answer → List ℕ
text_at Usage = text_of_outcome usage
text_at TooLarge = text_of_outcome too_large
text_at (Faulty text) = text
text_at (Circular text) = text
text_at (Written text) = text
text_at (TooLong text) = text
text_at (Misfit text) = text
text_at (Reported text) = text

-- the answer is that of this outcome
pub record IsOf (a : Answer) (o : Outcome) : Type 0 where
  pub status : status_at a ≡ status_of o
  pub text : text_at a ≡ text_of_outcome o

-- the answer of a text that is no plan; want of memory has none
abbrev pub AnswersFault : PlanFault → Answer → Type 0
AnswersFault (fault.At line column kind) a = IsOf a (faulty (fault_at line column kind))
AnswersFault (fault.Cycle names) a = IsOf a (circular names)
AnswersFault fault.Memory a = ⊥

-- the answer of a request and the bytes, by whatever words ask for it
pub record AnswersBytes (request : Request) (bytes : List ℕ) (a : Answer) : Type 0 where
  pub outcome : Outcome
  pub comes : (words : List (List ℕ)) → Asks words request → ComesTo words bytes [] outcome
  pub is : IsOf a outcome
