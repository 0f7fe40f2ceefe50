-- What a call of the program does.
use Rattle.std.specs.Prelude.{◌≡◌, ◌<◌, ◌≤◌, ℕ, List, [], length, take, Option, None, Some, IfSome, Result, Ok, Err, ⊤}
use Rattle.std.specs.Io.KnownBytes.{Appends}
use Rattle.gl_outside.specs.declared.gate.Actor.{Actor}
use Rattle.gl_outside.specs.Sink.{AppendsPrefix}
use Rattle.spec_reports.specs.Plan.{Plan}
use Rattle.spec_reports.specs.Shown.{EachShowsItsView}
use Rattle.spec_reports.specs.Canonical.{spelled_plan}
use Rattle.spec_reports.specs.Text.{SpellsPlan}
use Rattle.spec_reports.specs.Short.{HasShortLines}
use Rattle.spec_reports.specs.Fits.{Fits}
use Rattle.spec_reports.specs.Laws.{EachHeldStays, EachHears, EachToldAfterNeeded, EachProxyFollows}
use Rattle.spec_reports.specs.Run.{run}
use Rattle.spec_reports.specs.Words.{Request, big, Asks}
use Rattle.spec_reports.specs.Report.{report}
use Rattle.spec_reports.specs.Answer.{Outcome, ComesTo, text_of_outcome, most_bytes}
use Rattle.gl_app.specs.declared.status.Status.{Status}
use Rattle.gl_app.specs.declared.status.Status.TheVariants.{Done, Usage, Plan as PlanStatus, Read, Write, Memory, Order, TooLarge, TooLong}
use Rattle.gl_app.specs.declared.answer.Answer.{Answer}
use Rattle.gl_app.specs.declared.outcome.Stop.{Stop}
use Rattle.gl_app.specs.declared.outcome.Stop.TheVariants as stop
use Rattle.gl_app.specs.Status.{status_of}
use Rattle.gl_app.specs.Reading.{Took}
use Rattle.gl_app.specs.Answer.{status_at, text_at, IsOf, AnswersBytes}

-- these are the bytes that a source held, where it tells them
abbrev pub Tells : Option (List ℕ) → List ℕ → Type 0
Tells None bytes = ⊤
Tells (Some all) bytes = bytes ≡ all

-- the answer of a request and a source's bytes
pub record AnswersRequest (request : Request) (held : Option (List ℕ)) (a : Answer) : Type 0 where
  pub bytes : List ℕ
  pub told : Tells held bytes
  pub answers : AnswersBytes request bytes a

-- the answer of the words and a source's bytes
pub record AnswersWords (words : List (List ℕ)) (held : Option (List ℕ)) (a : Answer) : Type 0 where
  pub bytes : List ℕ
  pub told : Tells held bytes
  pub outcome : Outcome
  pub comes : ComesTo words bytes [] outcome
  pub is : IsOf a outcome

-- the status, where the sink takes all of the text
abbrev pub status_after : Result Answer Stop → Status
status_after (Ok a) = status_at a
status_after (Err stop.Read) = Read
status_after (Err stop.Memory) = Memory

-- the statuses of words without a form: their form is judged before any memory is taken
abbrev pub IsUsage : Status → Type 0
IsUsage Usage = ⊤
IsUsage Write = ⊤
IsUsage Memory = ⊥
IsUsage Done = ⊥
IsUsage PlanStatus = ⊥
IsUsage Read = ⊥
IsUsage Order = ⊥
IsUsage TooLarge = ⊥
IsUsage TooLong = ⊥

-- the statuses of words that ask for a summary: no plan is read, and each of its entries fits
abbrev pub IsSummary : Status → Type 0
IsSummary Done = ⊤
IsSummary Write = ⊤
IsSummary Memory = ⊤
IsSummary other = ⊥

-- the words ask for no summary
abbrev pub AskForNoSize : List (List ℕ) → Type 0
AskForNoSize words = (n : ℕ) → ¬ Asks words (big n)

-- the statuses that come after all of the source was read
abbrev pub IsAfterAll : Status → Type 0
IsAfterAll Done = ⊤
IsAfterAll PlanStatus = ⊤
IsAfterAll Order = ⊤
IsAfterAll TooLong = ⊤
IsAfterAll other = ⊥

-- What was read of the source before an answer of this status: all of it, more than a plan may have, at most that, or
-- nothing.
abbrev pub HasReadFor : Option (List ℕ) → Option (List ℕ) → Status → Type 0
HasReadFor old new Done = IfSome old (λ all. new ≡ Some [])
HasReadFor old new PlanStatus = IfSome old (λ all. new ≡ Some [])
HasReadFor old new Order = IfSome old (λ all. new ≡ Some [])
HasReadFor old new TooLong = IfSome old (λ all. new ≡ Some [])
HasReadFor old new TooLarge = Took old new (λ n. most_bytes < n)
HasReadFor old new Read = Took old new (λ n. n ≤ most_bytes)
HasReadFor old new Memory = Took old new (λ n. n ≤ most_bytes)
HasReadFor old new Usage = new ≡ old
HasReadFor old new Write = ⊥

-- What was read of the source, by the status. Where the sink didn't take the text of an answer, it is what that answer read.
abbrev pub HasRead : Option (List ℕ) → Option (List ℕ) → Status → Type 0
HasRead old new Write = (answered : Status) × HasReadFor old new answered
HasRead old new status = HasReadFor old new status

-- the status is that of what the words and the source's bytes come to, and the sink took all of its text
pub record Answered (words : List (List ℕ)) (held old new : Option (List ℕ))
    (status : Status) : Type 0 where
  pub bytes : List ℕ
  pub told : Tells held bytes
  pub outcome : Outcome
  pub comes : ComesTo words bytes [] outcome
  pub is : status ≡ status_of outcome
  pub taken : Appends old new (text_of_outcome outcome)

-- the sink took a prefix of that text
pub record Begun (words : List (List ℕ)) (held old new : Option (List ℕ)) : Type 0 where
  pub bytes : List ℕ
  pub told : Tells held bytes
  pub outcome : Outcome
  pub comes : ComesTo words bytes [] outcome
  pub part : AppendsPrefix old new (text_of_outcome outcome)

-- what each status says
abbrev pub IsAnswer : List (List ℕ) → Option (List ℕ) → Option (List ℕ) → Option (List ℕ) → Status
    → Type 0
IsAnswer words held old new Write = Begun words held old new
IsAnswer words held old new Read = ⊤
IsAnswer words held old new Memory = ⊤
IsAnswer words held old new status = Answered words held old new status

-- what a sink was given of an answer, by the status
abbrev pub Gives : Option (List ℕ) → Option (List ℕ) → Answer → Status → Type 0
Gives old new a Write = AppendsPrefix old new (text_at a)
Gives old new a status = (status ≡ status_at a) × Appends old new (text_at a)

-- The sink took the report of the plan that the bytes spell, in the order, which fits it. At each moment of its run each
-- list that isn't held shows its view of what its inputs show, and at each command a list that is held after it shows
-- what it showed before it. Each listener is told once of each entry that changes its list, and of no other, after all
-- listeners that it depends on, and replaying what it was told gives what its list shows. Each proxy shows what its input
-- showed after the part of the run to which the proxy has come, and what it is yet to take leads from there to what its
-- input shows now.
pub record ReportsRun (order : List Actor) (held old new : Option (List ℕ)) : Type 0 where
  pub bytes : List ℕ
  pub told : Tells held bytes
  pub plan : Plan
  pub spells : SpellsPlan bytes plan
  pub fits : Fits plan order
  pub taken : Appends old new (report plan order)
  pub views : (n : ℕ) → EachShowsItsView (run plan (take n order)).state
  pub stays : EachHeldStays plan
  pub listeners : EachHears plan
  pub in_turn : EachToldAfterNeeded plan
  pub proxies : EachProxyFollows plan

-- The sink took the one text of the plan that the bytes spell. Where each line of that text is short enough to be read, it
-- spells the plan again.
pub record WritesPlan (held old new : Option (List ℕ)) : Type 0 where
  pub bytes : List ℕ
  pub told : Tells held bytes
  pub plan : Plan
  pub spells : SpellsPlan bytes plan
  pub taken : Appends old new (spelled_plan plan)
  pub again : HasShortLines plan → SpellsPlan (spelled_plan plan) plan

-- no text that the words and the source's bytes may come to is longer
abbrev pub MostText : List (List ℕ) → Option (List ℕ) → ℕ → Type 0
MostText words held n = (bytes : List ℕ) (o : Outcome) → Tells held bytes → ComesTo words bytes [] o
    → length (text_of_outcome o) ≤ n

-- the statuses that come before the sink is given anything
abbrev pub IsAhead : Status → Type 0
IsAhead Read = ⊤
IsAhead Memory = ⊤
IsAhead status = ⊥
