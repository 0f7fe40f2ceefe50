-- From what the parts of the code answer, what a request for the bytes comes to.
use Rattle.std.proofs.Common.{◌≡◌, ℕ, ◌≤◌, List, Option, Some, None, [], length, refl, sym, subst}
use Rattle.gl_outside.specs.declared.gate.Actor.{Actor}
use Rattle.spec_reports.specs.Reply.{Reply}
use Rattle.spec_reports.specs.Reply.TheVariants as reply
use Rattle.gl_plan.specs.declared.fault.PlanFault.{PlanFault}
use Rattle.gl_plan.specs.declared.fault.PlanFault.TheVariants as fault
use Rattle.gl_text.specs.Spelled.{fault_at, IsFault}
use Rattle.spec_reports.specs.Plan.{Plan}
use Rattle.spec_reports.specs.Text.{SpellsPlan}
use Rattle.spec_reports.specs.Opening.{opening}
use Rattle.spec_reports.specs.Step.{too_long as first_too_long}
use Rattle.spec_reports.specs.Fits.{BadPlace, Fits, first_bad_place}
use Rattle.spec_reports.specs.Report.{report, list_name}
use Rattle.spec_reports.specs.Words.{Request, check, replay, run, big}
use Rattle.spec_reports.specs.Answer.{Outcome, Reads, faulty, circular, too_long, misfit, reported, taken, opened, replayed, answer_of, a_fault, a_cycle, a_plan, most_bytes}
use Rattle.gl_app.specs.declared.words.PlanRequest.{PlanRequest}
use Rattle.gl_app.specs.declared.words.PlanRequest.TheVariants.{Check, Replay}
use Rattle.gl_app.specs.Words.{request_of_plan}
use Rattle.gl_app.specs.declared.answer.Answer.{Answer}
use Rattle.gl_app.specs.Status.{status_of}
use Rattle.gl_app.specs.Answer.{status_at, IsOf, AnswersFault, AnswersBytes}
use Rattle.gl_app.specs.Call.{IsAfterAll}

-- what is asked for of a plan reads it
pub reads_of : (request : PlanRequest) → Reads (request_of_plan request)
reads_of Check = tt
reads_of (Replay order) = tt

-- no list opens too long
pub opened_within : (p : Plan) (order : List Actor) (a : Answer) → first_too_long p.limit (opening p) ≡ None
    → IsOf a (taken p order (first_bad_place p order)) → IsOf a (opened p order (first_too_long p.limit (opening p)))
opened_within p order a none is = subst (λ r. IsOf a (opened p order r)) (sym none) is

-- a list does
pub opened_long : (p : Plan) (order : List Actor) (a : Answer) (list len : ℕ)
    → first_too_long p.limit (opening p) ≡ Some (reply.TooLong list len)
    → IsOf a (too_long (list_name p.lists list) len) → IsOf a (opened p order (first_too_long p.limit (opening p)))
opened_long p order a list len some is = subst (λ r. IsOf a (opened p order r)) (sym some) is

-- the bytes spell a plan
pub plan_answer : (request : PlanRequest) (bytes : List ℕ) (p : Plan) (a : Answer) → length bytes ≤ most_bytes
    → SpellsPlan bytes p → IsOf a (answer_of (request_of_plan request) [] p)
    → AnswersBytes (request_of_plan request) bytes a
plan_answer request bytes p a few spells is = record {
  outcome = answer_of (request_of_plan request) [] p;
  comes = λ words asks. a_plan (request_of_plan request) p asks (reads_of request) few spells refl;
  is = is;
}

-- they spell none
pub fault_answer : (request : PlanRequest) (bytes : List ℕ) (f : PlanFault) (a : Answer) → length bytes ≤ most_bytes
    → IsFault bytes f → AnswersFault f a → AnswersBytes (request_of_plan request) bytes a
fault_answer request bytes (fault.At line column kind) a few is answers =
    let f = fault_at line column kind in
    record {
      outcome = faulty f;
      comes = λ words asks. a_fault (request_of_plan request) f asks (reads_of request) few is;
      is = answers;
    }
fault_answer request bytes (fault.Cycle names) a few is answers =
    record {
      outcome = circular names;
      comes = λ words asks. a_cycle (request_of_plan request) names asks (reads_of request) few is;
      is = answers;
    }
fault_answer request bytes fault.Memory a few is answers = absurd answers

-- What a replay comes to, by its cases.
module _ (P : Outcome → Type 0) (p : Plan) (order : List Actor)
    (long : (name : List ℕ) (len : ℕ) → P (too_long name len)) (bad : (place : BadPlace) → P (misfit place)) where
  taken_cases : (o : Option BadPlace) → first_bad_place p order ≡ o → (Fits p order → P (reported (report p order)))
      → P (taken p order o)
  taken_cases None is fits = fits is
  taken_cases (Some place) is fits = bad place

  opened_cases : (r : Option Reply) → (Fits p order → P (reported (report p order))) → P (opened p order r)
  opened_cases None fits = taken_cases (first_bad_place p order) refl fits
  opened_cases (Some (reply.TooLong list len)) fits = long (list_name p.lists list) len
  opened_cases (Some reply.Done) fits = taken_cases (first_bad_place p order) refl fits
  opened_cases (Some (reply.Shown values)) fits = taken_cases (first_bad_place p order) refl fits
  opened_cases (Some (reply.OutOfRange index len)) fits = taken_cases (first_bad_place p order) refl fits
  opened_cases (Some reply.AlreadyFrozen) fits = taken_cases (first_bad_place p order) refl fits
  opened_cases (Some reply.NotFrozen) fits = taken_cases (first_bad_place p order) refl fits
  opened_cases (Some reply.NotOpen) fits = taken_cases (first_bad_place p order) refl fits

pub replayed_cases : (P : Outcome → Type 0) (p : Plan) (order : List Actor)
    → ((name : List ℕ) (len : ℕ) → P (too_long name len)) → ((place : BadPlace) → P (misfit place))
    → (Fits p order → P (reported (report p order))) → P (replayed p order)
replayed_cases P p order long bad fits = opened_cases P p order long bad (first_too_long p.limit (opening p)) fits

-- the status of each of them comes after all of the source was read
abbrev IsAfter : Outcome → Type 0
IsAfter o = IsAfterAll (status_of o)

after_outcome : (r : Request) (p : Plan) → IsAfter (answer_of r [] p)
after_outcome check p = tt
after_outcome (replay order) p = replayed_cases IsAfter p order (λ name len. tt) (λ place. tt) (λ fits. tt)
after_outcome run p = replayed_cases IsAfter p [] (λ name len. tt) (λ place. tt) (λ fits. tt)
after_outcome (big n) p = tt

pub after_request : (r : Request) (p : Plan) (a : Answer) → IsOf a (answer_of r [] p) → IsAfterAll (status_at a)
after_request r p a is = subst IsAfterAll (sym is.status) (after_outcome r p)

pub later_fault : (f : PlanFault) (a : Answer) → AnswersFault f a → IsAfterAll (status_at a)
later_fault (fault.At line column _) a is = subst IsAfterAll (sym is.status) tt
later_fault (fault.Cycle names) a is = subst IsAfterAll (sym is.status) tt
later_fault fault.Memory a is = absurd is
