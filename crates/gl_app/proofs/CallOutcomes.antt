-- From what a call comes to and what its sink took, all that its status says.
use Rattle.std.proofs.Common.{◌≡◌, ◌∙◌, ℕ, ◌+◌, ◌-◌, ◌<◌, ◌≤◌, ◌⊎◌, List, [], ◌++◌, length, take, Option, Some, None, refl, sym, ap, subst, inl, inr, arith, length-append}
use Rattle.std.specs.Io.KnownBytes.{Appends}
use Rattle.gl_outside.specs.declared.gate.Actor.{Actor}
use Rattle.gl_outside.specs.Sink.{AppendsPrefix}
use Rattle.spec_reports.specs.Plan.{Plan}
use Rattle.spec_reports.specs.Text.{SpellsPlan}
use Rattle.spec_reports.proofs.Rewritten.{rewritten}
use Rattle.spec_reports.specs.Fits.{Fits}
use Rattle.spec_reports.specs.Order.{AsksReplay}
use Rattle.spec_reports.specs.Words.{Request, check, replay, run, big, Asks, HaveNoForm}
use Rattle.spec_reports.specs.Report.{report}
use Rattle.spec_reports.specs.Big.{big_summary}
use Rattle.spec_reports.proofs.Answer.{size_or_plan}
use Rattle.spec_reports.specs.Answer.{Outcome, usage, too_large, reported, ComesTo, no_form, a_size, large, a_fault, a_cycle, a_plan, answer_of, replayed, text_of_outcome, most_bytes}
use Rattle.gl_app.specs.declared.status.Status.{Status}
use Rattle.gl_app.specs.declared.status.Status.TheVariants.{Done, Usage, Plan as PlanStatus, Read, Write, Memory, Order, TooLarge, TooLong}
use Rattle.gl_app.specs.declared.answer.Answer.{Answer}
use Rattle.gl_app.specs.declared.answer.Answer.TheVariants as answer
use Rattle.gl_app.specs.declared.words.PlanRequest.{PlanRequest}
use Rattle.gl_app.specs.Words.{request_of_plan}
use Rattle.gl_app.specs.Status.{status_of}
use Rattle.gl_app.specs.Reading.{Took, IsWhole}
use Rattle.gl_app.specs.Answer.{status_at, text_at, IsOf, AnswersBytes}
use Rattle.gl_app.specs.Call.{Tells, AnswersRequest, AnswersWords, Answered, IsAnswer, Gives, ReportsRun, WritesPlan, MostText, IsAhead, IsSummary, AskForNoSize, HasReadFor, HasRead, IsAfterAll}
use Rattle.gl_app.proofs.Plans.{views_of_spelled, held_of_spelled, hears_of_spelled, in_turn_of_spelled, proxies_of_spelled}
use Rattle.gl_app.proofs.RequestOutcomes.{reads_of, replayed_cases}
use Rattle.spec_reports.proofs.Words.{one_request, one_size}

longer_than : (all taken rest : List ℕ) → all ≡ taken ++ rest → most_bytes < length taken → most_bytes < length all
longer_than all taken rest e many = omega (arith, ap length e, length-append taken rest)

with_too_large : (request : PlanRequest) (bytes : List ℕ) → most_bytes < length bytes
    → AnswersBytes (request_of_plan request) bytes answer.TooLarge
with_too_large request bytes many = record {
  outcome = too_large;
  comes = λ words asks. large (request_of_plan request) asks (reads_of request) many;
  is = record { status = refl; text = refl };
}

-- more bytes were taken than a plan may have
pub too_large_answer : (request : PlanRequest) (old new : Option (List ℕ)) → Took old new (λ n. most_bytes < n)
    → AnswersRequest (request_of_plan request) old answer.TooLarge
too_large_answer request None new took = record {
  bytes = took.taken;
  told = tt;
  answers = with_too_large request took.taken took.count;
}
too_large_answer request (Some all) None took = absurd took.consumed
too_large_answer request (Some all) (Some rest) took =
    let many : most_bytes < length all = longer_than all took.taken rest took.consumed took.count in
    record { bytes = all; told = refl; answers = with_too_large request all many }

-- the words have no form
pub usage_answer : (words : List (List ℕ)) (held : Option (List ℕ)) → HaveNoForm words
    → AnswersWords words held answer.Usage
usage_answer words None none = record {
  bytes = [];
  told = tt;
  outcome = usage;
  comes = no_form none;
  is = record { status = refl; text = refl };
}
usage_answer words (Some all) none = record {
  bytes = all;
  told = refl;
  outcome = usage;
  comes = no_form none;
  is = record { status = refl; text = refl };
}

-- the words ask for a request, which has an answer
pub words_answer : (words : List (List ℕ)) (held : Option (List ℕ)) (request : Request) (a : Answer)
    → Asks words request → AnswersRequest request held a → AnswersWords words held a
words_answer words held request a asks answers = record {
  bytes = answers.bytes;
  told = answers.told;
  outcome = answers.answers.outcome;
  comes = answers.answers.comes words asks;
  is = answers.answers.is;
}

whole : (words : List (List ℕ)) (held old new : Option (List ℕ)) (a : Answer) (s : Status) → AnswersWords words held a
    → (s ≡ status_at a) × Appends old new (text_at a) → Answered words held old new s
whole words held old new a s w g = record {
  bytes = w.bytes;
  told = w.told;
  outcome = w.outcome;
  comes = w.comes;
  is = g.0 ∙ w.is.status;
  taken = subst (Appends old new) w.is.text g.1;
}

-- what was given of an answer, by the status
pub is_answer : (words : List (List ℕ)) (held old new : Option (List ℕ)) (a : Answer) (s : Status)
    → AnswersWords words held a → Gives old new a s → IsAnswer words held old new s
is_answer words held old new a Write w g = record {
  bytes = w.bytes;
  told = w.told;
  outcome = w.outcome;
  comes = w.comes;
  part = subst (AppendsPrefix old new) w.is.text g;
}
is_answer words held old new a Read w g = tt
is_answer words held old new a Memory w g = tt
is_answer words held old new a Done w g = whole words held old new a Done w g
is_answer words held old new a Usage w g = whole words held old new a Usage w g
is_answer words held old new a PlanStatus w g = whole words held old new a PlanStatus w g
is_answer words held old new a Order w g = whole words held old new a Order w g
is_answer words held old new a TooLarge w g = whole words held old new a TooLarge w g
is_answer words held old new a TooLong w g = whole words held old new a TooLong w g

-- where no count rose, the answer was given whole, or memory ran out
pub quiet_answer : (words : List (List ℕ)) (held old new : Option (List ℕ)) (s : Status) (R W : Type 0)
    → IsAnswer words held old new s → (s ≡ Read → R) → (s ≡ Write → W) → ¬ R → ¬ W
    → (s ≡ Memory) ⊎ Answered words held old new s
quiet_answer words held old new Write R W is read write no_read no_write = absurd (no_write (write refl))
quiet_answer words held old new Read R W is read write no_read no_write = absurd (no_read (read refl))
quiet_answer words held old new Memory R W is read write no_read no_write = inl refl
quiet_answer words held old new Done R W is read write no_read no_write = inr is
quiet_answer words held old new Usage R W is read write no_read no_write = inr is
quiet_answer words held old new PlanStatus R W is read write no_read no_write = inr is
quiet_answer words held old new Order R W is read write no_read no_write = inr is
quiet_answer words held old new TooLarge R W is read write no_read no_write = inr is
quiet_answer words held old new TooLong R W is read write no_read no_write = inr is

-- what a replay comes to, where its status is Done
abbrev IsReport : Plan → List Actor → Outcome → Type 0
IsReport p order o = Done ≡ status_of o → Fits p order × (o ≡ reported (report p order))

is_report : (p : Plan) (order : List Actor) → IsReport p order (replayed p order)
is_report p order = replayed_cases (IsReport p order) p order (λ name len e. cc) (λ place e. cc)
    (λ fits e. (fits, refl))

reported_run : (held old new : Option (List ℕ)) (bytes : List ℕ) (order : List Actor) (o : Outcome) (p : Plan)
    → Tells held bytes → SpellsPlan bytes p → o ≡ replayed p order → Done ≡ status_of o
    → Appends old new (text_of_outcome o) → ReportsRun order held old new
reported_run held old new bytes order o p told spells is e taken =
    let done = is_report p order (e ∙ ap status_of is) in
    record {
      bytes = bytes;
      told = told;
      plan = p;
      spells = spells;
      fits = done.0;
      taken = subst (λ x. Appends old new (text_of_outcome x)) (is ∙ done.1) taken;
      views = λ n. views_of_spelled bytes p (take n order) spells;
      stays = held_of_spelled bytes p spells;
      listeners = hears_of_spelled bytes p spells;
      in_turn = in_turn_of_spelled bytes p spells;
      proxies = proxies_of_spelled bytes p spells;
    }

run_reported : (words : List (List ℕ)) (held old new : Option (List ℕ)) (bytes : List ℕ) (order : List Actor)
    (o : Outcome) → Tells held bytes → AsksReplay words order → ComesTo words bytes [] o → Done ≡ status_of o
    → Appends old new (text_of_outcome o) → ReportsRun order held old new
run_reported words held old new bytes order o told asks (no_form none) e taken = cc
run_reported words held old new bytes order o told asks (a_size n asked) e taken =
    absurd (size_or_plan words n (replay order) asked asks tt)
run_reported words held old new bytes order o told asks (large r asked reads many) e taken = cc
run_reported words held old new bytes order o told asks (a_fault r f asked reads few is) e taken = cc
run_reported words held old new bytes order o told asks (a_cycle r names asked reads few is) e taken = cc
run_reported words held old new bytes order o told asks (a_plan r p asked reads few spells is) e taken =
    let same : r ≡ replay order = one_request words r (replay order) asked asks in
    reported_run held old new bytes order o p told spells (is ∙ ap (λ x. answer_of x [] p) same) e taken

plan_written : (words : List (List ℕ)) (held old new : Option (List ℕ)) (bytes : List ℕ) (o : Outcome)
    → Tells held bytes → Asks words check → ComesTo words bytes [] o → Done ≡ status_of o
    → Appends old new (text_of_outcome o) → WritesPlan held old new
plan_written words held old new bytes o told asks (no_form none) e taken = cc
plan_written words held old new bytes o told asks (a_size n asked) e taken = absurd (size_or_plan words n check asked asks tt)
plan_written words held old new bytes o told asks (large r asked reads many) e taken = cc
plan_written words held old new bytes o told asks (a_fault r f asked reads few is) e taken = cc
plan_written words held old new bytes o told asks (a_cycle r names asked reads few is) e taken = cc
plan_written words held old new bytes o told asks (a_plan r p asked reads few spells is) e taken =
    let same : r ≡ check = one_request words r check asked asks in
    record {
      bytes = bytes;
      told = told;
      plan = p;
      spells = spells;
      taken = subst (λ x. Appends old new (text_of_outcome x)) (is ∙ ap (λ x. answer_of x [] p) same) taken;
      again = rewritten bytes p spells;
    }

-- with the status Done the report of the order was given
pub reports_run : (words : List (List ℕ)) (held old new : Option (List ℕ)) (s : Status) (order : List Actor)
    → IsAnswer words held old new s → AsksReplay words order → s ≡ Done → ReportsRun order held old new
reports_run words held old new Done order is asks e =
    run_reported words held old new is.bytes order is.outcome is.told asks is.comes is.is is.taken
reports_run words held old new Usage order is asks e = cc
reports_run words held old new PlanStatus order is asks e = cc
reports_run words held old new Read order is asks e = cc
reports_run words held old new Write order is asks e = cc
reports_run words held old new Memory order is asks e = cc
reports_run words held old new Order order is asks e = cc
reports_run words held old new TooLarge order is asks e = cc
reports_run words held old new TooLong order is asks e = cc

-- or the text of the plan, by the words
pub writes_plan : (words : List (List ℕ)) (held old new : Option (List ℕ)) (s : Status) → IsAnswer words held old new s
    → Asks words check → s ≡ Done → WritesPlan held old new
writes_plan words held old new Done is asks e = plan_written words held old new is.bytes is.outcome is.told asks
    is.comes is.is is.taken
writes_plan words held old new Usage is asks e = cc
writes_plan words held old new PlanStatus is asks e = cc
writes_plan words held old new Read is asks e = cc
writes_plan words held old new Write is asks e = cc
writes_plan words held old new Memory is asks e = cc
writes_plan words held old new Order is asks e = cc
writes_plan words held old new TooLarge is asks e = cc
writes_plan words held old new TooLong is asks e = cc

size_written : (words : List (List ℕ)) (old new : Option (List ℕ)) (bytes : List ℕ) (n : ℕ) (o : Outcome)
    → Asks words (big n) → ComesTo words bytes [] o → Appends old new (text_of_outcome o) → Appends old new (big_summary n)
size_written words old new bytes n o asks (no_form none) taken = absurd (none (big n) asks)
size_written words old new bytes n o asks (a_size m asked) taken =
    subst (λ k. Appends old new (big_summary k)) (one_size words m n asked.1 asks.1) taken
size_written words old new bytes n o asks (large r asked reads many) taken =
    absurd (size_or_plan words n r asks asked reads)
size_written words old new bytes n o asks (a_fault r f asked reads few is) taken =
    absurd (size_or_plan words n r asks asked reads)
size_written words old new bytes n o asks (a_cycle r names asked reads few is) taken =
    absurd (size_or_plan words n r asks asked reads)
size_written words old new bytes n o asks (a_plan r p asked reads few spells is) taken =
    absurd (size_or_plan words n r asks asked reads)

-- or the summary of the size that the words ask for
pub writes_summary : (words : List (List ℕ)) (held old new : Option (List ℕ)) (s : Status) → IsAnswer words held old new s
    → (n : ℕ) → Asks words (big n) → s ≡ Done → Appends old new (big_summary n)
writes_summary words held old new Done is n asks e = size_written words old new is.bytes n is.outcome asks is.comes is.taken
writes_summary words held old new Usage is n asks e = cc
writes_summary words held old new PlanStatus is n asks e = cc
writes_summary words held old new Read is n asks e = cc
writes_summary words held old new Write is n asks e = cc
writes_summary words held old new Memory is n asks e = cc
writes_summary words held old new Order is n asks e = cc
writes_summary words held old new TooLarge is n asks e = cc
writes_summary words held old new TooLong is n asks e = cc

-- words that ask for something of a plan ask for no summary
pub plan_no_size : (words : List (List ℕ)) (request : PlanRequest) (n : ℕ) → Asks words (request_of_plan request)
    → Asks words (big n) → ⊥
plan_no_size words request n asks size = size_or_plan words n (request_of_plan request) size asks (reads_of request)

-- the status of a summary, whatever the sink took
pub summary_status : (old new : Option (List ℕ)) (a : Answer) (s : Status) → Gives old new a s → IsSummary (status_at a)
    → IsSummary s
summary_status old new a Write g h = tt
summary_status old new a Read g h = subst IsSummary (sym g.0) h
summary_status old new a Memory g h = tt
summary_status old new a Done g h = tt
summary_status old new a Usage g h = subst IsSummary (sym g.0) h
summary_status old new a PlanStatus g h = subst IsSummary (sym g.0) h
summary_status old new a Order g h = subst IsSummary (sym g.0) h
summary_status old new a TooLarge g h = subst IsSummary (sym g.0) h
summary_status old new a TooLong g h = subst IsSummary (sym g.0) h

-- the words ask for the summary of a size, which is the answer
pub size_answer : (words : List (List ℕ)) (held : Option (List ℕ)) (n : ℕ) (a : Answer) → Asks words (big n)
    → IsOf a (reported (big_summary n)) → AnswersWords words held a
size_answer words None n a asks is = record {
  bytes = [];
  told = tt;
  outcome = reported (big_summary n);
  comes = a_size n asks;
  is = is;
}
size_answer words (Some all) n a asks is = record {
  bytes = all;
  told = refl;
  outcome = reported (big_summary n);
  comes = a_size n asks;
  is = is;
}

-- what is asked for of a plan is never the usage
abbrev IsNoUsage : Outcome → Type 0
IsNoUsage o = Usage ≡ status_of o → ⊥

no_usage : (r : Request) (p : Plan) → IsNoUsage (answer_of r [] p)
no_usage check p = λ e. cc
no_usage (replay order) p = replayed_cases IsNoUsage p order (λ name len e. cc) (λ place e. cc)
    (λ fits e. cc)
no_usage run p = replayed_cases IsNoUsage p [] (λ name len e. cc) (λ place e. cc) (λ fits e. cc)
no_usage (big n) p = λ e. cc

without_form : (words : List (List ℕ)) (bytes : List ℕ) (o : Outcome) → ComesTo words bytes [] o → Usage ≡ status_of o
    → HaveNoForm words
without_form words bytes o (no_form none) e = none
without_form words bytes o (a_size n asked) e = cc
without_form words bytes o (large r asked reads many) e = cc
without_form words bytes o (a_fault r f asked reads few is) e = cc
without_form words bytes o (a_cycle r names asked reads few is) e = cc
without_form words bytes o (a_plan r p asked reads few spells is) e = absurd (no_usage r p (e ∙ ap status_of is))

-- with the status Usage the words have no form
pub usage_without_form : (words : List (List ℕ)) (held old new : Option (List ℕ)) (s : Status)
    → IsAnswer words held old new s → s ≡ Usage → HaveNoForm words
usage_without_form words held old new Usage is e = without_form words is.bytes is.outcome is.comes is.is
usage_without_form words held old new Done is e = cc
usage_without_form words held old new PlanStatus is e = cc
usage_without_form words held old new Read is e = cc
usage_without_form words held old new Write is e = cc
usage_without_form words held old new Memory is e = cc
usage_without_form words held old new Order is e = cc
usage_without_form words held old new TooLarge is e = cc
usage_without_form words held old new TooLong is e = cc

-- an answer that was given is not ahead of the sink
ahead_of : (a : Answer) → IsAhead (status_at a) → ⊥
ahead_of answer.Usage h = h
ahead_of answer.TooLarge h = h
ahead_of (answer.Faulty text) h = h
ahead_of (answer.Circular text) h = h
ahead_of (answer.Written text) h = h
ahead_of (answer.TooLong text) h = h
ahead_of (answer.Misfit text) h = h
ahead_of (answer.Reported text) h = h

pub not_ahead : (old new : Option (List ℕ)) (a : Answer) (s : Status) → Gives old new a s → IsAhead s → ⊥
not_ahead old new a Read g h = ahead_of a (subst IsAhead g.0 tt)
not_ahead old new a Memory g h = ahead_of a (subst IsAhead g.0 tt)
not_ahead old new a Write g h = h
not_ahead old new a Done g h = h
not_ahead old new a Usage g h = h
not_ahead old new a PlanStatus g h = h
not_ahead old new a Order g h = h
not_ahead old new a TooLarge g h = h
not_ahead old new a TooLong g h = h

-- all of the source was read, ahead of such a status
pub read_all_of : (old new : Option (List ℕ)) (bytes : List ℕ) (s : Status) → IsWhole old new bytes → IsAfterAll s
    → HasRead old new s
read_all_of None new bytes Done is after = tt
read_all_of None new bytes PlanStatus is after = tt
read_all_of None new bytes Order is after = tt
read_all_of None new bytes TooLong is after = tt
read_all_of (Some all) new bytes Done is after = is.1
read_all_of (Some all) new bytes PlanStatus is after = is.1
read_all_of (Some all) new bytes Order is after = is.1
read_all_of (Some all) new bytes TooLong is after = is.1
read_all_of old new bytes Usage is after = absurd after
read_all_of old new bytes Read is after = absurd after
read_all_of old new bytes Write is after = absurd after
read_all_of old new bytes Memory is after = absurd after
read_all_of old new bytes TooLarge is after = absurd after

-- what was read before an answer
read_for : (old new : Option (List ℕ)) (a : Answer) → HasRead old new (status_at a) → HasReadFor old new (status_at a)
read_for old new answer.Usage h = h
read_for old new answer.TooLarge h = h
read_for old new (answer.Faulty text) h = h
read_for old new (answer.Circular text) h = h
read_for old new (answer.Written text) h = h
read_for old new (answer.TooLong text) h = h
read_for old new (answer.Misfit text) h = h
read_for old new (answer.Reported text) h = h

-- what was read stays so, whatever the sink took
pub read_by_status : (old new had has : Option (List ℕ)) (a : Answer) (s : Status) → Gives had has a s
    → HasRead old new (status_at a) → HasRead old new s
read_by_status old new had has a Write g h = (status_at a, read_for old new a h)
read_by_status old new had has a Done g h = subst (HasRead old new) (sym g.0) h
read_by_status old new had has a Usage g h = subst (HasRead old new) (sym g.0) h
read_by_status old new had has a PlanStatus g h = subst (HasRead old new) (sym g.0) h
read_by_status old new had has a Read g h = subst (HasRead old new) (sym g.0) h
read_by_status old new had has a Memory g h = subst (HasRead old new) (sym g.0) h
read_by_status old new had has a Order g h = subst (HasRead old new) (sym g.0) h
read_by_status old new had has a TooLarge g h = subst (HasRead old new) (sym g.0) h
read_by_status old new had has a TooLong g h = subst (HasRead old new) (sym g.0) h

-- a sink with room for every text has room for this one
pub room_for : (words : List (List ℕ)) (held : Option (List ℕ)) (a : Answer) (n : ℕ) → AnswersWords words held a
    → MostText words held n → length (text_at a) + (n - length (text_at a)) ≡ n
room_for words held a n w most = let fits : length (text_of_outcome w.outcome) ≤ n =
    most w.bytes w.outcome w.told w.comes in omega (arith, ap length w.is.text)
