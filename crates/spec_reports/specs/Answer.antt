-- What a call answers for its words and the bytes of its source.
use Rattle.std.specs.Prelude.{⊤, ◌≡◌, ◌<◌, ◌≤◌, ℕ, List, [], ◌∷◌, ◌++◌, length, codes, decimal, Option, Some, None}
use Rattle.gl_outside.specs.declared.gate.Actor.{Actor}
use Rattle.gl_lines.specs.declared.fault.PlanKind.{PlanKind}
use Rattle.gl_lines.specs.declared.fault.PlanKind.TheVariants as kind
use Rattle.gl_lines.specs.declared.reply.Reply.{Reply}
use Rattle.gl_lines.specs.declared.reply.Reply.TheVariants as reply
use Rattle.spec_plans.specs.Plan.{Plan}
use Rattle.spec_plans.specs.declared.fault.FaultAt.{FaultAt}
use Rattle.spec_plan_texts.specs.Text.{SpellsPlan, FirstFault, SpellsCycle}
use Rattle.spec_plan_texts.specs.Canonical.{spelled_plan}
use Rattle.spec_states.specs.Opening.{opening}
use Rattle.spec_states.specs.Step.{too_long as first_too_long}
use Rattle.spec_runs.specs.Fits.{BadPlace, Reason, no_writer, no_section, no_proxy, empty_queue, first_bad_place}
use Rattle.spec_reports.specs.Report.{line_feed, report, list_name}
use Rattle.spec_reports.specs.Big.{big_plan, big_order, big_summary}
use Rattle.spec_reports.specs.Words.{Request, check, replay, run, big, Asks, HaveNoForm}

-- What a call comes to: words without a form, too many bytes, a text that is no plan for its first fault or its first cycle,
-- the one text of a plan, a list that opens too long, a bad place of the order, or the report.
pub data Outcome : Type 0 where
  usage : Outcome
  too_large : Outcome
  faulty : FaultAt → Outcome
  circular : List (List ℕ) → Outcome
  written : List ℕ → Outcome
  too_long : List ℕ → ℕ → Outcome
  misfit : BadPlace → Outcome
  reported : List ℕ → Outcome

-- the most bytes that a plan may have
abbrev pub most_bytes : ℕ
most_bytes = 67108864

-- the report, unless a place of the order is bad
abbrev pub taken : Plan → List Actor → Option BadPlace → Outcome
taken p order None = reported (report p order)
taken p order (Some bad) = misfit bad

-- the same, unless a list opens too long
abbrev pub opened : Plan → List Actor → Option Reply → Outcome
opened p order (Some (reply.TooLong list len)) = too_long (list_name p.lists list) len
opened p order other = taken p order (first_bad_place p order)

-- what the replay of a plan in an order comes to
abbrev pub replayed : Plan → List Actor → Outcome
replayed p order = opened p order (first_too_long p.limit (opening p))

-- what a request for a plan comes to; the actors of a run take the lock in the order taken
abbrev pub answer_of : Request → List Actor → Plan → Outcome
answer_of check taken p = written (spelled_plan p)
answer_of (replay order) taken p = replayed p order
answer_of run taken p = replayed p taken
answer_of (big n) taken p = reported (big_summary n)

-- a request that reads a plan
abbrev pub Reads : Request → Type 0
Reads check = ⊤
Reads (replay order) = ⊤
Reads run = ⊤
Reads (big n) = ⊥

-- What a call comes to, where the actors of a run take the lock in this order. Of the cases, which are in the order of refusals,
-- exactly one fits.
pub data ComesTo (words : List (List ℕ)) (bytes : List ℕ) (taken : List Actor) : Outcome
    → Type 0 where
  no_form : HaveNoForm words → ComesTo words bytes taken usage
  a_size : (n : ℕ) → Asks words (big n) → ComesTo words bytes taken (reported (big_summary n))
  large : (r : Request) → Asks words r → Reads r → most_bytes < length bytes
      → ComesTo words bytes taken too_large
  a_fault : (r : Request) (f : FaultAt) → Asks words r → Reads r → length bytes ≤ most_bytes
      → FirstFault bytes f
      → ComesTo words bytes taken (faulty f)
  a_cycle : (r : Request) (names : List (List ℕ)) → Asks words r → Reads r
      → length bytes ≤ most_bytes → SpellsCycle bytes names
      → ComesTo words bytes taken (circular names)
  a_plan : {o : Outcome} (r : Request) (p : Plan) → Asks words r → Reads r
      → length bytes ≤ most_bytes → SpellsPlan bytes p
      → o ≡ answer_of r taken p → ComesTo words bytes taken o

abbrev pub reason_text : Reason → List ℕ
reason_text no_writer = codes "no-writer"
reason_text no_section = codes "no-section"
reason_text no_proxy = codes "no-proxy"
reason_text empty_queue = codes "empty-queue"

abbrev pub kind_text : PlanKind → List ℕ
kind_text kind.Utf8 = codes "utf8"
kind_text kind.Header = codes "header"
kind_text kind.LongLine = codes "long-line"
kind_text kind.Form = codes "form"
kind_text kind.Place = codes "place"
kind_text kind.Block = codes "block"
kind_text kind.Many = codes "many"
kind_text kind.Taken = codes "taken"
kind_text kind.Unknown = codes "unknown"
kind_text kind.Kind = codes "kind"
kind_text kind.Member = codes "member"
kind_text kind.Second = codes "second"
kind_text kind.OverProxy = codes "over-proxy"

-- names, a space before each
abbrev pub spaced : List (List ℕ) → List ℕ
spaced [] = []
spaced (name ∷ names) = codes " " ++ name ++ spaced names

-- the text of what a call comes to
abbrev pub text_of_outcome : Outcome → List ℕ
text_of_outcome usage = codes "usage: glazed check | replay ORDER | run | big N\n"
text_of_outcome too_large = codes "input: more than 67108864 bytes\n"
text_of_outcome (faulty f) =
    codes "plan: line " ++ decimal f.line ++ codes " column " ++ decimal f.column ++ codes ": "
    ++ kind_text f.kind ++ line_feed
text_of_outcome (circular names) = codes "plan: cycle" ++ spaced names ++ line_feed
text_of_outcome (written text) = text
text_of_outcome (too_long name len) =
    codes "too-long " ++ name ++ codes " " ++ decimal len ++ line_feed
text_of_outcome (misfit bad) =
    codes "order: place " ++ decimal bad.place ++ codes ": " ++ reason_text bad.reason ++ line_feed
text_of_outcome (reported text) = text
