-- A run changes no kind of list and no input: it keeps how many lists there are, and what depends on what.
use Rattle.std.proofs.Common.{◌≡◌, ◌∙◌, ℕ, zero, suc, true, false, List, [], ◌∷◌, length, fold, map, refl, ap, sym, subst, arith, inl, inr, cond, eqb}
use Rattle.std.specs.Prelude.{◌↔◌, Option, Some, None}
use Rattle.std.specs.List.{AllByRecursion}
use Rattle.std.proofs.lemmas.Bool.{cases_lt}
use Rattle.std.proofs.lemmas.List.{length-map}
use Rattle.spec_value.specs.Tree.{Tree}
use Rattle.spec_lists.specs.Delta.{Delta}
use Rattle.spec_views.specs.View.{View, filter, sorted, unique, grouping, range, function, collection, Parameter, with_parameter}
use Rattle.spec_views.specs.View as given_as
use Rattle.gl_lines.specs.declared.plan.Command.{Command}
use Rattle.gl_lines.specs.declared.plan.Command.TheVariants as c
use Rattle.gl_lines.specs.declared.reply.Reply.{Reply}
use Rattle.gl_outside.specs.declared.gate.Actor.{Actor}
use Rattle.spec_plans.specs.DependencyOrder.{dependency_order as dependency_order_of}
use Rattle.spec_plans.specs.Plan.{Plan, edges_from, origin}
use Rattle.spec_states.specs.State.{Own, State, source, over, composite, transaction, freezable, proxy, inputs, own_at, edges_of, dependency_order}
use Rattle.spec_states.specs.Shown.{shown}
use Rattle.spec_states.specs.Opening.{opening}
use Rattle.spec_states.specs.Wave.{Cause, command, pump, subject, Deltas, delta_in, wave_deltas, wave, parameter_of, view_after, kept_after, pumped, kept_by, kept_later, own_after}
use Rattle.spec_states.specs.Step.{step, step_by, unmoved}
use Rattle.spec_states.specs.Laws.{MayAttach, MayTake}
use Rattle.spec_runs.specs.Section.{state_after}
use Rattle.spec_runs.specs.Entry.{Deed, section, pumping, nothing, outcome, next_deed, queued_own, queued}
use Rattle.spec_runs.specs.Run.{Run, run, start, entry}
use Rattle.spec_runs.specs.Kinds.{kind_of_view, kind_of, KeepsKinds, class_of_view, class_of_own}
use Rattle.spec_states.proofs.Views.{own_past, length-wave, own_at_wave}
use Rattle.spec_states.proofs.Openings.{length-opening}

pub keeps_same : (s : State) → KeepsKinds s s
keeps_same s = record { long = refl; kinds = λ list. refl }

pub keeps_on : (s t u : State) → KeepsKinds s t → KeepsKinds t u → KeepsKinds s u
keeps_on s t u h g = record { long = g.long ∙ h.long; kinds = λ list. g.kinds list ∙ h.kinds list }

-- ---- what the lists of a state keep

-- a state whose lists are each made from those of another
pub own_map : (f : Own → Own) → f (source []) ≡ source [] → (s : State) (list : ℕ)
    → own_at (map f s) list ≡ f (own_at s list)
own_map f e [] list = sym e
own_map f e (own ∷ s) zero = refl
own_map f e (own ∷ s) (suc list) = own_map f e s list

-- ---- a wave

kept_view : (given : Parameter) (view : View)
    → kind_of_view (with_parameter given view) ≡ kind_of_view view
kept_view (given_as.matcher m) (filter old) = refl
kept_view (given_as.matcher m) other = refl
kept_view (given_as.order keys) (sorted old) = refl
kept_view (given_as.order keys) (unique old) = refl
kept_view (given_as.order keys) (grouping old) = refl
kept_view (given_as.order keys) other = refl
kept_view (given_as.bounds b) (range old) = refl
kept_view (given_as.bounds b) other = refl
kept_view (given_as.func f) (function old) = refl
kept_view (given_as.func f) other = refl

kind_given : (given : Option Parameter) (view : View)
    → kind_of_view (view_after given view) ≡ kind_of_view view
kind_given None view = refl
kind_given (Some given) view = kept_view given view

kept_kind : (c : Command) (shows : ℕ → List Tree) (own : Own)
    → kind_of (kept_after c shows own) ≡ kind_of own
kept_kind c shows (source contents) = refl
kept_kind c shows (over input view) = ap (over input) (kind_given (parameter_of c) view)
kept_kind c shows (composite needed members) = refl
kept_kind c shows (transaction input levels) = refl
kept_kind c shows (freezable input since) = refl
kept_kind c shows (proxy input kept queue) = refl

pumped_kind : (own : Own) → kind_of (pumped own) ≡ kind_of own
pumped_kind (proxy input kept queue) = refl
pumped_kind other = refl

later_kind : (list : ℕ) (own : Own) (delta : ℕ → Delta)
    → kind_of (kept_later list own delta) ≡ kind_of own
later_kind list (source contents) delta = refl
later_kind list (over input view) delta = refl
later_kind list (composite needed members) delta = refl
later_kind list (transaction input []) delta = refl
later_kind list (transaction input (level ∷ levels)) delta = refl
later_kind list (freezable input None) delta = refl
later_kind list (freezable input (Some since)) delta = refl
later_kind list (proxy input kept queue) delta = refl

by_kind : (cause : Cause) (shows : ℕ → List Tree) (own : Own)
    → kind_of (kept_by cause shows own) ≡ kind_of own
by_kind (command c) shows own = kept_kind c shows own
by_kind (pump list) shows own = pumped_kind own

after_kind : (cause : Cause) (s : State) (shows : ℕ → List Tree) (delta : ℕ → Delta) (list : ℕ)
    → kind_of (own_after cause s shows delta list) ≡ kind_of (own_at s list)
after_kind cause s shows delta list = elim (eqb list (subject cause)) as (λ b.
    kind_of (cond b (kept_by cause shows (own_at s list)) (kept_later list (own_at s list) delta))
    ≡ kind_of (own_at s list)) [
      | true ↦ by_kind cause shows (own_at s list)
      | false ↦ later_kind list (own_at s list) delta
    ]

pub wave_keeps : (s : State) (cause : Cause) → KeepsKinds s (wave s cause)
wave_keeps s cause = record { long = length-wave s cause; kinds = same }
  where
    same : (list : ℕ) → kind_of (own_at (wave s cause) list) ≡ kind_of (own_at s list)
    same list = elim (cases_lt list (length s)) [
      | inl low ↦
          ap kind_of (own_at_wave s cause list low)
          ∙ after_kind cause s (shown s) (delta_in (wave_deltas s cause)) list
      | inr high ↦
          ap kind_of (own_past (wave s cause) list (omega (arith, length-wave s cause, high))
          ∙ sym (own_past s list (omega (arith, high))))
    ]

pub step_keeps : (limit : ℕ) (s : State) (c : Command) → KeepsKinds s (step limit s c).state
step_keeps limit s c = by_reply (unmoved limit s c)
  where
    by_reply : (r : Option Reply) → KeepsKinds s (step_by r s c).state
    by_reply (Some reply) = keeps_same s
    by_reply None = wave_keeps s (command c)

pub after_keeps : (limit : ℕ) (s : State) (cs : List Command)
    → KeepsKinds s (state_after limit s cs)
after_keeps limit s [] = keeps_same s
after_keeps limit s (c ∷ cs) =
    let next : State = (step limit s c).state in
    keeps_on s next (state_after limit next cs) (step_keeps limit s c) (after_keeps limit next cs)

-- ---- an entry

pub outcome_keeps : (limit : ℕ) (s : State) (deed : Deed)
    → KeepsKinds s (outcome limit s deed).state
outcome_keeps limit s (section commands) = after_keeps limit s commands
outcome_keeps limit s (pumping list) = wave_keeps s (pump list)
outcome_keeps limit s nothing = keeps_same s

queued_kind : (delta : ℕ → Delta) (own : Own) → kind_of (queued_own delta own) ≡ kind_of own
queued_kind delta (proxy input kept queue) = refl
queued_kind delta other = refl

pub own_at_queued : (deltas : Deltas) (s : State) (list : ℕ)
    → own_at (queued deltas s) list ≡ queued_own (delta_in deltas) (own_at s list)
own_at_queued deltas s list = own_map (queued_own (delta_in deltas)) refl s list

pub queued_keeps : (deltas : Deltas) (s : State) → KeepsKinds s (queued deltas s)
queued_keeps deltas s = record {
  long = length-map s (queued_own (delta_in deltas));
  kinds = λ list.
      ap kind_of (own_at_queued deltas s list) ∙ queued_kind (delta_in deltas) (own_at s list);
}

pub entry_keeps : (p : Plan) (r : Run) (a : Actor) → KeepsKinds r.state (entry p r a).state
entry_keeps p r a =
    let done = outcome p.limit r.state (next_deed p r.order a) in
    keeps_on r.state done.state (entry p r a).state (outcome_keeps p.limit r.state (next_deed p r.order a))
    (queued_keeps done.deltas done.state)

run_from_keeps : (p : Plan) (r : Run) (order : List Actor)
    → KeepsKinds r.state (fold (entry p) r order).state
run_from_keeps p r [] = keeps_same r.state
run_from_keeps p r (a ∷ order) =
    keeps_on r.state (entry p r a).state (fold (entry p) (entry p r a) order).state (entry_keeps p r a)
    (run_from_keeps p (entry p r a) order)

-- a run changes no kind of list
pub run_kinds : (p : Plan) (order : List Actor) → KeepsKinds (opening p) (run p order).state
run_kinds p order = run_from_keeps p (start p) order

-- nor do some commands of an entry after it
pub within_entry_kinds : (p : Plan) (order : List Actor) (cs : List Command)
    → KeepsKinds (opening p) (state_after p.limit (run p order).state cs)
within_entry_kinds p order cs =
    keeps_on (opening p) (run p order).state (state_after p.limit (run p order).state cs) (run_kinds p order)
    (after_keeps p.limit (run p order).state cs)

-- the state of a run has as many lists as the plan
pub length-state : (p : Plan) (order : List Actor) → length (run p order).state ≡ length p.lists
length-state p order = (run_kinds p order).long ∙ length-opening p

-- ---- what follows from a list's kind

pub inputs_of_kind : (own : Own) → inputs (kind_of own) ≡ inputs own
inputs_of_kind (source contents) = refl
inputs_of_kind (over input view) = refl
inputs_of_kind (composite needed members) = refl
inputs_of_kind (transaction input levels) = refl
inputs_of_kind (freezable input since) = refl
inputs_of_kind (proxy input kept queue) = refl

class_of_view_kind : (view : View) → class_of_view (kind_of_view view) ≡ class_of_view view
class_of_view_kind (filter matcher) = refl
class_of_view_kind (sorted keys) = refl
class_of_view_kind (unique keys) = refl
class_of_view_kind (grouping keys) = refl
class_of_view_kind (range bounds) = refl
class_of_view_kind (function func) = refl
class_of_view_kind (collection path) = refl

class_of_own_kind : (own : Own) → class_of_own (kind_of own) ≡ class_of_own own
class_of_own_kind (source contents) = refl
class_of_own_kind (over input view) = class_of_view_kind view
class_of_own_kind (composite needed members) = refl
class_of_own_kind (transaction input levels) = refl
class_of_own_kind (freezable input since) = refl
class_of_own_kind (proxy input kept queue) = refl

-- what is said of a list by its kind alone stays where its kind does
pub same_by_kind : {X : Type 0} (f : Own → X) → ((own : Own) → f (kind_of own) ≡ f own)
    → (was now : Own) → kind_of now ≡ kind_of was → f now ≡ f was
same_by_kind f by was now e = sym (by now) ∙ ap f e ∙ by was

pub inputs_kept : (s t : State) → KeepsKinds s t → (list : ℕ)
    → inputs (own_at t list) ≡ inputs (own_at s list)
inputs_kept s t h list = same_by_kind inputs inputs_of_kind (own_at s list) (own_at t list) (h.kinds list)

pub class_kept : (s t : State) → KeepsKinds s t → (list : ℕ)
    → class_of_own (own_at t list) ≡ class_of_own (own_at s list)
class_kept s t h list = same_by_kind class_of_own class_of_own_kind (own_at s list) (own_at t list) (h.kinds list)

-- ---- what depends on what stays

same_inputs : (s t : State) → length t ≡ length s
    → ((list : ℕ) → inputs (own_at t list) ≡ inputs (own_at s list)) → map inputs t ≡ map inputs s
same_inputs [] [] long same = refl
same_inputs [] (u ∷ t) long same = absurd (omega (arith, long))
same_inputs (o ∷ s) [] long same = absurd (omega (arith, long))
same_inputs (o ∷ s) (u ∷ t) long same =
    ap (λ xs. xs ∷ map inputs t) (same 0)
    ∙ ap (λ xss. inputs o ∷ xss) (same_inputs s t (omega (arith, long)) (λ list. same (suc list)))

pub kept_edges : (s t : State) → KeepsKinds s t → edges_of t ≡ edges_of s
kept_edges s t h = ap (edges_from 0) (same_inputs s t h.long (inputs_kept s t h))

pub kept_order : (s t : State) → KeepsKinds s t → dependency_order t ≡ dependency_order s
kept_order s t h = ap (λ n. dependency_order_of n (edges_of t)) h.long ∙ ap (dependency_order_of (length s)) (kept_edges s t h)

-- ---- of which kind a list stays

pub source_kept : (s t : State) (list : ℕ) (xs : List Tree) → KeepsKinds s t
    → own_at s list ≡ source xs → (ys : List Tree) × (own_at t list ≡ source ys)
source_kept s t list xs h e = of_kind (own_at t list) (h.kinds list ∙ ap kind_of e)
  where
    of_kind : (own : Own) → kind_of own ≡ source [] → (ys : List Tree) × (own ≡ source ys)
    of_kind (source contents) k = (contents, refl)
    of_kind (over input view) k = absurd cc
    of_kind (composite needed members) k = absurd cc
    of_kind (transaction input levels) k = absurd cc
    of_kind (freezable input since) k = absurd cc
    of_kind (proxy input kept queue) k = absurd cc

pub over_kept : (s t : State) (list input : ℕ) (view : View) → KeepsKinds s t
    → own_at s list ≡ over input view
    → (now : View) × (own_at t list ≡ over input now) × (kind_of_view now ≡ kind_of_view view)
over_kept s t list input view h e = of_kind (own_at t list) (h.kinds list ∙ ap kind_of e)
  where
    of_kind : (own : Own) → kind_of own ≡ over input (kind_of_view view)
        → (now : View) × (own ≡ over input now) × (kind_of_view now ≡ kind_of_view view)
    of_kind (over other now) k = (now, ap (λ i. over i now) cc, cc)
    of_kind (source contents) k = absurd cc
    of_kind (composite needed members) k = absurd cc
    of_kind (transaction other levels) k = absurd cc
    of_kind (freezable other since) k = absurd cc
    of_kind (proxy other kept queue) k = absurd cc

pub proxy_kept : (s t : State) (list input : ℕ) (kept : List Tree) (queue : List Delta)
    → KeepsKinds s t → own_at s list ≡ proxy input kept queue
    → (now : List Tree) × (left : List Delta) × (own_at t list ≡ proxy input now left)
proxy_kept s t list input kept queue h e = of_kind (own_at t list) (h.kinds list ∙ ap kind_of e)
  where
    of_kind : (own : Own) → kind_of own ≡ proxy input [] []
        → (now : List Tree) × (left : List Delta) × (own ≡ proxy input now left)
    of_kind (proxy other now left) k = (now, left, ap (λ i. proxy i now left) cc)
    of_kind (source contents) k = absurd cc
    of_kind (over other view) k = absurd cc
    of_kind (composite needed members) k = absurd cc
    of_kind (transaction other levels) k = absurd cc
    of_kind (freezable other since) k = absurd cc

-- ---- which commands a list may take

-- the list may take the command, and what that attaches, if it does, is a list that it depends on
pub record Suits (c : Command) (own : Own) : Type 0 where
  pub attaches : MayAttach c own
  pub takes : MayTake c own

-- that depends on the kind of the list alone
attach_kind : (c : Command) (own : Own) → MayAttach c own ↔ MayAttach c (kind_of own)
attach_kind (c.Attach list member) (composite needed members) = ((λ m. m), (λ m. m))
attach_kind (c.Attach list member) (source contents) = ((λ m. tt), (λ m. tt))
attach_kind (c.Attach list member) (over input view) = ((λ m. tt), (λ m. tt))
attach_kind (c.Attach list member) (transaction input levels) = ((λ m. tt), (λ m. tt))
attach_kind (c.Attach list member) (freezable input since) = ((λ m. tt), (λ m. tt))
attach_kind (c.Attach list member) (proxy input kept queue) = ((λ m. tt), (λ m. tt))
attach_kind other own = ((λ m. tt), (λ m. tt))

take_kind : (c : Command) (own : Own) → MayTake c own ↔ MayTake c (kind_of own)
take_kind c (source contents) = ((λ m. m), (λ m. m))
take_kind c (over input view) = ((λ m. m), (λ m. m))
take_kind c (composite needed members) = ((λ m. m), (λ m. m))
take_kind c (transaction input levels) = ((λ m. m), (λ m. m))
take_kind c (freezable input since) = ((λ m. m), (λ m. m))
take_kind c (proxy input kept queue) = ((λ m. m), (λ m. m))

pub suits_kept : (s t : State) (c : Command) → KeepsKinds s t → Suits c (own_at s (origin c))
    → Suits c (own_at t (origin c))
suits_kept s t c h suits =
    let was : Own = own_at s (origin c) in
    let now : Own = own_at t (origin c) in
    record {
      attaches = (attach_kind c now).1 (subst (MayAttach c) (sym (h.kinds (origin c))) ((attach_kind c was).0 suits.attaches));
      takes = (take_kind c now).1 (subst (MayTake c) (sym (h.kinds (origin c))) ((take_kind c was).0 suits.takes));
    }

-- each of these commands suits its list
abbrev pub AllSuit : State → List Command → Type 0
AllSuit s cs = AllByRecursion (λ c. Suits c (own_at s (origin c))) cs

pub all_suit_kept : (s t : State) (cs : List Command) → KeepsKinds s t → AllSuit s cs → AllSuit t cs
all_suit_kept s t [] h suit = tt
all_suit_kept s t (c ∷ cs) h suit = (suits_kept s t c h suit.0, all_suit_kept s t cs h suit.1)
