-- The commands of a well-formed plan are about lists of the plan, of the class that each needs, and attach what their
-- composites depend on, in every state.
use Rattle.std.proofs.Common.{◌≡◌, ◌∙◌, ◌<◌, ℕ, zero, suc, List, [], ◌∷◌, length, map, refl, sym, ap, subst, arith}
use Rattle.std.specs.Prelude.{Option, Some, None, option_map, unwrap_or, slice_get}
use Rattle.std.specs.List.{AllByRecursion, Contains}
use Rattle.std.proofs.lemmas.Option.{slice_get_within}
use Rattle.std.proofs.lemmas.List.Elements.{recursion_from_All}
use Rattle.spec_value.specs.Tree.{Tree}
use Rattle.gl_outside.specs.declared.gate.Actor.{Actor}
use Rattle.gl_outside.specs.declared.gate.Actor.TheVariants.{Writer, Proxy}
use Rattle.gl_lines.specs.declared.plan.Command.{Command}
use Rattle.gl_lines.specs.declared.plan.Command.TheVariants as c
use Rattle.gl_lines.specs.declared.plan.ListDecl.{ListDecl}
use Rattle.gl_lines.specs.declared.plan.ListKind.{ListKind}
use Rattle.gl_lines.specs.declared.plan.ListKind.TheVariants as kinds
use Rattle.spec_plans.specs.declared.class.ListClass.{ListClass}
use Rattle.spec_plans.specs.Plan.{Plan, sections_of, commands_of, proxies_of, inputs_of, origin}
use Rattle.spec_plans.specs.WellFormed.{class_of_kind, class_at, inputs_at, needed_class, all_commands, HasList, IsAttachable, IsWellFormed}
use Rattle.spec_states.specs.State.{Own, State, source, over, composite, transaction, freezable, proxy, inputs, own_at, opening_of}
use Rattle.spec_states.specs.Opening.{opening, shown_first}
use Rattle.spec_states.specs.Laws.{MayAttach, MayTake}
use Rattle.spec_states.proofs.Openings.{length-opening}
use Rattle.spec_runs.specs.Section.{state_after}
use Rattle.spec_runs.specs.Entry.{taken_by, pumping_of, next_deed}
use Rattle.spec_runs.specs.Run.{run}
use Rattle.spec_runs.specs.Kinds.{class_of_own, KeepsKinds, HasClass, IsFor}
use Rattle.spec_runs.proofs.KeptKinds.{Suits, AllSuit, suits_kept, class_kept, within_entry_kinds}
use Rattle.spec_runs.proofs.Entries.{DeedSuits}
use Rattle.spec_views.proofs.Lists.{all_weaker, all_both}
use Rattle.spec_states.proofs.Views.{opening_of_inputs}
use Rattle.spec_plans.proofs.Sections.{in_sections}

-- ---- what the lists open with

pub opening_class : (shows : ℕ → List Tree) (kind : ListKind)
    → class_of_own (opening_of shows kind) ≡ class_of_kind kind
opening_class shows (kinds.Source rows) = refl
opening_class shows (kinds.Filter input matcher) = refl
opening_class shows (kinds.Sorted input order) = refl
opening_class shows (kinds.Unique input order) = refl
opening_class shows (kinds.Grouping input order) = refl
opening_class shows (kinds.Range input bounds) = refl
opening_class shows (kinds.Function input func) = refl
opening_class shows (kinds.Collection input kids) = refl
opening_class shows (kinds.Composite members may) = refl
opening_class shows (kinds.Transaction input) = refl
opening_class shows (kinds.Freezable input) = refl
opening_class shows (kinds.Proxy input) = refl

-- the list of a number opens with what its kind says
pub opening_at : (shows : ℕ → List Tree) (ds : List ListDecl) (k : ℕ) (d : ListDecl)
    → slice_get ds k ≡ Some d
    → own_at (map (λ e. opening_of shows e.kind) ds) k ≡ opening_of shows d.kind
opening_at shows [] k d e = absurd cc
opening_at shows (first ∷ ds) zero d e = let same : first ≡ d = cc in ap (λ (l : ListDecl). opening_of shows l.kind) same
opening_at shows (first ∷ ds) (suc k) d e = opening_at shows ds k d e

-- the list of this number, of a class
record Stands (ds : List ListDecl) (k : ℕ) (class : ListClass) : Type 0 where
  decl : ListDecl
  there : slice_get ds k ≡ Some decl
  is : class_of_kind decl.kind ≡ class

stands : (ds : List ListDecl) (k : ℕ) (class : ListClass)
    → option_map (λ d. class_of_kind d.kind) (slice_get ds k) ≡ Some class → Stands ds k class
stands ds k class e = by_decl (slice_get ds k) refl e
  where
    by_decl : (o : Option ListDecl) → slice_get ds k ≡ o
        → option_map (λ d. class_of_kind d.kind) o ≡ Some class → Stands ds k class
    by_decl None there is = absurd cc
    by_decl (Some d) there is = record { decl = d; there = there; is = cc }

-- the class of a list of a plan is that of what it opens with
pub opening_has : (p : Plan) (k : ℕ) (class : ListClass) → class_at p k ≡ Some class
    → (k < length p.lists) × (class_of_own (own_at (opening p) k) ≡ class)
opening_has p k class e =
    let at : Stands p.lists k class = stands p.lists k class e in (
      slice_get_within p.lists k at.decl at.there,
      ap class_of_own (opening_at (shown_first p) p.lists k at.decl at.there)
          ∙ opening_class (shown_first p) at.decl.kind ∙ at.is,
    )

-- the inputs of a list of a plan are those of what it opens with
opens_with_inputs : (shows : ℕ → List Tree) (ds : List ListDecl) (k : ℕ)
    → inputs (own_at (map (λ e. opening_of shows e.kind) ds) k)
    ≡ unwrap_or (option_map (λ d. inputs_of d.kind) (slice_get ds k)) []
opens_with_inputs shows [] k = refl
opens_with_inputs shows (d ∷ ds) zero = opening_of_inputs shows d.kind
opens_with_inputs shows (d ∷ ds) (suc k) = opens_with_inputs shows ds k

pub inputs_opening : (p : Plan) (k : ℕ) → inputs (own_at (opening p) k) ≡ inputs_at p k
inputs_opening p k = opens_with_inputs (shown_first p) p.lists k

-- what a command attaches is among the inputs of its list
attachable : (command : Command) (own : Own)
    → ((list member : ℕ) → command ≡ c.Attach list member → Contains (inputs own) member)
    → MayAttach command own
attachable (c.Attach list member) (composite needed members) among = among list member refl
attachable (c.Attach list member) (source contents) among = tt
attachable (c.Attach list member) (over input view) among = tt
attachable (c.Attach list member) (transaction input levels) among = tt
attachable (c.Attach list member) (freezable input since) among = tt
attachable (c.Attach list member) (proxy input kept queue) among = tt
attachable other own among = tt

-- a command of a plan is for its list at the opening
for_opening : (p : Plan) (command : Command) → HasList p (needed_class command) (origin command)
    → IsAttachable p command → IsFor command (opening p)
for_opening p command h attached = by_need (needed_class command) refl h
  where
    may : MayAttach command (own_at (opening p) (origin command))
    may = attachable command (own_at (opening p) (origin command)) (λ list member e.
        let among : Contains (inputs_at p list) member = subst (IsAttachable p) e attached in
        let about : origin command ≡ list = ap origin e in
        subst (λ k. Contains (inputs (own_at (opening p) k)) member) (sym about)
        (subst (λ xs. Contains xs member) (sym (inputs_opening p list)) among))

    with_need : (need : Option ListClass) → needed_class command ≡ need
        → origin command < length p.lists → HasClass need (own_at (opening p) (origin command))
        → IsFor command (opening p)
    with_need need e low suits = record {
      within = omega (arith, low, length-opening p);
      suits = subst (λ n. HasClass n (own_at (opening p) (origin command))) (sym e) suits;
      may = may;
    }

    by_need : (need : Option ListClass) → needed_class command ≡ need
        → HasList p (needed_class command) (origin command)
        → IsFor command (opening p)
    by_need None e here = with_need None e (subst (λ n. HasList p n (origin command)) e here) tt
    by_need (Some class) e here =
        let there = opening_has p (origin command) class (subst (λ n. HasList p n (origin command)) e here) in
        with_need (Some class) e there.0 there.1

-- ---- in every state

-- a command of the class of its list is one that this may take
takes : (command : Command) (own : Own) → HasClass (needed_class command) own → MayTake command own
takes (c.Begin list) (transaction input levels) e = tt
takes (c.Commit list) (transaction input levels) e = tt
takes (c.Rollback list) (transaction input levels) e = tt
takes (c.Show list) (transaction input levels) e = tt
takes other (transaction input levels) e = absurd cc
takes (c.Freeze list) (freezable input since) e = tt
takes (c.Thaw list) (freezable input since) e = tt
takes (c.Show list) (freezable input since) e = tt
takes other (freezable input since) e = absurd cc
takes other (source contents) e = tt
takes other (over input view) e = tt
takes other (composite needed members) e = tt
takes other (proxy input kept queue) e = tt

pub suits_list : (s : State) (command : Command) → IsFor command s
    → Suits command (own_at s (origin command))
suits_list s command h = record { attaches = h.may; takes = takes command (own_at s (origin command)) h.suits }

-- a command stays one for its list where the kinds of lists stay
pub for_kept : (s t : State) (command : Command) → KeepsKinds s t → IsFor command s
    → IsFor command t
for_kept s t command keeps h =
    let low : origin command < length s = h.within in
    record {
      within = omega (arith, low, keeps.long);
      suits = by_need (needed_class command) h.suits;
      may = (suits_kept s t command keeps (suits_list s command h)).attaches;
    }
  where
    by_need : (need : Option ListClass) → HasClass need (own_at s (origin command))
        → HasClass need (own_at t (origin command))
    by_need None suits = tt
    by_need (Some class) suits = class_kept s t keeps (origin command) ∙ suits

all_kept : (s t : State) (commands : List Command) → KeepsKinds s t
    → AllByRecursion (λ d. IsFor d s) commands → AllByRecursion (λ d. IsFor d t) commands
all_kept s t commands keeps h = all_weaker (λ d. IsFor d s) (λ d. IsFor d t) (λ d g. for_kept s t d keeps g) commands h

-- what all items have, the one of a number has, and so does what stands for one that isn't there
at_number : {X : Type 0} (P : X → Type 0) (x : X) (xs : List X) (k : ℕ) → AllByRecursion P xs → P x
    → P (unwrap_or (slice_get xs k) x)
at_number P x [] k h g = g
at_number P x (y ∷ ys) zero h g = h.0
at_number P x (y ∷ ys) (suc k) h g = at_number P x ys k h.1 g

-- the commands of each section are for the lists that the plan opens with
pub opening_suits : (p : Plan) (writer section : ℕ) → IsWellFormed p
    → AllByRecursion (λ d. IsFor d (opening p)) (commands_of p writer section)
opening_suits p writer section h =
    let F : Command → Type 0 = λ d. IsFor d (opening p) in
    let H : Command → Type 0 = λ d. HasList p (needed_class d) (origin d) in
    let every : AllByRecursion F (all_commands p) =
    all_both H (IsAttachable p) F (λ d g a. for_opening p d g a) (all_commands p)
    (recursion_from_All H (all_commands p) h.commanded)
    (recursion_from_All (IsAttachable p) (all_commands p) h.attached) in
    let sections : AllByRecursion (AllByRecursion F) (sections_of p writer) =
    at_number (AllByRecursion (AllByRecursion F)) [] p.writers writer (in_sections F p every) tt in
    at_number (AllByRecursion F) [] (sections_of p writer) section sections tt

-- and in every state after a run and some commands
pub commands_suit : (p : Plan) (order : List Actor) (first : List Command) (writer section : ℕ)
    → IsWellFormed p
    → AllByRecursion (λ d. IsFor d (state_after p.limit (run p order).state first)) (commands_of p writer section)
commands_suit p order first writer section h =
    all_kept (opening p) (state_after p.limit (run p order).state first) (commands_of p writer section)
    (within_entry_kinds p order first) (opening_suits p writer section h)

-- commands that are for the lists of a state suit them
pub all_suit : (s : State) (cs : List Command) → AllByRecursion (λ d. IsFor d s) cs → AllSuit s cs
all_suit s cs h =
    all_weaker (λ d. IsFor d s) (λ d. Suits d (own_at s (origin d))) (λ d g. suits_list s d g) cs h

-- what an actor does next suits the lists, in every state where the kinds of lists are those of the opening
pub deed_suits : (p : Plan) (s : State) (before : List Actor) (a : Actor) → IsWellFormed p
    → KeepsKinds (opening p) s → DeedSuits s (next_deed p before a)
deed_suits p s before (Writer w) h keeps =
    all_suit s _ (all_kept (opening p) s _ keeps (opening_suits p w (taken_by w before) h))
deed_suits p s before (Proxy n) h keeps = by_list (slice_get (proxies_of p) n)
  where
    by_list : (o : Option ℕ) → DeedSuits s (pumping_of o)
    by_list None = tt
    by_list (Some list) = tt
