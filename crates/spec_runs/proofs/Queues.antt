-- What proxies are yet to take leads from what they show to what their inputs show, at the end of every entry.
use Rattle.std.proofs.Common.{◌≡◌, ◌∙◌, ◌<◌, ◌++◌, ℕ, Bool, true, false, List, [], ◌∷◌, length, map, slice_set, refl, ap, sym, subst, arith, cond, eqb}
use Rattle.std.specs.Prelude.{◌↔◌, Option, Some, None, ⊤}
use Rattle.std.specs.List.{Contains}
use Rattle.spec_plans.proofs.Members.{Contains-here}
use Rattle.spec_value.specs.Tree.{Tree}
use Rattle.spec_lists.specs.Piece.{IsNormal}
use Rattle.spec_lists.specs.Delta.{Delta, is_identity}
use Rattle.spec_lists.specs.Leads.{LeadsFrom, IsDelta, applied}
use Rattle.spec_lists.proofs.DeltaLeads.{applied_no_change}
use Rattle.gl_lines.specs.declared.plan.Command.{Command}
use Rattle.gl_lines.specs.declared.reply.Reply.{Reply}
use Rattle.spec_plans.specs.Plan.{origin}
use Rattle.spec_states.specs.State.{Own, State, source, over, composite, transaction, freezable, proxy, inputs, own_at, edges_of, dependency_order}
use Rattle.spec_states.specs.Shown.{Table, shows_in, shown_of, settle_one, settled, nothing_shown, table_of, shown}
use Rattle.spec_states.specs.Wave.{command, pump, Deltas, delta_in, wave_deltas, wave, kept_after, pumped, kept_later}
use Rattle.spec_states.specs.Step.{step, step_by, unmoved, too_long, first_longer}
use Rattle.spec_states.specs.Laws.{LeadOnFrom, IsSource, Fits, IsSound, Lead}
use Rattle.spec_runs.specs.Section.{state_after}
use Rattle.spec_runs.specs.Entry.{Deed, section, pumping, nothing, outcome, with_queued, queued_own, queued}
use Rattle.spec_runs.specs.Kinds.{kind_of, KeepsKinds}
use Rattle.spec_runs.specs.Laws.{applied_all}
use Rattle.spec_runs.proofs.KeptKinds.{step_keeps, kept_edges, kept_order, own_at_queued, queued_keeps}
use Rattle.spec_runs.proofs.Identities.{identity_stays}
use Rattle.spec_states.proofs.DependencyOrder.{input_within}
use Rattle.spec_states.proofs.Views.{own_at_wave, length-table_of}

-- ---- queueing changes nothing that is shown

queued_shown : (delta : ℕ → Delta) (own : Own) (shows : ℕ → List Tree)
    → shown_of (queued_own delta own) shows ≡ shown_of own shows
queued_shown delta (proxy input kept queue) shows = refl
queued_shown delta other shows = refl

same_nothing : (s : State) (f : Own → Own) → nothing_shown (map f s) ≡ nothing_shown s
same_nothing [] f = refl
same_nothing (own ∷ s) f = ap (λ t. [] ∷ t) (same_nothing s f)

same_settled : (deltas : Deltas) (s : State) (t : Table) (lists : List ℕ)
    → settled (queued deltas s) t lists ≡ settled s t lists
same_settled deltas s t [] = refl
same_settled deltas s t (list ∷ lists) =
    same_settled deltas s (settle_one (queued deltas s) t list) lists
    ∙ ap (λ u. settled s u lists) (ap (slice_set t list)
    (ap (λ own. shown_of own (shows_in t)) (own_at_queued deltas s list)
    ∙ queued_shown (delta_in deltas) (own_at s list) (shows_in t)))

pub queued_table : (deltas : Deltas) (s : State) → table_of (queued deltas s) ≡ table_of s
queued_table deltas s =
    ap (λ t. settled (queued deltas s) t (dependency_order (queued deltas s))) (same_nothing s (queued_own (delta_in deltas)))
    ∙ ap (settled (queued deltas s) (nothing_shown s)) (kept_order s (queued deltas s) (queued_keeps deltas s))
    ∙ same_settled deltas s (nothing_shown s) (dependency_order s)

pub queued_shows : (deltas : Deltas) (s : State) (list : ℕ)
    → shown (queued deltas s) list ≡ shown s list
queued_shows deltas s list = ap (λ t. shows_in t list) (queued_table deltas s)

pub queued_within : (limit : ℕ) (deltas : Deltas) (s : State)
    → too_long limit (queued deltas s) ≡ too_long limit s
queued_within limit deltas s =
    ap (λ t. first_longer limit t (dependency_order (queued deltas s))) (queued_table deltas s)
    ∙ ap (first_longer limit (table_of s)) (kept_order s (queued deltas s) (queued_keeps deltas s))

-- ---- one delta more in a queue

-- what is queued leads from one list to another
pub record Queued (queue : List Delta) (xs ys : List Tree) : Type 0 where
  pub leads : LeadOnFrom queue xs
  pub reaches : applied_all queue xs ≡ ys

push_leads : (queue : List Delta) (d : Delta) (xs : List Tree) → LeadOnFrom queue xs
    → LeadsFrom d (applied_all queue xs) → IsNormal d → LeadOnFrom (queue ++ d ∷ []) xs
push_leads [] d xs h from normal = (from, normal, tt)
push_leads (q ∷ queue) d xs h from normal = (h.0, h.1, push_leads queue d (applied q xs) h.2 from normal)

push_reaches : (queue : List Delta) (d : Delta) (xs : List Tree)
    → applied_all (queue ++ d ∷ []) xs ≡ applied d (applied_all queue xs)
push_reaches [] d xs = refl
push_reaches (q ∷ queue) d xs = push_reaches queue d (applied q xs)

pub queued_on : (queue : List Delta) (d : Delta) (xs ys zs : List Tree) → Queued queue xs ys
    → IsDelta d ys zs → IsNormal d → Queued (with_queued d queue) xs zs
queued_on queue d xs ys zs q h normal = by_case (is_identity d) refl
  where
    by_case : (b : Bool) → is_identity d ≡ b → Queued (cond b queue (queue ++ d ∷ [])) xs zs
    by_case true e = record { leads = q.leads; reaches = q.reaches ∙ sym (identity_stays d ys zs h e) }
    by_case false e = record {
      leads = push_leads queue d xs q.leads (subst (LeadsFrom d) (sym q.reaches) h.starts) normal;
      reaches = push_reaches queue d xs ∙ ap (applied d) q.reaches ∙ sym h.ends;
    }

-- ---- what stays of proxies within an entry

-- what is said of a proxy by its input, by what it shows and by what it is yet to take
abbrev pub Said : Type 1
Said = ℕ → List Tree → List Delta → Type 0

abbrev pub OfProxy : Said → Own → Type 0
OfProxy said (proxy input kept queue) = said input kept queue
OfProxy said other = ⊤

-- what is said of each proxy of a state is said of it in another
abbrev pub SaidStill : Said → State → State → Type 0
SaidStill said s t = (list : ℕ) → list < length s → OfProxy said (own_at s list) → OfProxy said (own_at t list)

-- what is said of a proxy is said of it once it has taken the first delta of its queue
abbrev pub StaysPumped : Said → Type 0
StaysPumped said = (input : ℕ) (kept : List Tree) (d : Delta) (queue : List Delta) → said input kept (d ∷ queue)
    → said input (applied d kept) queue

kept_said : (said : Said) (c : Command) (shows : ℕ → List Tree) (own : Own) → OfProxy said own
    → OfProxy said (kept_after c shows own)
kept_said said c shows (proxy input kept queue) h = h
kept_said said c shows (source contents) h = tt
kept_said said c shows (over input view) h = tt
kept_said said c shows (composite needed members) h = tt
kept_said said c shows (transaction input levels) h = tt
kept_said said c shows (freezable input since) h = tt

later_said : (said : Said) (list : ℕ) (own : Own) (delta : ℕ → Delta) → OfProxy said own
    → OfProxy said (kept_later list own delta)
later_said said list (proxy input kept queue) delta h = h
later_said said list (source contents) delta h = tt
later_said said list (over input view) delta h = tt
later_said said list (composite needed members) delta h = tt
later_said said list (transaction input []) delta h = tt
later_said said list (transaction input (level ∷ levels)) delta h = tt
later_said said list (freezable input None) delta h = tt
later_said said list (freezable input (Some since)) delta h = tt

pumped_said : (said : Said) (own : Own) → StaysPumped said → OfProxy said own
    → OfProxy said (pumped own)
pumped_said said (proxy input kept []) stays h =
    subst (λ xs. said input xs []) (sym (applied_no_change kept)) h
pumped_said said (proxy input kept (d ∷ queue)) stays h = stays input kept d queue h
pumped_said said (source contents) stays h = tt
pumped_said said (over input view) stays h = tt
pumped_said said (composite needed members) stays h = tt
pumped_said said (transaction input levels) stays h = tt
pumped_said said (freezable input since) stays h = tt

-- a command's wave leaves proxies as they are
pub command_said : (said : Said) (s : State) (c : Command) → SaidStill said s (wave s (command c))
command_said said s c list within h =
    subst (OfProxy said) (sym (own_at_wave s (command c) list within)) (by_subject (eqb list (origin c)))
  where
    by_subject : (b : Bool) → OfProxy said (cond b (kept_after c (shown s) (own_at s list))
        (kept_later list (own_at s list) (delta_in (wave_deltas s (command c)))))
    by_subject true = kept_said said c (shown s) (own_at s list) h
    by_subject false = later_said said list (own_at s list) (delta_in (wave_deltas s (command c))) h

-- a pump leaves them but for its own
pub pump_said : (said : Said) (s : State) (number : ℕ) → StaysPumped said
    → SaidStill said s (wave s (pump number))
pump_said said s number stays list within h =
    subst (OfProxy said) (sym (own_at_wave s (pump number) list within)) (by_subject (eqb list number))
  where
    by_subject : (b : Bool) → OfProxy said (cond b (pumped (own_at s list))
        (kept_later list (own_at s list) (delta_in (wave_deltas s (pump number)))))
    by_subject true = pumped_said said (own_at s list) stays h
    by_subject false = later_said said list (own_at s list) (delta_in (wave_deltas s (pump number))) h

-- a step and a section leave proxies as they are
pub step_said : (said : Said) (limit : ℕ) (s : State) (c : Command)
    → SaidStill said s (step limit s c).state
step_said said limit s c = by_reply (unmoved limit s c)
  where
    by_reply : (r : Option Reply) → SaidStill said s (step_by r s c).state
    by_reply (Some reply) list within h = h
    by_reply None list within h = command_said said s c list within h

pub after_said : (said : Said) (limit : ℕ) (s : State) (cs : List Command)
    → SaidStill said s (state_after limit s cs)
after_said said limit s [] list within h = h
after_said said limit s (c ∷ cs) list within h =
    let keeps = step_keeps limit s c in
    after_said said limit (step limit s c).state cs list (omega (arith, keeps.long, within))
    (step_said said limit s c list within h)

pub outcome_said : (said : Said) (limit : ℕ) (s : State) (deed : Deed) → StaysPumped said
    → SaidStill said s (outcome limit s deed).state
outcome_said said limit s (section commands) stays list within h = after_said said limit s commands list within h
outcome_said said limit s (pumping list) stays k within h = pump_said said s list stays k within h
outcome_said said limit s nothing stays list within h = h

-- ---- proxies between entries

-- what a proxy is yet to take leads to what its input shows
abbrev pub reaches : (ℕ → List Tree) → Said
reaches shows input kept queue = applied_all queue kept ≡ shows input

abbrev pub Reaches : (ℕ → List Tree) → Own → Type 0
Reaches shows own = OfProxy (reaches shows) own

-- a sound state in which each proxy's queue reaches what its input shows
pub record IsAtRest (s : State) : Type 0 where
  pub sound : IsSound s
  pub reaches : (list : ℕ) → list < length s → Reaches (shown s) (own_at s list)

-- ---- at the end of an entry

source_kind : (own : Own) → IsSource own ↔ IsSource (kind_of own)
source_kind (source contents) = ((λ m. tt), (λ m. tt))
source_kind (over input view) = ((λ m. m), (λ m. m))
source_kind (composite needed members) = ((λ m. m), (λ m. m))
source_kind (transaction input levels) = ((λ m. m), (λ m. m))
source_kind (freezable input since) = ((λ m. m), (λ m. m))
source_kind (proxy input kept queue) = ((λ m. m), (λ m. m))

pub is_source_kept : (s t : State) (list : ℕ) → KeepsKinds s t → IsSource (own_at s list)
    → IsSource (own_at t list)
is_source_kept s t list h is =
    (source_kind (own_at t list)).1 (subst IsSource (sym (h.kinds list)) ((source_kind (own_at s list)).0 is))

-- a list of the state at the end, by what it keeps before the deltas are queued
record Ends (t : State) (own : Own) : Type 0 where
  fits : Fits t own
  reaches : Reaches (shown t) own

-- The state in which an entry's deltas are queued is at rest, where the deltas lead there from what was shown when the proxies'
-- queues reached what their inputs showed.
pub queued_rests : (before : Table) (deltas : Deltas) (s : State) → IsSound s
    → Lead deltas before (table_of s)
    → ((list : ℕ) → list < length s → Reaches (shows_in before) (own_at s list))
    → IsAtRest (queued deltas s)
queued_rests before deltas s h lead reach = record {
  sound = record {
    ordered = record {
      within = rw (long, edges) h.ordered.within;
      acyclic = rw edges h.ordered.acyclic;
    };
    fits = λ list within. (ends list (omega (arith, long, within))).fits;
  };
  reaches = λ list within. (ends list (omega (arith, long, within))).reaches;
}
  where
    t : State
    t = queued deltas s

    keeps : KeepsKinds s t
    keeps = queued_keeps deltas s

    long : length t ≡ length s
    long = keeps.long

    edges : edges_of t ≡ edges_of s
    edges = kept_edges s t keeps

    shows : (list : ℕ) → shown t list ≡ shown s list
    shows list = queued_shows deltas s list

    at_end : (list : ℕ) → list < length s → (own : Own) → own_at s list ≡ own → Fits s own
        → Reaches (shows_in before) own → Ends t (queued_own (delta_in deltas) own)
    at_end list within (source contents) e fits r = record { fits = tt; reaches = tt }
    at_end list within (over input view) e fits r = record { fits = tt; reaches = tt }
    at_end list within (composite needed members) e fits r = record { fits = fits; reaches = tt }
    at_end list within (transaction input levels) e fits r = record {
      fits = (is_source_kept s t input keeps fits.0, rw (shows input) fits.1);
      reaches = tt;
    }
    at_end list within (freezable input since) e fits r = record { fits = rw (shows input) fits; reaches = tt }
    at_end list within (proxy input kept queue) e fits r =
        let there : input < length s =
        input_within s h.ordered list input (subst (λ own. Contains (inputs own) input) (sym e)
        (Contains-here input [] input refl)) in
        let row : input < length before = omega (arith, lead.same, length-table_of s, there) in
        let d : Delta = delta_in deltas input in
        let more : Queued (with_queued d queue) kept (shown s input) =
        queued_on queue d kept (shows_in before input) (shown s input) (record { leads = fits; reaches = r })
        (lead.each input row) (lead.normal input row) in
        record { fits = more.leads; reaches = more.reaches ∙ sym (shows input) }

    ends : (list : ℕ) → list < length s → Ends t (own_at t list)
    ends list within =
        subst (Ends t) (sym (own_at_queued deltas s list))
        (at_end list within (own_at s list) refl (h.fits list within) (reach list within))
