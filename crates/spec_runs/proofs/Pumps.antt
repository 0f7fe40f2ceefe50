-- A pump makes no list too long: what its proxy comes to show was never too long, and no composite and no collection depends on
-- a proxy.
use Rattle.std.proofs.Common.{◌≡◌, ◌⊎◌, ◌∙◌, ◌<◌, ◌≤◌, ◌+◌, ◌==◌, ℕ, zero, suc, Bool, true, false, cond, List, [], ◌∷◌, length, map, refl, ap, sym, subst, arith, inl, inr}
use Rattle.std.specs.Prelude.{Some, None, option_map, unwrap_or, slice_get}
use Rattle.std.specs.List.{Contains}
use Rattle.std.proofs.lemmas.Bool.{eqb-true, eqb-false}
use Rattle.std.proofs.lemmas.List.Elements.{All-contains}
use Rattle.std.proofs.lemmas.Option.{slice_get-map}
use Rattle.spec_plans.proofs.Prefixes.{prefix_below}
use Rattle.spec_plans.proofs.Members.{Contains-here}
use Rattle.spec_plans.specs.Edges.{DependsOn}
use Rattle.spec_value.specs.Tree.{Tree}
use Rattle.spec_lists.specs.Delta.{Delta, no_change}
use Rattle.spec_lists.specs.Leads.{IsDelta, applied}
use Rattle.spec_lists.proofs.DeltaLeads.{applied_no_change}
use Rattle.gl_lines.specs.declared.plan.ListDecl.{ListDecl}
use Rattle.gl_lines.specs.declared.plan.ListKind.{ListKind}
use Rattle.gl_lines.specs.declared.plan.ListKind.TheVariants as kinds
use Rattle.spec_plans.specs.declared.class.ListClass.{ListClass}
use Rattle.spec_plans.specs.declared.class.ListClass.TheVariants.{Collected, Pumped}
use Rattle.spec_plans.specs.NameFaults.{shuns_proxies}
use Rattle.spec_plans.specs.Plan.{Plan, inputs_of, list_edges, proxies_from, proxies_of}
use Rattle.spec_plans.specs.WellFormed.{class_of_kind, class_at, inputs_at, LeadsTo, IsWellFormed}
use Rattle.spec_plans.proofs.Walks.{needed_edge}
use Rattle.spec_views.specs.View.{View, filter, sorted, unique, grouping, range, function, collection, view_of}
use Rattle.spec_states.specs.State.{Own, State, source, over, composite, transaction, freezable, proxy, inputs, own_at, edges_of, dependency_order}
use Rattle.spec_states.specs.Shown.{is_held, shown_of, table_of, shown}
use Rattle.spec_states.specs.Opening.{opening, shown_first}
use Rattle.spec_states.specs.Wave.{pump, delta_in, wave_deltas, wave, delta_by, begun_with, follow, kept_later, pumped}
use Rattle.spec_states.specs.Step.{too_long}
use Rattle.spec_states.specs.Laws.{IsSound, Lead}
use Rattle.spec_states.proofs.DependencyOrder.{ordered, by_inputs}
use Rattle.spec_states.proofs.Views.{length-table_of, length-wave, own_at_wave, Inward, shown_is, shown_local, fits_inward}
use Rattle.spec_states.proofs.Told.{each_follows}
use Rattle.spec_states.proofs.Sound.{pump_sound}
use Rattle.spec_states.proofs.Waves.{pump_leads}
use Rattle.spec_states.proofs.Openings.{length-opening}
use Rattle.spec_runs.specs.Kinds.{class_of_view, class_of_own, KeepsKinds}
use Rattle.spec_runs.proofs.KeptKinds.{wave_keeps, inputs_kept, class_kept}
use Rattle.spec_runs.proofs.Queues.{Said, OfProxy, StaysPumped, pump_said}
use Rattle.spec_runs.proofs.Suits.{opening_at, opening_class, inputs_opening}
use Rattle.spec_runs.proofs.Ordered.{decl_at}
use Rattle.spec_runs.proofs.Lengths.{no_longer}
use Rattle.spec_runs.proofs.Within.{shown_few}
use Rattle.spec_states.proofs.Longer.{few_shown}

-- ---- what a proxy comes to show

-- the list that a proxy shows, and each that it comes to by its queue, has no more elements than the limit
abbrev pub NeverLong : ℕ → List Delta → List Tree → Type 0
NeverLong limit [] xs = length xs ≤ limit
NeverLong limit (d ∷ queue) xs = (length xs ≤ limit) × NeverLong limit queue (applied d xs)

abbrev pub short : ℕ → Said
short limit input kept queue = NeverLong limit queue kept

pub short_pumped : (limit : ℕ) → StaysPumped (short limit)
short_pumped limit input kept d queue h = h.1

pub short_now : (limit : ℕ) (queue : List Delta) (xs : List Tree) → NeverLong limit queue xs
    → length xs ≤ limit
short_now limit [] xs h = h
short_now limit (d ∷ queue) xs h = h.0

-- no list is too long, and no proxy comes to one that is
pub record IsFew (limit : ℕ) (s : State) : Type 0 where
  pub lists : too_long limit s ≡ None
  pub queues : (list : ℕ) → list < length s → OfProxy (short limit) (own_at s list)

-- ---- the proxies of a plan

-- the list of a number among proxies is a proxy
proxy_from : (number : ℕ) (ds : List ListDecl) (n list : ℕ)
    → slice_get (proxies_from number ds) n ≡ Some list
    → (k : ℕ) × (list ≡ number + k)
    × (option_map (λ d. class_of_kind d.kind) (slice_get ds k) ≡ Some Pumped)
proxy_from number [] n list e = absurd cc
proxy_from number (d ∷ ds) n list e = by_kind d.kind n (λ m later. proxy_from (suc number) ds m list later) e
  where
    by_kind : (kind : ListKind) (n : ℕ)
        → ((m : ℕ) → slice_get (proxies_from (suc number) ds) m ≡ Some list
        → (k : ℕ) × (list ≡ suc number + k) × (option_map (λ e. class_of_kind e.kind) (slice_get ds k) ≡ Some Pumped))
        → slice_get (proxies_from number (record { name = d.name; kind = kind } ∷ ds)) n ≡ Some list
        → (k : ℕ) × (list ≡ number + k)
        × (option_map (λ e. class_of_kind e.kind) (slice_get (record { name = d.name; kind = kind } ∷ ds) k) ≡ Some Pumped)
    by_kind (kinds.Proxy input) zero later e =
        let same : number ≡ list = cc in (0, omega (arith, same), refl)
    by_kind (kinds.Proxy input) (suc n) later e =
        let rest = later n e in (suc rest.0, omega (arith, rest.1), rest.2)
    by_kind other n later e =
        let rest = later n e in (suc rest.0, omega (arith, rest.1), rest.2)

pub proxy_at : (p : Plan) (n list : ℕ) → slice_get (proxies_of p) n ≡ Some list
    → class_at p list ≡ Some Pumped
proxy_at p n list e =
    let found = proxy_from 0 p.lists n list e in
    let same : found.0 ≡ list = omega (arith, found.1) in
    subst (λ k. class_at p k ≡ Some Pumped) same found.2

-- ---- a pump in a state of a run

-- the class of a list of the plan, by what it keeps in a state
pub class_in : (p : Plan) (s : State) → KeepsKinds (opening p) s → (k : ℕ) → k < length p.lists
    → class_at p k ≡ Some (class_of_own (own_at s k))
class_in p s keeps k within =
    let found : (d : ListDecl) × (slice_get p.lists k ≡ Some d) = decl_at p.lists k within in
    ap (option_map (λ d. class_of_kind d.kind)) found.1
    ∙ ap Some (sym (class_kept (opening p) s keeps k
    ∙ ap class_of_own (opening_at (shown_first p) p.lists k found.0 found.1)
    ∙ opening_class (shown_first p) found.0.kind))

-- a list depends on its inputs
pub edge : (p : Plan) (k i : ℕ) → Contains (inputs_at p k) i → DependsOn (list_edges p) k i
edge p k i c =
    needed_edge (map (λ (d : ListDecl). inputs_of d.kind) p.lists) k i
    (subst (λ o. Contains (unwrap_or o []) i) (sym (slice_get-map (λ (d : ListDecl). inputs_of d.kind) p.lists k)) c)

-- the list is the one of this number, or depends on it
abbrev Upon : Plan → ℕ → ℕ → Type 0
Upon p number k = (k ≡ number) ⊎ LeadsTo p k number

-- a list over one that is, or depends on it, depends on it
upon_input : (p : Plan) (number k i : ℕ) → Contains (inputs_at p k) i → Upon p number i
    → Upon p number k
upon_input p number k i c (inl same) =
    inr ([], subst (λ j. DependsOn (list_edges p) k j) same (edge p k i c))
upon_input p number k i c (inr walk) = inr (i ∷ walk.0, (edge p k i c, walk.1))

-- what a pump leaves of a list: it is no longer than the limit, and stays where it doesn't depend on the proxy
record Stands (p : Plan) (s : State) (number k : ℕ) : Type 0 where
  few : length (shown (wave s (pump number)) k) ≤ p.limit
  stays : ¬ Upon p number k → shown (wave s (pump number)) k ≡ shown s k

-- a state of a run, in which a proxy is pumped
record Pumps (p : Plan) (s : State) (number : ℕ) : Type 0 where
  formed : IsWellFormed p
  keeps : KeepsKinds (opening p) s
  sound : IsSound s
  few : IsFew p.limit s
  pumped : class_at p number ≡ Some Pumped

stays_same : (d : Delta) (xs ys : List Tree) → IsDelta d xs ys → d ≡ no_change (length xs) → ys ≡ xs
stays_same d xs ys h e = h.ends ∙ ap (λ c. applied c xs) e ∙ applied_no_change xs

-- what there is to say of a list that isn't the pumped one, and that keeps this
record Behind (p : Plan) (s : State) (number k : ℕ) (own : Own) : Type 0 where
  was : shown s k ≡ shown_of own (shown s)
  is : shown (wave s (pump number)) k
      ≡ shown_of (kept_later k own (delta_in (wave_deltas s (pump number)))) (shown (wave s (pump number)))
  low : length (shown s k) ≤ p.limit
  leads : IsDelta (delta_in (wave_deltas s (pump number)) k) (shown s k) (shown (wave s (pump number)) k)
  delta : delta_in (wave_deltas s (pump number)) k
      ≡ delta_by false (is_held own) (begun_with (pump number) (own_at s number) (shown s))
      (no_change (length (shown s k))) (follow own (shown s) (delta_in (wave_deltas s (pump number))))
  inward : Inward own
  stay : ¬ Upon p number k → (i : ℕ) → Contains (inputs own) i → shown (wave s (pump number)) i ≡ shown s i
  short : (i : ℕ) → Contains (inputs own) i → length (shown (wave s (pump number)) i) ≤ p.limit
  shun : shuns_proxies (class_of_own own) ≡ true → ¬ Upon p number k

-- a list that shows what it did
same_stands : (p : Plan) (s : State) (number k : ℕ) (own : Own) → Behind p s number k own
    → shown (wave s (pump number)) k ≡ shown s k → Stands p s number k
same_stands p s number k own h e =
    record { few = subst (λ xs. length xs ≤ p.limit) (sym e) h.low; stays = λ apart. e }

-- a list that is held, or has nothing to follow
still_stands : (p : Plan) (s : State) (number k : ℕ) (own : Own) → Behind p s number k own
    → delta_in (wave_deltas s (pump number)) k ≡ no_change (length (shown s k))
    → Stands p s number k
still_stands p s number k own h e =
    same_stands p s number k own h
    (stays_same (delta_in (wave_deltas s (pump number)) k) (shown s k) (shown (wave s (pump number)) k) h.leads e)

-- a list that shows what another does
through_stands : (p : Plan) (s : State) (number k input : ℕ) (own : Own) → Behind p s number k own
    → Contains (inputs own) input → shown s k ≡ shown s input
    → shown (wave s (pump number)) k ≡ shown (wave s (pump number)) input → Stands p s number k
through_stands p s number k input own h among was is = record {
  few = subst (λ xs. length xs ≤ p.limit) (sym is) (h.short input among);
  stays = λ apart. is ∙ h.stay apart input among ∙ sym was;
}

is_collected : (class : ListClass) → (class ≡ Collected) ⊎ (class ≡ Collected → ⊥)
is_collected Collected = inl refl
is_collected other = inr (λ e. absurd cc)

-- a list over one input
over_stands : (p : Plan) (s : State) (number k input : ℕ) (view : View)
    → Behind p s number k (over input view) → Stands p s number k
over_stands p s number k input view h = record { few = by_class (is_collected (class_of_view view)); stays = stays }
  where
    t : State
    t = wave s (pump number)

    among : Contains (input ∷ []) input
    among = Contains-here input [] input refl

    stays : ¬ Upon p number k → shown t k ≡ shown s k
    stays apart = h.is ∙ ap (view_of view) (h.stay apart input among) ∙ sym h.was

    by_class : (class_of_view view ≡ Collected) ⊎ (class_of_view view ≡ Collected → ⊥)
        → length (shown t k) ≤ p.limit
    by_class (inl same) =
        subst (λ xs. length xs ≤ p.limit) (sym (stays (h.shun (ap shuns_proxies same)))) h.low
    by_class (inr other) =
        let below : length (shown t input) ≤ p.limit = h.short input among in
        let fewer : length (view_of view (shown t input)) ≤ length (shown t input) =
        no_longer view (shown t input) other in
        subst (λ xs. length xs ≤ p.limit) (sym h.is) (omega (arith, below, fewer))

after_stands : (p : Plan) (s : State) (number k : ℕ) (own : Own) → Behind p s number k own
    → Stands p s number k
after_stands p s number k (source contents) h =
    still_stands p s number k (source contents) h (h.delta ∙ ap (λ xs. no_change (length xs)) (sym h.was))
after_stands p s number k (over input view) h = over_stands p s number k input view h
after_stands p s number k (composite needed members) h =
    same_stands p s number k (composite needed members) h
    (h.is ∙ shown_local (composite needed members) h.inward (shown (wave s (pump number))) (shown s)
    (h.stay (h.shun refl)) ∙ sym h.was)
after_stands p s number k (transaction input []) h =
    through_stands p s number k input (transaction input []) h (Contains-here input [] input refl) h.was h.is
after_stands p s number k (transaction input (level ∷ levels)) h =
    still_stands p s number k (transaction input (level ∷ levels)) h h.delta
after_stands p s number k (freezable input None) h =
    through_stands p s number k input (freezable input None) h (Contains-here input [] input refl) h.was h.is
after_stands p s number k (freezable input (Some since)) h =
    still_stands p s number k (freezable input (Some since)) h h.delta
after_stands p s number k (proxy input kept queue) h = still_stands p s number k (proxy input kept queue) h h.delta

no_view : (view : View) → class_of_view view ≡ Pumped → ⊥
no_view (filter matcher) e = absurd cc
no_view (sorted keys) e = absurd cc
no_view (unique keys) e = absurd cc
no_view (grouping keys) e = absurd cc
no_view (range bounds) e = absurd cc
no_view (function func) e = absurd cc
no_view (collection path) e = absurd cc

-- a proxy shows what it keeps, and that isn't too long
proxy_few : (limit : ℕ) (own : Own) (shows : ℕ → List Tree) → class_of_own own ≡ Pumped
    → OfProxy (short limit) own → length (shown_of own shows) ≤ limit
proxy_few limit (proxy input kept queue) shows e q = short_now limit queue kept q
proxy_few limit (source contents) shows e q = absurd cc
proxy_few limit (over input view) shows e q = absurd (no_view view e)
proxy_few limit (composite needed members) shows e q = absurd cc
proxy_few limit (transaction input levels) shows e q = absurd cc
proxy_few limit (freezable input since) shows e q = absurd cc

-- the pumped proxy
own_stands : (p : Plan) (s : State) (number k : ℕ) → Pumps p s number → k < length s → k ≡ number
    → Stands p s number k
own_stands p s number k h within same =
    let t : State = wave s (pump number) in
    let few : IsFew p.limit s = h.few in
    let keeps = h.keeps in
    let there : k < length p.lists = omega (arith, keeps.long, length-opening p, within) in
    let both : Some (class_of_own (own_at s k)) ≡ Some Pumped =
    sym (class_in p s h.keeps k there) ∙ ap (class_at p) same ∙ h.pumped in
    let class : class_of_own (own_at t k) ≡ Pumped = class_kept s t (wave_keeps s (pump number)) k ∙ cc in
    let is : shown t k ≡ shown_of (own_at t k) (shown t) =
    shown_is t (pump_sound s number h.sound) k (omega (arith, length-wave s (pump number), within)) in
    record {
      few = subst (λ xs. length xs ≤ p.limit) (sym is)
          (proxy_few p.limit (own_at t k) (shown t) class
          (pump_said (short p.limit) s number (short_pumped p.limit) k within (few.queues k within)));
      stays = λ apart. absurd (apart (inl same));
    }

-- any other list
other_stands : (p : Plan) (s : State) (number k : ℕ) → Pumps p s number → k < length s
    → (k ≡ number → ⊥) → (k == number) ≡ false
    → ((i : ℕ) → Contains (inputs (own_at s k)) i → Stands p s number i) → Stands p s number k
other_stands p s number k h within other test stand =
    after_stands p s number k (own_at s k) (record {
      was = shown_is s h.sound k within;
      is =
          shown_is t (pump_sound s number h.sound) k (omega (arith, length-wave s (pump number), within))
          ∙ ap (λ own. shown_of own (shown t)) (own_at_wave s (pump number) k within ∙ after (k == number) test);
      low = shown_few p.limit s k sound.ordered few.lists within;
      leads = lead.each k (omega (arith, length-table_of s, within));
      delta = each_follows s (pump number) k h.sound within ∙ by_test (k == number) test;
      inward = fits_inward s (own_at s k) (sound.fits k within);
      stay = λ apart i c.
          let needed : inputs (own_at s k) ≡ inputs_at p k =
          inputs_kept (opening p) s h.keeps k ∙ inputs_opening p k in
          (stand i c).stays (λ upon. apart (upon_input p number k i (subst (λ xs. Contains xs i) needed c) upon));
      short = λ i c. (stand i c).few;
      shun = λ shuns upon. shunning shuns upon;
    })
  where
    t : State
    t = wave s (pump number)

    sound : IsSound s
    sound = h.sound

    few : IsFew p.limit s
    few = h.few

    lead : Lead (wave_deltas s (pump number)) (table_of s) (table_of t)
    lead = pump_leads s number h.sound

    after : (b : Bool) → b ≡ false
        → cond b (pumped (own_at s k)) (kept_later k (own_at s k) (delta_in (wave_deltas s (pump number)))) ≡ kept_later k (own_at s k) (delta_in (wave_deltas s (pump number)))
    after true e = absurd cc
    after false e = refl

    by_test : (b : Bool) → b ≡ false
        → delta_by b (is_held (own_at s k)) (begun_with (pump number) (own_at s number) (shown s)) (no_change (length (shown s k))) (follow (own_at s k) (shown s) (delta_in (wave_deltas s (pump number)))) ≡ delta_by false (is_held (own_at s k)) (begun_with (pump number) (own_at s number) (shown s)) (no_change (length (shown s k))) (follow (own_at s k) (shown s) (delta_in (wave_deltas s (pump number))))
    by_test true e = absurd cc
    by_test false e = refl

    shunning : shuns_proxies (class_of_own (own_at s k)) ≡ true → ¬ Upon p number k
    shunning shuns (inl here) = other here
    shunning shuns (inr walk) =
        let keeps = h.keeps in
        let formed = h.formed in
        let there : k < length p.lists = omega (arith, keeps.long, length-opening p, within) in
        formed.no_proxies k number (ap (option_map shuns_proxies) (class_in p s h.keeps k there) ∙ ap Some shuns)
        h.pumped walk

each_stands : (p : Plan) (s : State) (number : ℕ) → Pumps p s number → (k : ℕ) → k < length s
    → Stands p s number k
each_stands p s number h k within =
    by_inputs s sound.ordered (Stands p s number)
    (λ j there stand. by_test j there stand (j == number) refl) k within
  where
    sound : IsSound s
    sound = h.sound

    by_test : (j : ℕ) → j < length s
        → ((i : ℕ) → Contains (inputs (own_at s j)) i → Stands p s number i) → (b : Bool)
        → (j == number) ≡ b → Stands p s number j
    by_test j there stand true e = own_stands p s number j h there (eqb-true j number e)
    by_test j there stand false e = other_stands p s number j h there (eqb-false j number e) e stand

-- after a pump no list is too long
pub pump_within : (p : Plan) (s : State) (number : ℕ) → IsWellFormed p → KeepsKinds (opening p) s
    → IsSound s → IsFew p.limit s → class_at p number ≡ Some Pumped
    → too_long p.limit (wave s (pump number)) ≡ None
pump_within p s number formed keeps sound few is_pumped =
    let t : State = wave s (pump number) in
    let h : Pumps p s number =
    record { formed = formed; keeps = keeps; sound = sound; few = few; pumped = is_pumped } in
    let order = ordered t (pump_sound s number sound).ordered in
    few_shown p.limit (table_of t) (dependency_order t) (λ list c.
    let within : list < length t =
    All-contains (λ k. k < length t) (dependency_order t) list (prefix_below (length t) (edges_of t) (dependency_order t) order.prefix) c in
    (each_stands p s number h list (omega (arith, length-wave s (pump number), within))).few)
