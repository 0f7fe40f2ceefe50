-- Each list of the state that a plan opens with shows what its views say, and the state is sound.
use Rattle.std.proofs.Common.{◌≡◌, ◌∙◌, ℕ, zero, suc, ◌<◌, List, [], ◌∷◌, ◌++◌, length, map, refl, ap, sym, subst}
use Rattle.std.specs.Prelude.{Option, Some, None, slice_get}
use Rattle.std.specs.List.{Contains, All, AllByRecursion}
use Rattle.std.proofs.lemmas.List.{length-map}
use Rattle.std.proofs.lemmas.List.Elements.{All-from_recursion, Contains-append_left}
use Rattle.spec_order.specs.Edges.{AreWithin}
use Rattle.spec_order.specs.Cycle.{HasCycle}
use Rattle.spec_order.proofs.Members.{Contains-here, Contains-later}
use Rattle.spec_value.specs.Tree.{Tree}
use Rattle.spec_lists.specs.Delta.{Delta}
use Rattle.spec_views.specs.View.{filter, sorted, unique, grouping, range, function, collection}
use Rattle.gl_lines.specs.declared.plan.ListDecl.{ListDecl}
use Rattle.gl_lines.specs.declared.plan.ListKind.{ListKind}
use Rattle.gl_lines.specs.declared.plan.ListKind.TheVariants.{Source, Filter, Sorted, Unique, Grouping, Range, Function, Collection, Composite, Transaction, Freezable, Proxy}
use Rattle.spec_plans.specs.Plan.{Plan, list_edges}
use Rattle.spec_states.specs.State.{Own, State, source, over, composite, transaction, freezable, proxy, inputs, own_at, edges_of, opening_of}
use Rattle.spec_states.specs.Shown.{shown_of, shown}
use Rattle.spec_states.specs.Opening.{seen_through, shown_first, opening}
use Rattle.spec_states.specs.Laws.{IsOrdered, IsSource, IsSound}
use Rattle.spec_states.proofs.DependencyOrder.{by_inputs, input_within}
use Rattle.spec_states.proofs.Views.{Inward, shown_local, shown_in, opening_edges, seen_edges}
use Rattle.spec_states.proofs.Kept.{FitsOver}
use Rattle.spec_states.proofs.Waves.{OverSource, fits_from}

-- what a list opens with, beside what it is where proxies are seen through, and where this is what every list then shows
record OpensAs (shows : ℕ → List Tree) (own seen : Own) : Type 0 where
  pub inward : Inward own
  pub inward_seen : Inward seen
  pub same : (now : ℕ → List Tree) → ((i : ℕ) → Contains (inputs own) i → now i ≡ shows i)
      → shown_of own now ≡ shown_of seen shows
  pub fits : (now : ℕ → List Tree) → FitsOver now own

by_each : {X : Type 0} (P : X → Type 0) (xs : List X) → ((x : X) → Contains xs x → P x)
    → AllByRecursion P xs
by_each P [] h = tt
by_each P (x ∷ xs) h = (h x (Contains-here x xs x refl), by_each P xs (λ y d. h y (Contains-later x xs y d)))

members_among : (members may : List ℕ) → All (λ m. Contains (members ++ may) m) members
members_among members may =
    All-from_recursion (λ m. Contains (members ++ may) m) members (by_each (λ m. Contains (members ++ may) m) members (λ m d. Contains-append_left members may m d))

opens_kind : (shows : ℕ → List Tree) (kind : ListKind)
    → OpensAs shows (opening_of shows kind) (seen_through kind)
opens_kind shows (Source rows) = record { inward = tt; inward_seen = tt; same = λ now e. shown_local (source rows) (tt) now shows e; fits = λ now. tt }
opens_kind shows (Filter input matcher) = record { inward = tt; inward_seen = tt; same = λ now e. shown_local (over input (filter matcher)) (tt) now shows e; fits = λ now. tt }
opens_kind shows (Sorted input order) = record { inward = tt; inward_seen = tt; same = λ now e. shown_local (over input (sorted order)) (tt) now shows e; fits = λ now. tt }
opens_kind shows (Unique input order) = record { inward = tt; inward_seen = tt; same = λ now e. shown_local (over input (unique order)) (tt) now shows e; fits = λ now. tt }
opens_kind shows (Grouping input order) = record { inward = tt; inward_seen = tt; same = λ now e. shown_local (over input (grouping order)) (tt) now shows e; fits = λ now. tt }
opens_kind shows (Range input bounds) = record { inward = tt; inward_seen = tt; same = λ now e. shown_local (over input (range bounds)) (tt) now shows e; fits = λ now. tt }
opens_kind shows (Function input func) = record { inward = tt; inward_seen = tt; same = λ now e. shown_local (over input (function func)) (tt) now shows e; fits = λ now. tt }
opens_kind shows (Collection input kids) = record { inward = tt; inward_seen = tt; same = λ now e. shown_local (over input (collection kids)) (tt) now shows e; fits = λ now. tt }
opens_kind shows (Composite members may) = record { inward = members_among members may; inward_seen = members_among members may; same = λ now e. shown_local (composite (members ++ may) members) (members_among members may) now shows e; fits = λ now. tt }
opens_kind shows (Transaction input) = record { inward = tt; inward_seen = tt; same = λ now e. shown_local (transaction input []) (tt) now shows e; fits = λ now. tt }
opens_kind shows (Freezable input) = record { inward = tt; inward_seen = tt; same = λ now e. shown_local (freezable input None) (tt) now shows e; fits = λ now. tt }
opens_kind shows (Proxy input) = record { inward = tt; inward_seen = tt; same = λ now e. refl; fits = λ now. tt }

-- the lists of a plan, as they open and as they are where proxies are seen through
abbrev opened : (ℕ → List Tree) → List ListDecl → State
opened shows ds = map (λ d. opening_of shows d.kind) ds

abbrev seen : List ListDecl → State
seen ds = map (λ d. seen_through d.kind) ds

opens_at : (shows : ℕ → List Tree) (ds : List ListDecl) (list : ℕ)
    → OpensAs shows (own_at (opened shows ds) list) (own_at (seen ds) list)
opens_at shows [] list = record { inward = tt; inward_seen = tt; same = λ now e. refl; fits = λ now. tt }
opens_at shows (d ∷ ds) zero = opens_kind shows d.kind
opens_at shows (d ∷ ds) (suc list) = opens_at shows ds list

pub length-opening : (p : Plan) → length (opening p) ≡ length p.lists
length-opening p = length-map p.lists (λ d. opening_of (shown_first p) d.kind)

pub opening_ordered : (p : Plan) → AreWithin (length p.lists) (list_edges p)
    → ¬ HasCycle (list_edges p) → IsOrdered (opening p)
opening_ordered p within acyclic = record { within = rw (opening_edges p, length-opening p) within; acyclic = rw (opening_edges p) acyclic }

seen_ordered : (p : Plan) → IsOrdered (opening p) → IsOrdered (seen p.lists)
seen_ordered p h =
    let edges : edges_of (seen p.lists) ≡ edges_of (opening p) = seen_edges p ∙ sym (opening_edges p) in
    let long : length (seen p.lists) ≡ length (opening p) = length-map p.lists (λ d. seen_through d.kind) ∙ sym (length-opening p) in
    record { within = rw (edges, long) h.within; acyclic = rw edges h.acyclic }

-- each list of the opening state shows what the plan's lists do where proxies are seen through
pub opening_shows : (p : Plan) → IsOrdered (opening p) → (list : ℕ) → list < length p.lists
    → shown (opening p) list ≡ shown_first p list
opening_shows p h list within = by_inputs (opening p) h (λ k. shown (opening p) k ≡ shown_first p k) next list (subst (λ n. list < n) (sym (length-opening p)) within)
  where
    next : (k : ℕ) → k < length (opening p)
        → ((i : ℕ) → Contains (inputs (own_at (opening p) k)) i → shown (opening p) i ≡ shown_first p i)
        → shown (opening p) k ≡ shown_first p k
    next k there same =
        let long : length (opening p) ≡ length (seen p.lists) = length-opening p ∙ sym (length-map p.lists (λ d. seen_through d.kind)) in
        shown_in (opening p) h (λ i. (opens_at (shown_first p) p.lists i).inward) k there
        ∙ (opens_at (shown_first p) p.lists k).same (shown (opening p)) same
        ∙ sym (shown_in (seen p.lists) (seen_ordered p h) (λ i. (opens_at (shown_first p) p.lists i).inward_seen) k (subst (λ n. k < n) long there))

proxy_kept : (shows : ℕ → List Tree) (kind : ListKind) (input : ℕ) (kept : List Tree) (queue : List Delta)
    → opening_of shows kind ≡ proxy input kept queue → kept ≡ shows input
proxy_kept shows (Source rows) i kept queue e = absurd cc
proxy_kept shows (Filter input matcher) i kept queue e = absurd cc
proxy_kept shows (Sorted input order) i kept queue e = absurd cc
proxy_kept shows (Unique input order) i kept queue e = absurd cc
proxy_kept shows (Grouping input order) i kept queue e = absurd cc
proxy_kept shows (Range input bounds) i kept queue e = absurd cc
proxy_kept shows (Function input func) i kept queue e = absurd cc
proxy_kept shows (Collection input kids) i kept queue e = absurd cc
proxy_kept shows (Composite members may) i kept queue e = absurd cc
proxy_kept shows (Transaction input) i kept queue e = absurd cc
proxy_kept shows (Freezable input) i kept queue e = absurd cc
proxy_kept shows (Proxy input) i kept queue e = cc

proxy_kept_at : (shows : ℕ → List Tree) (ds : List ListDecl) (list input : ℕ) (kept : List Tree) (queue : List Delta)
    → own_at (opened shows ds) list ≡ proxy input kept queue → kept ≡ shows input
proxy_kept_at shows [] list input kept queue e = absurd cc
proxy_kept_at shows (d ∷ ds) zero input kept queue e = proxy_kept shows d.kind input kept queue e
proxy_kept_at shows (d ∷ ds) (suc list) input kept queue e = proxy_kept_at shows ds list input kept queue e

-- a proxy opens with what its input shows
pub proxy_opens : (p : Plan) → IsOrdered (opening p)
    → (list input : ℕ) (kept : List Tree) (queue : List Delta) → list < length p.lists
    → own_at (opening p) list ≡ proxy input kept queue
    → shown (opening p) list ≡ shown (opening p) input
proxy_opens p h list input kept queue within e =
    let needs : Contains (inputs (own_at (opening p) list)) input = subst (λ o. Contains (inputs o) input) (sym e) (Contains-here input [] input refl) in
    shown_in (opening p) h (λ i. (opens_at (shown_first p) p.lists i).inward) list (subst (λ n. list < n) (sym (length-opening p)) within)
    ∙ ap (λ o. shown_of o (shown (opening p))) e ∙ proxy_kept_at (shown_first p) p.lists list input kept queue e
    ∙ sym (opening_shows p h input (subst (λ n. input < n) (length-opening p) (input_within (opening p) h list input needs)))

-- the opening state is sound, where each transaction list is over a source
pub opening_sound : (p : Plan) → IsOrdered (opening p)
    → ((list : ℕ) → OverSource (opening p) (own_at (opening p) list)) → IsSound (opening p)
opening_sound p h below = record {
  ordered = h;
  fits = λ list within.
      fits_from (opening p) (own_at (opening p) list) ((opens_at (shown_first p) p.lists list).fits (shown (opening p))) (opens_at (shown_first p) p.lists list).inward (below list);
}

transaction_kind : (shows : ℕ → List Tree) (kind : ListKind) (input : ℕ) (levels : List Delta)
    → opening_of shows kind ≡ transaction input levels → kind ≡ Transaction input
transaction_kind shows (Source rows) i levels e = absurd cc
transaction_kind shows (Filter input matcher) i levels e = absurd cc
transaction_kind shows (Sorted input order) i levels e = absurd cc
transaction_kind shows (Unique input order) i levels e = absurd cc
transaction_kind shows (Grouping input order) i levels e = absurd cc
transaction_kind shows (Range input bounds) i levels e = absurd cc
transaction_kind shows (Function input func) i levels e = absurd cc
transaction_kind shows (Collection input kids) i levels e = absurd cc
transaction_kind shows (Composite members may) i levels e = absurd cc
transaction_kind shows (Transaction input) i levels e = cc
transaction_kind shows (Freezable input) i levels e = absurd cc
transaction_kind shows (Proxy input) i levels e = absurd cc

transaction_declared : (shows : ℕ → List Tree) (ds : List ListDecl) (list input : ℕ) (levels : List Delta)
    → own_at (opened shows ds) list ≡ transaction input levels
    → (d : ListDecl) × (slice_get ds list ≡ Some d) × (d.kind ≡ Transaction input)
transaction_declared shows [] list input levels e = absurd cc
transaction_declared shows (d ∷ ds) zero input levels e = (d, refl, transaction_kind shows d.kind input levels e)
transaction_declared shows (d ∷ ds) (suc list) input levels e = transaction_declared shows ds list input levels e

source_declared : (shows : ℕ → List Tree) (ds : List ListDecl) (list : ℕ) (d : ListDecl) (rows : List Tree)
    → slice_get ds list ≡ Some d → d.kind ≡ Source rows → IsSource (own_at (opened shows ds) list)
source_declared shows [] list d rows e f = tt
source_declared shows (x ∷ ds) zero d rows e f =
    let P : ListKind → Type 0 = λ kind. IsSource (opening_of shows kind) in
    let same : x.kind ≡ d.kind = first_kind x d e in
    subst P (sym (same ∙ f)) tt
  where
    first_kind : (x d : ListDecl) → Some x ≡ Some d → x.kind ≡ d.kind
    first_kind x d e = cc
source_declared shows (x ∷ ds) (suc list) d rows e f = source_declared shows ds list d rows e f

-- how a list of a plan is declared
abbrev pub declaration_at : Plan → ℕ → Option ListDecl
declaration_at p list = slice_get p.lists list

-- each transaction list is over a source where the plan declares it over one
pub over_sources : (p : Plan)
    → ((list : ℕ) (d : ListDecl) (input : ℕ) → declaration_at p list ≡ Some d → d.kind ≡ Transaction input → (e : ListDecl) × (rows : List Tree) × (declaration_at p input ≡ Some e) × (e.kind ≡ Source rows))
    → (list : ℕ) → OverSource (opening p) (own_at (opening p) list)
over_sources p declared list = by_own (own_at (opening p) list) refl
  where
    by_own : (own : Own) → own_at (opening p) list ≡ own → OverSource (opening p) own
    by_own (source contents) e = tt
    by_own (over input view) e = tt
    by_own (composite needed members) e = tt
    by_own (transaction input levels) e =
        let of = transaction_declared (shown_first p) p.lists list input levels e in
        let d = declared list of.0 input of.1 of.2 in
        source_declared (shown_first p) p.lists input d.0 d.1 d.2 d.3
    by_own (freezable input since) e = tt
    by_own (proxy input kept queue) e = tt
