-- What listeners are told, one after another.
use Rattle.std.proofs.Common.{◌≡◌, ◌≢◌, ◌∙◌, ℕ, zero, suc, ◌+◌, ◌<◌, ◌≤◌, ◌++◌, List, [], ◌∷◌, length, flat_map, slice_set, drop, refl, ap, sym, arith, subst, append_assoc, get_or-set_other}
use Rattle.std.specs.Prelude.{Contains, Bool, Option, Some, None, slice_get, slice_index, slice_index_or}
use Rattle.std.specs.List.{AllByRecursion}
use Rattle.spec_plans.proofs.Members.{Contains-here, Contains-later, times, times_some, hit_same}
use Rattle.spec_states.specs.Delta.{Delta}
use Rattle.spec_states.specs.ListenerDecl.{ListenerDecl}
use Rattle.spec_states.specs.Plan.{Plan}
use Rattle.spec_states.specs.Wave.{Deltas, delta_in}
use Rattle.spec_runs.specs.Telling.{Telling as TellingData, telling_of, told_one, tellings, listener_dependency_order}
use Rattle.gl_delta.specs.Model.{DeltaModel}
use Rattle.gl_tell.specs.Heard.{IsFor, AreHeard, is_echo, told_if, heard_one, heard_all, AreOnce}

-- ---- one after another

-- the delta of one listener taken out, the others hear the same
others_hear : (listeners : List ListenerDecl) (place : ℕ) (heard : List (Option DeltaModel)) (k : ℕ) (ks : List ℕ)
    → ¬ Contains ks k
    → heard_all listeners place (slice_set heard k None) ks ≡ heard_all listeners place heard ks
others_hear listeners place heard k [] apart = refl
others_hear listeners place heard k (j ∷ ks) apart =
    let ne : j ≢ k = λ e. apart (Contains-here j ks k e) in
    let one : heard_one listeners place (slice_set heard k None) j ≡ heard_one listeners place heard j =
    ap (told_if place j (is_echo listeners j)) (get_or-set_other heard k j None None ne) in
    ap (λ ts. ts ++ heard_all listeners place (slice_set heard k None) ks) one
    ∙ ap (λ ts. heard_one listeners place heard j ++ ts)
    (others_hear listeners place heard k ks (λ c. apart (Contains-later j ks k c)))

-- the next of those that are left
pub next_of : (turn : List ℕ) (i : ℕ) → i < length turn → drop i turn ≡ slice_index turn i ∷ drop (i + 1) turn
next_of [] i within = absurd (omega (arith, within))
next_of (j ∷ turn) zero within = refl
next_of (j ∷ turn) (suc i) within =
    let e : suc i + 1 ≡ suc (i + 1) = omega arith in rw e (next_of turn i (omega (arith, within)))

-- one listener more is told
pub one_told : (listeners : List ListenerDecl) (place : ℕ) (heard : List (Option DeltaModel)) (turn : List ℕ) (i : ℕ)
    (sofar after whole : List TellingData) → i < length turn → AreOnce (drop i turn)
    → after ≡ sofar ++ heard_one listeners place heard (slice_index turn i)
    → sofar ++ heard_all listeners place heard (drop i turn) ≡ whole
    → after ++ heard_all listeners place (slice_set heard (slice_index turn i) None) (drop (i + 1) turn) ≡ whole
one_told listeners place heard turn i sofar after whole within once added before =
    let k : ℕ = slice_index turn i in
    let ks : List ℕ = drop (i + 1) turn in
    let next : drop i turn ≡ k ∷ ks = next_of turn i within in
    let apart : AreOnce (k ∷ ks) = subst AreOnce next once in
    ap (λ ts. after ++ ts) (others_hear listeners place heard k ks apart.0)
    ∙ ap (λ ts. ts ++ heard_all listeners place heard ks) added
    ∙ append_assoc sofar (heard_one listeners place heard k) (heard_all listeners place heard ks)
    ∙ ap (λ js. sofar ++ heard_all listeners place heard js) (sym next) ∙ before

pub once_more : (turn : List ℕ) (i : ℕ) → i < length turn → AreOnce (drop i turn) → AreOnce (drop (i + 1) turn)
once_more turn i within once =
    let both : AreOnce (slice_index turn i ∷ drop (i + 1) turn) = subst AreOnce (next_of turn i within) once in both.1

-- numbers of which none is there twice
pub once_of : (ks : List ℕ) → ((k : ℕ) → times k ks ≤ 1) → AreOnce ks
once_of [] few = tt
once_of (k ∷ ks) few = (
  λ there. absurd (omega (arith, few k, hit_same k k refl, times_some k ks there)),
  once_of ks (λ j. omega (arith, few j)),
)

-- ---- as the definitions have it

echo_of : (listeners : List ListenerDecl) (k : ℕ) (d : ListenerDecl) → slice_get listeners k ≡ Some d
    → is_echo listeners k ≡ d.echo
echo_of [] k d at = absurd cc
echo_of (e ∷ ds) zero d at = (let same : e ≡ d = cc in ap (λ (l : ListenerDecl). l.echo) same)
echo_of (e ∷ ds) (suc k) d at = echo_of ds k d at

told_as : (place k : ℕ) (echo : Bool) (delta : Delta) (o : Option DeltaModel) → IsFor delta o
    → told_if place k echo o ≡ telling_of place k echo delta
told_as place k echo delta None is =
    let told : telling_of place k echo delta ≡ [] = rw is refl in sym told
told_as place k echo delta (Some d) is = ap (telling_of place k echo) is

one_as : (p : Plan) (place : ℕ) (lists : Deltas) (heard : List (Option DeltaModel)) (k : ℕ) → AreHeard p lists heard
    → k < length p.listeners → heard_one p.listeners place heard k ≡ told_one p.listeners place lists k
one_as p place lists heard k are within = by_decl (slice_get p.listeners k) refl
  where
    by_decl : (o : Option ListenerDecl) → slice_get p.listeners k ≡ o
        → heard_one p.listeners place heard k ≡ told_one p.listeners place lists k
    by_decl None e = absurd (not_there p.listeners k within e)
      where
        not_there : (ds : List ListenerDecl) (j : ℕ) → j < length ds → slice_get ds j ≡ None → ⊥
        not_there [] j low none = absurd (omega (arith, low))
        not_there (d ∷ ds) zero low none = absurd cc
        not_there (d ∷ ds) (suc j) low none = not_there ds j (omega (arith, low)) none
    by_decl (Some d) e =
        let told : told_one p.listeners place lists k ≡ telling_of place k d.echo (delta_in lists d.list) =
        rw e refl in
        ap (λ b. told_if place k b (slice_index_or heard k None)) (echo_of p.listeners k d e)
        ∙ told_as place k d.echo (delta_in lists d.list) (slice_index_or heard k None) (are.each k d e)
        ∙ sym told

all_as : (p : Plan) (place : ℕ) (lists : Deltas) (heard : List (Option DeltaModel)) (turn : List ℕ)
    → AreHeard p lists heard → AllByRecursion (λ k. k < length p.listeners) turn
    → heard_all p.listeners place heard turn ≡ flat_map (told_one p.listeners place lists) turn
all_as p place lists heard [] are known = refl
all_as p place lists heard (k ∷ turn) are known =
    ap (λ ts. ts ++ heard_all p.listeners place heard turn) (one_as p place lists heard k are known.0)
    ∙ ap (λ ts. told_one p.listeners place lists k ++ ts) (all_as p place lists heard turn are known.1)

-- along the dependency order that is what they are told in an entry
pub told_in_turn : (p : Plan) (place : ℕ) (lists : Deltas) (heard : List (Option DeltaModel)) → AreHeard p lists heard
    → AllByRecursion (λ k. k < length p.listeners) (listener_dependency_order p)
    → heard_all p.listeners place heard (listener_dependency_order p) ≡ tellings p place lists
told_in_turn p place lists heard are known = all_as p place lists heard (listener_dependency_order p) are known
