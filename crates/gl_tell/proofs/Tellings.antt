-- What one listener is told.
use Rattle.std.proofs.Common.{◌≡◌, ◌≢◌, ◌∙◌, ℕ, zero, suc, ◌<◌, ◌++◌, List, [], ◌∷◌, length, get_or, refl, ap, sym, arith, append-nil, eq-eqb}
use Rattle.std.specs.Prelude.{All, Bool, Option, Some, None, slice_index_or}
use Rattle.std.proofs.lemmas.Bool.{ne_eqb}
use Rattle.std.proofs.lemmas.List.{map-append}
use Rattle.std.proofs.lemmas.List.Elements.{All-append, All-cons, All-nil}
use Rattle.spec_states.specs.Delta.{Delta}
use Rattle.spec_states.specs.Changes.{changed_len}
use Rattle.spec_states.specs.ListenerDecl.{ListenerDecl}
use Rattle.gl_delta.specs.Model.{DeltaModel}
use Rattle.spec_runs.specs.Telling.{Telling as TellingData, attempts, telling_of}
use Rattle.gl_tell.specs.declared.telling.Telling.{Telling}
use Rattle.gl_tell.specs.Told.{telling_data, tellings_of, IsFresh}
use Rattle.gl_tell.specs.Heard.{is_echo, told_if, heard_one}

-- an identity is told to nobody
pub told_identity : (place k : ℕ) (echo : Bool) (delta : Delta) (sofar : List TellingData) → changed_len delta ≡ 0
    → sofar ≡ sofar ++ telling_of place k echo delta
told_identity place k echo delta sofar none =
    let told : telling_of place k echo delta ≡ [] = rw (eq-eqb (changed_len delta) 0 none) refl in
    sym (ap (λ ts. sofar ++ ts) told ∙ append-nil sofar)

-- every other delta is
pub told_change : (place k : ℕ) (echo : Bool) (delta : Delta) (ts : List Telling) (t : Telling) → changed_len delta ≢ 0
    → t.listener ≡ k → t.place ≡ place → t.event.pieces ≡ delta → t.write_backs ≡ attempts echo
    → tellings_of (ts ++ t ∷ []) ≡ tellings_of ts ++ telling_of place k echo delta
told_change place k echo delta ts t some listener_is position_is delta_is backs_is =
    let told : telling_of place k echo delta
    ≡ record { listener = k; place = place; delta = delta; write_backs = attempts echo } ∷ [] =
    rw (ne_eqb (changed_len delta) 0 some) refl in
    map-append telling_data ts (t ∷ []) ∙ ap (λ us. tellings_of ts ++ us) (same ∙ sym told)
  where
    same : telling_data t ∷ [] ≡ record { listener = k; place = place; delta = delta; write_backs = attempts echo } ∷ []
    same = rw (← listener_is, ← position_is, ← delta_is, ← backs_is) refl

-- and what it is told stands with what was told before, none of it given yet
pub fresh_more : (ts : List Telling) (t : Telling) → All IsFresh ts → t.event.given ≡ 0 → All IsFresh (ts ++ t ∷ [])
fresh_more ts t all fresh = All-append IsFresh ts (t ∷ []) all (All-cons IsFresh t [] fresh (All-nil IsFresh))

-- the declaration of a listener says whether it is an echo
pub echo_is : (listeners : List ListenerDecl) (k : ℕ) (d : ListenerDecl) → k < length listeners
    → d ≡ get_or listeners k d → is_echo listeners k ≡ d.echo
echo_is [] k d within is = absurd (omega (arith, within))
echo_is (e ∷ ds) zero d within is = ap (λ (l : ListenerDecl). l.echo) (sym is)
echo_is (e ∷ ds) (suc k) d within is = echo_is ds k d (omega (arith, within)) is

-- nothing is told where there is no delta
pub told_nothing : (listeners : List ListenerDecl) (place : ℕ) (heard : List (Option DeltaModel)) (k : ℕ)
    (sofar : List TellingData) → None ≡ slice_index_or heard k None
    → sofar ≡ sofar ++ heard_one listeners place heard k
told_nothing listeners place heard k sofar none =
    sym (ap (λ o. sofar ++ told_if place k (is_echo listeners k) o) (sym none) ∙ append-nil sofar)

-- else that delta is
pub told_delta : (listeners : List ListenerDecl) (place : ℕ) (heard : List (Option DeltaModel)) (k : ℕ) (echo : Bool)
    (delta : DeltaModel) (sofar after : List TellingData) → is_echo listeners k ≡ echo
    → Some delta ≡ slice_index_or heard k None → after ≡ sofar ++ telling_of place k echo delta.pieces
    → after ≡ sofar ++ heard_one listeners place heard k
told_delta listeners place heard k echo delta sofar after echoes some added =
    added
    ∙ ap (λ b. sofar ++ telling_of place k b delta.pieces) (sym echoes)
    ∙ ap (λ o. sofar ++ told_if place k (is_echo listeners k) o) some
