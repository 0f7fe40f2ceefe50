-- Which part a list has in a wave: it is the source of a rollback, the one that the cause is about, or another.
use Rattle.std.proofs.Common.{◌≡◌, ◌≢◌, ℕ, List, refl, sym, subst}
use Rattle.std.specs.Prelude.{Option, Some, None, Result, Ok, Err, IfOk, IfErr}
use Rattle.spec_states.specs.Tree.{Tree}
use Rattle.gl_source.specs.Model.{DeltaModel}
use Rattle.spec_states.specs.State.{Own}
use Rattle.gl_graph.specs.declared.keeps.Keeps.{Keeps}
use Rattle.gl_graph.specs.declared.turned.Turned.{Turned}
use Rattle.gl_graph.specs.declared.rollback.Rollback.{Rollback}
use Rattle.gl_graph.specs.declared.graph.Refused.{Refused}
use Rattle.gl_graph.specs.Rollbacks.{IsSourceOf, IsDeltaFor}
use Rattle.gl_graph.specs.Spread.{IsSourceStep, IsStep, IsSourceStopped, IsOwnStopped, IsOtherStopped, IsStopped}
use Rattle.spec_states.specs.Wave.{Cause, subject}

-- the source
pub record IsSourceAt (list : ℕ) (rollback : Option Rollback) (d : DeltaModel) : Type 0 where
  pub back : Rollback
  pub is : rollback ≡ Some back
  pub list_is : list ≡ back.source
  pub delta_is : back.delta ≡ d

pub source_at : (list : ℕ) (rollback : Option Rollback) (d : DeltaModel) → IsDeltaFor list rollback (Some d) → IsSourceAt list rollback d
source_at list None d h = absurd h
source_at list (Some back) d h = record { back = back; is = refl; list_is = h.0; delta_is = sym h.1 }

pub not_source : (list : ℕ) (rollback : Option Rollback) → IsDeltaFor list rollback None → ¬ IsSourceOf list rollback
not_source list None h s = s
not_source list (Some back) h s = h s

pub source_ok : (r : Result Turned Refused) (rollback : Option Rollback) (shows : ℕ → List Tree) (cause : Cause) (deltas : List (Option DeltaModel)) (list : ℕ) (old new : Keeps) (d : DeltaModel)
    → IsDeltaFor list rollback (Some d) → IfOk r (IsSourceStep shows d.pieces list old new) → IfOk r (IsStep rollback shows cause deltas list old new)
source_ok (Ok turned) rollback shows cause deltas list old new d for step =
    let at = source_at list rollback d for in
    IsStep.at_source at.back at.is at.list_is (subst (λ (m : DeltaModel). IsSourceStep shows m.pieces list old new turned) (sym at.delta_is) step)
source_ok (Err why) rollback shows cause deltas list old new d for step = tt

pub source_stopped : (r : Result Turned Refused) (limit : ℕ) (rollback : Option Rollback) (shows : ℕ → List Tree) (cause : Cause) (deltas : List (Option DeltaModel)) (list : ℕ) (own : Own) (d : DeltaModel)
    → IsDeltaFor list rollback (Some d) → IfErr r (IsSourceStopped limit shows d.pieces list own) → IfErr r (IsStopped limit rollback shows cause deltas list own)
source_stopped (Ok turned) limit rollback shows cause deltas list own d for stop = tt
source_stopped (Err why) limit rollback shows cause deltas list own d for stop =
    let at = source_at list rollback d for in
    IsStopped.source_stops at.back at.is at.list_is (subst (λ (m : DeltaModel). IsSourceStopped limit shows m.pieces list own why) (sym at.delta_is) stop)

-- the list that the cause is about, and any other
pub own_stopped : (r : Result Turned Refused) (limit : ℕ) (rollback : Option Rollback) (shows : ℕ → List Tree) (cause : Cause) (deltas : List (Option DeltaModel)) (list : ℕ) (own : Own)
    → list ≡ subject cause → IfErr r (IsOwnStopped limit shows cause list own) → IfErr r (IsStopped limit rollback shows cause deltas list own)
own_stopped (Ok turned) limit rollback shows cause deltas list own same stop = tt
own_stopped (Err why) limit rollback shows cause deltas list own same stop = IsStopped.own_stops same stop

pub other_stopped : (r : Result Turned Refused) (limit : ℕ) (rollback : Option Rollback) (shows : ℕ → List Tree) (cause : Cause) (deltas : List (Option DeltaModel)) (list : ℕ) (own : Own)
    → list ≢ subject cause → ¬ IsSourceOf list rollback → IfErr r (IsOtherStopped limit shows deltas list own) → IfErr r (IsStopped limit rollback shows cause deltas list own)
other_stopped (Ok turned) limit rollback shows cause deltas list own other apart stop = tt
other_stopped (Err why) limit rollback shows cause deltas list own other apart stop = IsStopped.other_stops other apart stop
