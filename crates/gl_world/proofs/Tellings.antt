-- What the listeners of a section hear.
use Rattle.std.proofs.Common.{◌≡◌, ◌∙◌, ℕ, zero, suc, ◌<◌, List, [], ◌∷◌, length, ap, subst, eq-eqb}
use Rattle.std.specs.Prelude.{Option, Some, None, option_map, slice_get, slice_index_or}
use Rattle.std.specs.List.{AllByRecursion}
use Rattle.spec_states.specs.Delta.{Delta}
use Rattle.spec_states.specs.Changes.{changed_len}
use Rattle.spec_states.proofs.ChangeCounts.{changed_len-identity}
use Rattle.spec_states.specs.ListenerDecl.{ListenerDecl}
use Rattle.spec_states.specs.Plan.{Plan}
use Rattle.spec_states.specs.Shown.{Table, shows_in}
use Rattle.spec_states.specs.Wave.{Deltas, delta_in}
use Rattle.gl_delta.specs.Model.{DeltaModel}
use Rattle.gl_tell.specs.Heard.{IsFor, AreHeard}
use Rattle.gl_tell.specs.Handed.{AreHanded}
use Rattle.gl_world.specs.Section.{IsDeltaSofar, AreDeltas}

-- a copy stands for what the delta stands for
copied : (n : ℕ) (delta : Delta) (a b : Option DeltaModel)
    → option_map (λ d. d.pieces) b ≡ option_map (λ d. d.pieces) a → IsDeltaSofar n delta a → IsFor delta b
copied n delta None None same is =
    eq-eqb (changed_len delta) 0 (ap changed_len is ∙ changed_len-identity n)
copied n delta None (Some e) same is = absurd cc
copied n delta (Some d) None same is = absurd cc
copied n delta (Some d) (Some e) same is = (let pieces : e.pieces ≡ d.pieces = cc in pieces ∙ is)

-- the list of a listener is one of those
list_within : (n : ℕ) (listeners : List ListenerDecl) (k : ℕ) (d : ListenerDecl)
    → AllByRecursion (λ l. l.list < n) listeners → slice_get listeners k ≡ Some d → d.list < n
list_within n [] k d on at = absurd cc
list_within n (l ∷ ls) zero d on at =
    let first : l ≡ d = cc in subst (λ (x : ListenerDecl). x.list < n) first on.0
list_within n (l ∷ ls) (suc k) d on at = list_within n ls k d on.1 at

-- what was handed to each listener is what became of its list
pub heard_of : (p : Plan) (start : Table) (lists : Deltas) (deltas heard : List (Option DeltaModel))
    → AreDeltas start lists deltas → AreHanded p deltas heard
    → AllByRecursion (λ d. d.list < length start) p.listeners → AreHeard p lists heard
heard_of p start lists deltas heard are handed on = record {
  long = handed.long;
  each = λ k d at. copied (length (shows_in start d.list)) (delta_in lists d.list)
      (slice_index_or deltas d.list None) (slice_index_or heard k None) (handed.each k d at)
      (are.each d.list (list_within (length start) p.listeners k d on at));
}
