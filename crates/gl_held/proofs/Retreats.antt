-- The levels of a transaction after each change, and the way back from it.
use Rattle.std.proofs.Common.{◌≡◌, ◌∙◌, ℕ, suc, ◌<◌, ◌≤◌, List, [], ◌∷◌, length, drop, refl, ap, sym, subst, arith}
use Rattle.spec_lists.specs.Piece.{old_len, new_len, identity}
use Rattle.spec_lists.specs.Delta.{Delta, no_change, composed}
use Rattle.spec_lists.proofs.Lengths.{old_len-composed, old_len-identity}
use Rattle.gl_held.specs.Levels.{AreJoined, BeginsWith}
use Rattle.gl_held.specs.Kept.{Kept}
use Rattle.gl_held.specs.Back.{HasLevel, stepped, IsUndo}
use Rattle.gl_held.specs.declared.undo.HeldUndo.{HeldUndo}
use Rattle.gl_held.specs.declared.undo.Way.TheVariants.{Levels}
use Rattle.gl_held.specs.declared.undo.LevelStep.{LevelStep}
use Rattle.gl_held.specs.declared.undo.LevelStep.TheVariants.{Begun, Followed, Joined, Closed}

-- ---- the levels join

pub joined_begun : (levels : List Delta) (level : Delta) (len : ℕ) → level ≡ no_change len → BeginsWith len levels
    → AreJoined levels → AreJoined (level ∷ levels)
joined_begun levels level len e begins h =
    let P : ℕ → Type 0 = λ n. BeginsWith n levels in
    (subst P (sym (ap old_len e ∙ old_len-identity len)) begins, h)

pub joined_followed : (level next d : Delta) (rest : List Delta) → next ≡ composed level d → new_len level ≡ old_len d
    → AreJoined (level ∷ rest) → AreJoined (next ∷ rest)
joined_followed level next d rest e fits h =
    let P : ℕ → Type 0 = λ n. BeginsWith n rest in
    (subst P (sym (ap old_len e ∙ old_len-composed level d fits)) h.0, h.1)

pub joined_committed : (level outer joined : Delta) (rest : List Delta) → joined ≡ composed outer level
    → AreJoined (level ∷ outer ∷ rest) → AreJoined (joined ∷ rest)
joined_committed level outer joined rest e h = joined_followed outer joined level rest e (sym h.0) h.1

-- ---- the way back

back : (step : LevelStep) (old new : Kept) → stepped step new.levels ≡ old.levels → HasLevel step new.levels
    → AreJoined old.levels → length old.levels ≤ new.room → IsUndo (record { way = Levels step }) old new
back step old new e has joined room = record {
  back = e;
  can = record {
    has = has;
    joined = let P : List Delta → Type 0 = λ ls. AreJoined ls in subst P (sym e) joined;
    room = omega (arith, ap length e, room);
  };
}

some_level : (level : Delta) (levels rest : List Delta) → levels ≡ level ∷ rest → 0 < length levels
some_level level levels rest e = omega (arith, ap length e)

pub begun_back : (old new : Kept) (level : Delta) → new.levels ≡ level ∷ old.levels → AreJoined old.levels
    → length old.levels ≤ new.room → IsUndo (record { way = Levels Begun }) old new
begun_back old new level e = back Begun old new (ap (drop 1) e) (some_level level new.levels old.levels e)

pub followed_back : (old new : Kept) (level next : Delta) (rest : List Delta) → old.levels ≡ level ∷ rest
    → new.levels ≡ next ∷ rest → AreJoined old.levels → length old.levels ≤ new.room
    → IsUndo (record { way = Levels (Followed level) }) old new
followed_back old new level next rest e f =
    back (Followed level) old new (ap (λ ls. level ∷ drop 1 ls) f ∙ sym e) (some_level next new.levels rest f)

pub joined_back : (old new : Kept) (level outer joined : Delta) (rest : List Delta) → old.levels ≡ level ∷ outer ∷ rest
    → new.levels ≡ joined ∷ rest → AreJoined old.levels → length old.levels ≤ new.room
    → IsUndo (record { way = Levels (Joined outer level) }) old new
joined_back old new level outer joined rest e f =
    back (Joined outer level) old new (ap (λ ls. level ∷ outer ∷ drop 1 ls) f ∙ sym e) (some_level joined new.levels rest f)

pub closed_back : (old new : Kept) (level : Delta) → old.levels ≡ level ∷ new.levels → AreJoined old.levels
    → length old.levels ≤ new.room → IsUndo (record { way = Levels (Closed level) }) old new
closed_back old new level e = back (Closed level) old new (sym e) tt
