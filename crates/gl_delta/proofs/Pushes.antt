-- One more piece at the right end.
use Rattle.std.proofs.Common.{◌≡◌, ℕ, List, [], ◌∷◌, ◌++◌, length, true, false, sym, subst}
use Rattle.std.specs.List.{insert}
use Rattle.spec_lists.specs.Piece.{Piece, updated, inserted, IsNormal}
use Rattle.spec_lists.proofs.Normal.{normal_is}
use Rattle.gl_delta.specs.declared.mark.Side.TheVariants.{New}
use Rattle.gl_delta.specs.declared.mark.Changed.{Changed}
use Rattle.gl_delta.specs.declared.mark.Changed.TheVariants.{Updated, Deleted, Inserted}
use Rattle.gl_delta.specs.Marks.{IsOn, piece_of}
use Rattle.gl_delta.specs.Pieces.{IsPushed}
use Rattle.gl_delta.proofs.Forms.{normal_undeleted}
use Rattle.gl_delta.proofs.Settled.{IsRun, deleted_before_run}

-- one more piece at the right end
normal_end : (ps : List Piece) (x : Changed) → IsNormal ps → IsOn New x ≡ true → IsNormal (ps ++ piece_of x ∷ [])
normal_end ps (Updated v w) n e = normal_undeleted ps (updated v w ∷ []) n tt tt
normal_end ps (Deleted v) n e = cc
normal_end ps (Inserted w) n e = normal_undeleted ps (inserted w ∷ []) n tt (tt, tt)

pub pushed_new : (ps : List Piece) (x : Changed) → IsNormal ps → IsOn New x ≡ true → IsPushed ps (piece_of x) (ps ++ piece_of x ∷ [])
pushed_new ps x n e = let form = normal_end ps x n e in record { value = sym (normal_is _ form); normal = form }

-- a deletion stands before the insertions at the right end
pub pushed_deleted : (ps : List Piece) (x : Changed) (to end : ℕ) → end ≡ length ps → IsNormal ps → IsOn New x ≡ false → IsRun ps to end → IsPushed ps (piece_of x) (insert ps to (piece_of x))
pushed_deleted ps (Updated v w) to end e n f r = cc
pushed_deleted ps (Deleted v) to end e n f r = let P : ℕ → Type 0 = IsRun ps to in deleted_before_run ps to v n (subst P e r)
pushed_deleted ps (Inserted w) to end e n f r = cc
