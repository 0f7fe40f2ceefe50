-- What becomes of a proxy that takes the first delta of its queue.
use Rattle.std.proofs.Common.{◌≡◌, ◌∙◌, ◌≤◌, ℕ, List, refl, ap, arith}
use Rattle.spec_states.specs.Tree.{Tree}
use Rattle.spec_states.specs.Wave.{pump, pumped, next_of_queue}
use Rattle.gl_source.specs.Model.{DeltaModel}
use Rattle.gl_held.specs.declared.undo.HeldUndo.{HeldUndo}
use Rattle.gl_held.specs.Copied.{Copied, own_of as own_of_copy}
use Rattle.gl_held.specs.CopiedBack.{IsUndoCopy, queue_before}
use Rattle.gl_graph.specs.declared.keeps.Keeps.TheVariants.{Proxy}
use Rattle.gl_graph.specs.declared.keeps.KeepsUndo.TheVariants as u
use Rattle.gl_graph.specs.declared.turned.Turned.TheVariants.{Told}
use Rattle.gl_graph.specs.Spread.{IsOwnStep}
use Rattle.gl_graph.specs.Undos.{of_proxy}

pub pumped_step : (shows : ℕ → List Tree) (list number input : ℕ) (old new : Copied) (out : DeltaModel) (undo : HeldUndo)
    → out.pieces ≡ next_of_queue old.values old.queue → ((i : ℕ) → own_of_copy i new ≡ pumped (own_of_copy i old)) → IsUndoCopy undo old new
    → old.room ≤ new.room → new.queue_room ≡ old.queue_room → IsOwnStep shows (pump number) list (Proxy input old) (Proxy input new) (Told out (u.Pumped undo))
pumped_step shows list number input old new out undo told own is room same = record {
  inside = refl;
  here = refl;
  told = record {
    told = told;
    turned = record {
      stands = tt;
      own_is = own input;
      limit = refl;
      is_undo = record {
        back = ap (λ xs. of_proxy input xs (queue_before undo.way new.queue)) is.values ∙ ap (of_proxy input old.values) is.queue;
        room = record { kept = room; members = omega (arith, same); sorted = omega arith; firsts = omega arith };
        can = is.can;
      };
    };
  };
}
