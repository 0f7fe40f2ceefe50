-- A plan with a proxy: what it is yet to take, how far it has come, and how an order is brought to its end.
use Rattle.std.specs.Prelude.{◌≡◌, [], ◌∷◌, Some, None, refl, codes, false}
use Rattle.spec_lists.specs.Piece.{kept, inserted}
use Rattle.gl_outside.specs.declared.gate.Actor.TheVariants.{Writer, Proxy}
use Rattle.gl_lines.specs.declared.plan.Command.TheVariants.{Add}
use Rattle.gl_lines.specs.declared.plan.ListKind.TheVariants as kinds
use Rattle.spec_plans.specs.Plan.{Plan, proxies_of}
use Rattle.spec_states.specs.State.{source, proxy}
use Rattle.spec_runs.specs.Run.{run, shown_after}
use Rattle.spec_runs.specs.Fits.{first_bad_place, empty_queue}
use Rattle.spec_runs.specs.Prefix.{prefix}
use Rattle.spec_runs.specs.Closing.{close}
use Rattle.spec_runs.specs.RowsWords.{usual_limit, number, numbers}

-- three sections with an element each, a proxy over their source, and a listener of the proxy
abbrev pub forwarded : Plan
forwarded = record {
  limit = usual_limit;
  lists =
      record { name = codes "s"; kind = kinds.Source [] }
      ∷ record { name = codes "p"; kind = kinds.Proxy 0 }
      ∷ [];
  listeners = record { name = codes "a"; list = 1; after = []; echo = false } ∷ [];
  writers =
      ((Add 0 (number 1) ∷ [])
      ∷ (Add 0 (number 2) ∷ [])
      ∷ (Add 0 (number 3) ∷ [])
      ∷ [])
      ∷ [];
}

its_proxies : proxies_of forwarded ≡ 1 ∷ []
its_proxies = refl

-- the first element is taken, and what the two other sections did is queued
two_queued :
    (run forwarded (Writer 0 ∷ Writer 0 ∷ Proxy 0 ∷ Writer 0 ∷ [])).state
    ≡ source (numbers (1 ∷ 2 ∷ 3 ∷ []))
    ∷ proxy 0 (numbers (1 ∷ []))
    ((kept ∷ inserted (number 2) ∷ []) ∷ (kept ∷ kept ∷ inserted (number 3) ∷ []) ∷ [])
    ∷ []
two_queued = refl

all_taken :
    shown_after forwarded (Writer 0 ∷ Writer 0 ∷ Proxy 0 ∷ Writer 0 ∷ Proxy 0 ∷ Proxy 0 ∷ []) 1
    ≡ numbers (1 ∷ 2 ∷ 3 ∷ [])
all_taken = refl

-- an order may take as many pumps as there are deltas queued
as_many_fit :
    first_bad_place forwarded (Writer 0 ∷ Writer 0 ∷ Proxy 0 ∷ Writer 0 ∷ Proxy 0 ∷ Proxy 0 ∷ [])
    ≡ None
as_many_fit = refl

nothing_left :
    first_bad_place forwarded
    (Writer 0 ∷ Writer 0 ∷ Proxy 0 ∷ Writer 0 ∷ Proxy 0 ∷ Proxy 0 ∷ Proxy 0 ∷ [])
    ≡ Some (record { place = 6; reason = empty_queue })
nothing_left = refl

nothing_yet :
    first_bad_place forwarded (Proxy 0 ∷ []) ≡ Some (record { place = 0; reason = empty_queue })
nothing_yet = refl

-- with one pump it has come up to the second section, and with three up to the end
one_pump : prefix forwarded 0 0 (Writer 0 ∷ Writer 0 ∷ Proxy 0 ∷ Writer 0 ∷ []) ≡ Writer 0 ∷ []
one_pump = refl

pumped_before :
    prefix forwarded 0 0 (Writer 0 ∷ Proxy 0 ∷ Writer 0 ∷ []) ≡ Writer 0 ∷ Proxy 0 ∷ []
pumped_before = refl

no_pump : prefix forwarded 0 0 (Writer 0 ∷ Writer 0 ∷ []) ≡ []
no_pump = refl

three_pumps :
    prefix forwarded 0 0 (Writer 0 ∷ Writer 0 ∷ Proxy 0 ∷ Writer 0 ∷ Proxy 0 ∷ Proxy 0 ∷ [])
    ≡ Writer 0 ∷ Writer 0 ∷ Proxy 0 ∷ Writer 0 ∷ Proxy 0 ∷ Proxy 0 ∷ []
three_pumps = refl

-- what two sections and a pump leave: the last section, and then two pumps
brought_to_its_end :
    close forwarded (Writer 0 ∷ Proxy 0 ∷ Writer 0 ∷ [])
    ≡ Writer 0 ∷ Proxy 0 ∷ Writer 0 ∷ Writer 0 ∷ Proxy 0 ∷ Proxy 0 ∷ []
brought_to_its_end = refl

from_nothing :
    close forwarded [] ≡ Writer 0 ∷ Writer 0 ∷ Writer 0 ∷ Proxy 0 ∷ Proxy 0 ∷ Proxy 0 ∷ []
from_nothing = refl
