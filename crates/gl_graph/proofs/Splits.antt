-- Nodes of which one is changed while those before it are read.
use Rattle.std.proofs.Common.{◌≡◌, ◌∙◌, ℕ, List, [], ◌∷◌, ◌++◌, length, take, drop, refl, ap, sym, subst}
use Rattle.std.specs.Prelude.{Option, Some, Result, slice_get, slice_set, slice_index_or}
use Rattle.std.proofs.Math.Seq.{take-append_seam}
use Rattle.gl_source.specs.Model.{DeltaModel}
use Rattle.gl_graph.specs.declared.keeps.Keeps.{Keeps}
use Rattle.gl_graph.specs.declared.node.Node.{Node}
use Rattle.gl_graph.specs.declared.turned.Turned.{Turned}
use Rattle.gl_graph.specs.declared.rollback.Rollback.{Rollback}
use Rattle.gl_graph.specs.declared.graph.Refused.{Refused}
use Rattle.gl_graph.specs.Nodes.{shown_by}
use Rattle.gl_graph.specs.Spread.{IsTried, IsTriedAt}
use Rattle.gl_graph.proofs.Sets.{set_long}
use Rattle.spec_states.specs.Wave.{Cause}

get_seam : (prefix back : List Node) → slice_get (prefix ++ back) (length prefix) ≡ slice_get back 0
get_seam [] back = refl
get_seam (n ∷ prefix) back = get_seam prefix back

set_seam : (prefix back : List Node) (now : Node) → slice_set (prefix ++ back) (length prefix) now ≡ prefix ++ slice_set back 0 now
set_seam [] back now = refl
set_seam (n ∷ prefix) back now = ap (λ ns. n ∷ ns) (set_seam prefix back now)

first_is : (back : List Node) (was d : Node) → slice_get back 0 ≡ Some was → slice_index_or back 0 d ≡ was
first_is [] was d e = absurd cc
first_is (n ∷ back) was d e = cc

-- the first node after a place
pub first_back : (nodes prefix back : List Node) (position : ℕ) (was d : Node) → nodes ≡ prefix ++ back → length prefix ≡ position → slice_get nodes position ≡ Some was → slice_index_or back 0 d ≡ was
first_back nodes prefix back position was d whole long there =
    first_is back was d (sym (get_seam prefix back) ∙ (ap (λ n. slice_get (prefix ++ back) n) long ∙ (ap (λ ns. slice_get ns position) (sym whole) ∙ there)))

-- the nodes with another one there
set_back : (nodes prefix back : List Node) (position len : ℕ) (now : Node) → nodes ≡ prefix ++ back → length prefix ≡ position → len ≡ length nodes
    → take len ((prefix ++ slice_set back 0 now) ++ drop (length (prefix ++ slice_set back 0 now)) nodes) ≡ slice_set nodes position now
set_back nodes prefix back position len now whole long len_is =
    let xs : List Node = prefix ++ slice_set back 0 now in
    let same : slice_set nodes position now ≡ xs = ap (λ ns. slice_set ns position now) whole ∙ (ap (λ n. slice_set (prefix ++ back) n now) (sym long) ∙ set_seam prefix back now) in
    let whole_len : len ≡ length xs = len_is ∙ (sym (set_long nodes position now) ∙ ap length same) in
    ap (λ n. take n (xs ++ drop (length xs) nodes)) whole_len ∙ (take-append_seam xs (drop (length xs) nodes) ∙ sym same)

pub tried_at : (rollback : Option Rollback) (positions : List ℕ) (cause : Cause) (deltas : List (Option DeltaModel)) (position len : ℕ) (nodes prefix back : List Node) (was first : Node) (new : Keeps)
    (result : Result Turned Refused) → nodes ≡ prefix ++ back → prefix ≡ take position nodes → length prefix ≡ position → len ≡ length nodes → slice_get nodes position ≡ Some was → first ≡ was
    → IsTried rollback (shown_by prefix positions) cause deltas first.list first.keeps new result
    → IsTriedAt rollback positions cause deltas position nodes
    (take len ((prefix ++ slice_set back 0 (record { list = first.list; keeps = new })) ++ drop (length (prefix ++ slice_set back 0 (record { list = first.list; keeps = new }))) nodes)) result
tried_at rollback positions cause deltas position len nodes prefix back was first new result whole prefix_is long len_is there same tried = record {
  was = was;
  now = record { list = first.list; keeps = new };
  set = record {
    there = there;
    is = set_back nodes prefix back position len (record { list = first.list; keeps = new }) whole long len_is;
    list = ap (λ (n : Node). n.list) same;
  };
  tried = subst (λ (n : Node). IsTried rollback (shown_by (take position nodes) positions) cause deltas n.list n.keeps new result) same
      (subst (λ ns. IsTried rollback (shown_by ns positions) cause deltas first.list first.keeps new result) prefix_is tried);
}
