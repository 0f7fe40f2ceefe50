-- A composite follows what is told of its members.
use Rattle.std.proofs.Common.{◌≡◌, ◌∙◌, ◌<◌, ◌≤◌, ℕ, List, [], ◌∷◌, length, map, refl, ap, sym, subst, arith}
use Rattle.std.specs.Prelude.{slice_index_or, Option, Some, None, Result, Err}
use Rattle.std.specs.List.{All, Contains}
use Rattle.std.proofs.lemmas.List.Elements.{All-contains}
use Rattle.spec_states.proofs.Members.{Contains-here, Contains-later}
use Rattle.spec_states.specs.Tree.{Tree}
use Rattle.spec_states.specs.Piece.{normal, old_len, new_len}
use Rattle.spec_states.specs.Delta.{no_change}
use Rattle.spec_states.specs.Leads.{LeadsTo, IsDelta, undone}
use Rattle.spec_states.specs.Composite.{composite_view, composite_follow}
use Rattle.spec_states.specs.State.{composite}
use Rattle.spec_states.proofs.DeltaLeads.{length_from, leads_back_to, delta_to, undone_no_change}
use Rattle.gl_source.specs.Model.{DeltaModel}
use Rattle.gl_composite.specs.Kept.{Kept}
use Rattle.gl_composite.specs.Told.{put_or_same, deltas_of, told_of, told_by, new_lens, AreOf}
use Rattle.gl_composite.specs.Stands.{StandsFor, IsUndo}
use Rattle.gl_composite.specs.declared.composite.CompositeUndo.{CompositeUndo}
use Rattle.gl_composite.proofs.Members.{shown_is, told_news, new_lens_are}
use Rattle.gl_kernels.specs.KernelFault.{KernelFault}
use Rattle.gl_kernels.specs.KernelFault.TheVariants as k
use Rattle.gl_graph.specs.declared.graph.Refused.{Refused}
use Rattle.gl_graph.specs.declared.keeps.Keeps.TheVariants.{Composite}
use Rattle.gl_graph.specs.declared.keeps.KeepsUndo.TheVariants as u
use Rattle.gl_graph.specs.Undos.{of_composite}
use Rattle.gl_graph.specs.Members.{IsAnyTold}
use Rattle.gl_graph.specs.Spread.{delta_of, delta_told, shown_before, IsFollowing, IsOtherStopped}
use Rattle.gl_graph.specs.Faults.{IsRefusalBy}
use Rattle.gl_graph.proofs.MemberChanges.{flat_map_local}

-- what is told of a list is its change from what it showed before
delta_same : (deltas : List (Option DeltaModel)) (shows : ℕ → List Tree) (i : ℕ) → deltas_of deltas (shown_before deltas shows) i ≡ delta_told deltas shows i
delta_same deltas shows i = by_told (slice_index_or deltas i None) refl
  where
    by_told : (o : Option DeltaModel) → slice_index_or deltas i None ≡ o
        → put_or_same (slice_index_or deltas i None) (length (shown_before deltas shows i)) ≡ delta_of (slice_index_or deltas i None) (length (shows i))
    by_told None e =
        let stays : shown_before deltas shows i ≡ shows i = ap (λ o. undone (delta_of o (length (shows i))) (shows i)) e ∙ undone_no_change (shows i) in
        ap (λ o. put_or_same o (length (shown_before deltas shows i))) e
        ∙ (ap (λ xs. no_change (length xs)) stays ∙ sym (ap (λ o. delta_of o (length (shows i))) e))
    by_told (Some d) e =
        ap (λ o. put_or_same o (length (shown_before deltas shows i))) e ∙ sym (ap (λ o. delta_of o (length (shows i))) e)

-- each member has its place among the deltas, and what is told of it leads to what it shows
pub record CanFollow (deltas : List (Option DeltaModel)) (shows : ℕ → List Tree) (lists : List ℕ) : Type 0 where
  pub within : (i : ℕ) → Contains lists i → i < length deltas
  pub leads : (i : ℕ) → Contains lists i → LeadsTo (delta_told deltas shows i) (shows i)

pub can_follow : (deltas : List (Option DeltaModel)) (shows : ℕ → List Tree) (needed lists : List ℕ) → All (λ i. i < length deltas) needed
    → All (λ i. LeadsTo (delta_told deltas shows i) (shows i)) needed → All (λ list. Contains needed list) lists → CanFollow deltas shows lists
can_follow deltas shows needed lists within leads among = record {
  within = λ i c. All-contains (λ j. j < length deltas) needed i within (All-contains (λ list. Contains needed list) lists i among c);
  leads = λ i c. All-contains (λ j. LeadsTo (delta_told deltas shows j) (shows j)) needed i leads (All-contains (λ list. Contains needed list) lists i among c);
}

each_delta : (deltas : List (Option DeltaModel)) (shows : ℕ → List Tree) (lists : List ℕ) → CanFollow deltas shows lists → (i : ℕ) → Contains lists i
    → IsDelta (deltas_of deltas (shown_before deltas shows) i) (shown_before deltas shows i) (shows i)
each_delta deltas shows lists can i c =
    subst (λ d. IsDelta d (shown_before deltas shows i) (shows i)) (sym (delta_same deltas shows i)) (delta_to (delta_told deltas shows i) (shows i) (can.leads i c))

pub are_of : (deltas : List (Option DeltaModel)) (shows : ℕ → List Tree) (lists lens : List ℕ) → lens ≡ map (λ i. length (shown_before deltas shows i)) lists
    → CanFollow deltas shows lists → AreOf deltas lists lens
are_of deltas shows lists lens e can = subst (AreOf deltas lists) (sym e) (by_list lists can.within can.leads)
  where
    old_is : (i : ℕ) → LeadsTo (delta_told deltas shows i) (shows i) → old_len (told_of deltas i (length (shown_before deltas shows i))) ≡ length (shown_before deltas shows i)
    old_is i lead =
        ap old_len (delta_same deltas shows i)
        ∙ sym (length_from (delta_told deltas shows i) (shown_before deltas shows i) (leads_back_to (delta_told deltas shows i) (shows i) lead).0)

    by_list : (ms : List ℕ) → ((i : ℕ) → Contains ms i → i < length deltas) → ((i : ℕ) → Contains ms i → LeadsTo (delta_told deltas shows i) (shows i))
        → AreOf deltas ms (map (λ i. length (shown_before deltas shows i)) ms)
    by_list [] within leads = tt
    by_list (m ∷ ms) within leads = (
      within m (Contains-here m ms m refl),
      old_is m (leads m (Contains-here m ms m refl)),
      by_list ms (λ i c. within i (Contains-later m ms i c)) (λ i c. leads i (Contains-later m ms i c)),
    )

-- it then stands for what they show
pub stands_later : (deltas : List (Option DeltaModel)) (shows : ℕ → List Tree) (old new : Kept) → CanFollow deltas shows old.lists
    → ((before after : ℕ → List Tree) → StandsFor old before
    → ((list : ℕ) → Contains old.lists list → IsDelta (deltas_of deltas before list) (before list) (after list)) → StandsFor new after)
    → StandsFor old (shown_before deltas shows) → StandsFor new shows
stands_later deltas shows old new can by stood = by (shown_before deltas shows) shows stood (each_delta deltas shows old.lists can)

-- what a composite is that has followed
pub record HasFollowed (deltas : List (Option DeltaModel)) (shows : ℕ → List Tree) (old new : Kept) (out : DeltaModel) (undo : CompositeUndo) : Type 0 where
  pub told : out.pieces ≡ composite_follow old.lists (deltas_of deltas (shown_before deltas shows))
  pub stands : StandsFor new shows
  pub lists : new.lists ≡ old.lists
  pub limit : new.limit ≡ old.limit
  pub room : old.room ≤ new.room
  pub list_room : old.list_room ≤ new.list_room
  pub undo_is : IsUndo undo old new

pub followed : (shows : ℕ → List Tree) (deltas : List (Option DeltaModel)) (needed : List ℕ) (old new : Kept) (out : DeltaModel) (undo : CompositeUndo)
    → IsAnyTold deltas needed → HasFollowed deltas shows old new out undo
    → IsFollowing shows deltas (Composite needed old) (Composite needed new) out (u.Composite undo)
followed shows deltas needed old new out undo told h = record {
  reached = record { input = told.list; among = told.among; d = told.d; told = told.told };
  free = refl;
  told = record {
    told = h.told ∙ ap normal (flat_map_local old.lists (deltas_of deltas (shown_before deltas shows)) (delta_told deltas shows) (λ i d. delta_same deltas shows i));
    turned = record {
      stands = h.stands;
      own_is = ap (composite needed) h.lists;
      limit = ap (λ (n : ℕ). Some n) h.limit;
      is_undo = record { back = ap (of_composite needed) h.undo_is.back; room = record { kept = h.room; members = h.list_room; sorted = omega arith; firsts = omega arith }; can = h.undo_is.can };
    };
  };
}

-- how long it would be
pub long_later : (deltas : List (Option DeltaModel)) (shows : ℕ → List Tree) (lists lens : List ℕ) → lens ≡ map (λ i. length (shown_before deltas shows i)) lists
    → CanFollow deltas shows lists → new_len (told_by deltas lists lens) ≡ length (composite_view lists shows)
long_later deltas shows lists lens stood can =
    told_news deltas lists lens
    ∙ shown_is shows lists (new_lens deltas lists lens) (new_lens_are deltas (shown_before deltas shows) shows lists lens stood (each_delta deltas shows lists can))

-- why it doesn't follow
pub not_followed : {X : Type 0} (r : Result X KernelFault) (list : ℕ) (shows : ℕ → List Tree) (deltas : List (Option DeltaModel)) (needed : List ℕ) (old : Kept)
    (fault : KernelFault) (why : Refused) → IsAnyTold deltas needed
    → ((len : ℕ) → r ≡ Err (k.TooLong len) → (old.limit < len) × (len ≡ length (composite_view old.lists shows)))
    → r ≡ Err fault → IsRefusalBy list fault why → (limit : ℕ) → old.limit ≡ limit → IsOtherStopped limit shows deltas list (composite needed old.lists) why
not_followed r list shows deltas needed old k.Memory why told long is by limit limited = subst (IsOtherStopped limit shows deltas list (composite needed old.lists)) (sym by) tt
not_followed r list shows deltas needed old (k.TooLong len) why told long is by limit limited =
    let both = long len is in
    subst (IsOtherStopped limit shows deltas list (composite needed old.lists)) (sym by) (
      refl,
      ((record { input = told.list; among = told.among; d = told.d; told = told.told }, refl), record { past = subst (λ n. n < len) limited both.0; len_is = both.1 }),
    )
