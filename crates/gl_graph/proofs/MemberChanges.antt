-- What is told and kept of a composite's members goes by what these show.
use Rattle.std.proofs.Common.{◌≡◌, ◌∙◌, ◌++◌, ◌+◌, ◌<◌, ℕ, zero, suc, List, [], ◌∷◌, length, flat_map, map, take, drop, refl, ap, sym, subst, arith, append-nil, length-append}
use Rattle.std.specs.Prelude.{◌↔◌, slice_get, slice_index, Option, Some, None, Result, Err}
use Rattle.std.specs.List.{All, Contains}
use Rattle.std.proofs.lemmas.List.Elements.{All-contains, All-take, All-drop, All-weaker}
use Rattle.spec_states.proofs.Members.{Contains-here, Contains-later}
use Rattle.spec_states.specs.Tree.{Tree}
use Rattle.spec_states.specs.Piece.{inserted, deleted}
use Rattle.spec_states.specs.Delta.{Delta, no_change}
use Rattle.spec_states.specs.Command.{Command}
use Rattle.spec_states.specs.Command.TheVariants as c
use Rattle.spec_states.specs.Wave.{members_change}
use Rattle.spec_states.proofs.Composites.{composite_local}
use Rattle.spec_states.specs.Composite.{composite_view}
use Rattle.gl_composite.specs.Kept.{Kept, shown_len}
use Rattle.gl_composite.specs.Stands.{StandsFor, list_at}
use Rattle.gl_composite.proofs.Members.{shown_is}
use Rattle.gl_kernels.specs.KernelFault.{KernelFault}
use Rattle.gl_kernels.specs.KernelFault.TheVariants as k
use Rattle.gl_graph.specs.declared.graph.Refused.{Refused}
use Rattle.gl_graph.specs.declared.spot.Spot.{Spot}
use Rattle.gl_graph.specs.declared.spot.Spot.TheVariants.{Own, Of, Child}
use Rattle.gl_graph.specs.Commands.{IsMembershipOf}
use Rattle.gl_graph.specs.Spots.{OnSpot}
use Rattle.gl_graph.specs.Faults.{IsRefusalBy}
use Rattle.gl_graph.specs.Members.{AreMembers, IsRegroupStopped}

pub flat_map_local : (members : List ℕ) (d e : ℕ → Delta) → ((i : ℕ) → Contains members i → d i ≡ e i) → flat_map d members ≡ flat_map e members
flat_map_local [] d e same = refl
flat_map_local (m ∷ members) d e same =
    ap (λ ps. ps ++ flat_map d members) (same m (Contains-here m members m refl))
    ∙ ap (λ ps. e m ++ ps) (flat_map_local members d e (λ i c. same i (Contains-later m members i c)))

pub lens_local : (members : List ℕ) (f g : ℕ → List Tree) → ((i : ℕ) → Contains members i → f i ≡ g i)
    → map (λ i. length (f i)) members ≡ map (λ i. length (g i)) members
lens_local [] f g same = refl
lens_local (m ∷ members) f g same =
    ap (λ xs. length xs ∷ map (λ i. length (f i)) members) (same m (Contains-here m members m refl))
    ∙ ap (λ ns. length (g m) ∷ ns) (lens_local members f g (λ i c. same i (Contains-later m members i c)))

-- what they show
view_local : (needed members : List ℕ) (f g : ℕ → List Tree) → All (λ member. Contains needed member) members
    → ((i : ℕ) → Contains needed i → f i ≡ g i) → composite_view members f ≡ composite_view members g
view_local needed members f g among same =
    composite_local members f g (λ i d. same i (All-contains (λ member. Contains needed member) members i among d))

-- the change of members by a command
pub members_local : (of : Command) (needed members : List ℕ) (f g : ℕ → List Tree) → All (λ member. Contains needed member) members → IsMembershipOf needed of
    → ((i : ℕ) → Contains needed i → f i ≡ g i) → members_change of members f ≡ members_change of members g
members_local (c.Attach list member) needed members f g among suits same =
    ap (λ xs. no_change (length xs) ++ map inserted (f member)) (view_local needed members f g among same)
    ∙ ap (λ xs. no_change (length (composite_view members g)) ++ map inserted xs) (same member suits)
members_local (c.Detach list index) needed members f g among suits same =
    let first = view_local needed (take index members) f g (All-take (λ member. Contains needed member) index members among) same in
    let this = view_local needed (take 1 (drop index members)) f g
    (All-take (λ member. Contains needed member) 1 (drop index members) (All-drop (λ member. Contains needed member) index members among)) same in
    let rest = view_local needed (drop (suc index) members) f g (All-drop (λ member. Contains needed member) (suc index) members among) same in
    ap (λ xs. no_change (length xs) ++ map deleted (composite_view (take 1 (drop index members)) f) ++ no_change (length (composite_view (drop (suc index) members) f))) first
    ∙ ap (λ xs. no_change (length (composite_view (take index members) g)) ++ map deleted xs ++ no_change (length (composite_view (drop (suc index) members) f))) this
    ∙ ap (λ xs. no_change (length (composite_view (take index members) g)) ++ map deleted (composite_view (take 1 (drop index members)) g) ++ no_change (length xs)) rest
members_local other needed members f g among suits same = absurd suits

-- one member more at the end
pub view_last : (members : List ℕ) (m : ℕ) (shows : ℕ → List Tree) → length (composite_view (members ++ m ∷ []) shows) ≡ length (composite_view members shows) + length (shows m)
view_last [] m shows = let e = ap length (append-nil (shows m)) in omega (arith, e)
view_last (k ∷ members) m shows =
    let rest = view_last members m shows in
    let more = length-append (shows k) (composite_view (members ++ m ∷ []) shows) in
    let less = length-append (shows k) (composite_view members shows) in
    omega (arith, rest, more, less)

pub take_more : (xs : List ℕ) (i : ℕ) → i < length xs → take (i + 1) xs ≡ take i xs ++ slice_index xs i ∷ []
take_more [] i within = absurd (omega (arith, within))
take_more (x ∷ xs) zero within = refl
take_more (x ∷ xs) (suc i) within =
    let e : suc i + 1 ≡ suc (i + 1) = omega arith in rw e (ap (λ ys. x ∷ ys) (take_more xs i (omega (arith, within))))

pub view_more : (members : List ℕ) (shows : ℕ → List Tree) (i : ℕ) → i < length members
    → length (composite_view (take (i + 1) members) shows) ≡ length (composite_view (take i members) shows) + length (shows (slice_index members i))
view_more members shows i within =
    ap (λ ms. length (composite_view ms shows)) (take_more members i within) ∙ view_last (take i members) (slice_index members i) shows

-- a member by its index
pub list_at_is : (lists : List ℕ) (i list : ℕ) → slice_get lists i ≡ Some list → list_at lists i ≡ list
list_at_is [] i list e = absurd cc
list_at_is (l ∷ lists) zero list e = cc
list_at_is (l ∷ lists) (suc i) list e = list_at_is lists i list e

-- where a command's members stand
pub members_placed : (P : ℕ → Type 0) (needed lists : List ℕ) (of : Command) → All P needed → All (λ list. Contains needed list) lists → IsMembershipOf needed of
    → AreMembers P of lists
members_placed P needed lists (c.Attach about member) all among suits = All-contains P needed member all suits
members_placed P needed lists (c.Detach about index) all among suits =
    All-weaker (λ list. Contains needed list) P (λ x d. All-contains P needed x all d) lists among
members_placed P needed lists other all among suits = absurd suits

-- what is said of a list where an element stands
pub on_spot_more : (P Q : ℕ → Type 0) → ((i : ℕ) → P i → Q i) → (at : Option Spot) → OnSpot P at → OnSpot Q at
on_spot_more P Q f None h = h
on_spot_more P Q f (Some (Own v)) h = h
on_spot_more P Q f (Some (Of list position)) h = f list h
on_spot_more P Q f (Some (Child list position model index)) h = f list h

-- why a list isn't attached
pub attach_stopped : {X : Type 0} (r : Result X KernelFault) (shows : ℕ → List Tree) (old : Kept) (about member list : ℕ) (xs : List Tree) (fault : KernelFault) (why : Refused)
    → StandsFor old shows → shows member ≡ xs
    → ((len : ℕ) → (r ≡ Err (k.TooLong len)) ↔ ((old.limit < len) × (len ≡ shown_len old + length xs)))
    → r ≡ Err fault → IsRefusalBy list fault why → IsRegroupStopped shows (c.Attach about member) list old why
attach_stopped r shows old about member list xs k.Memory why stands same h is by = subst (IsRegroupStopped shows (c.Attach about member) list old) (sym by) tt
attach_stopped r shows old about member list xs (k.TooLong len) why stands same h is by =
    let both = (h len).0 is in
    let shown = shown_is shows old.lists old.lens stands in
    let last = view_last old.lists member shows in
    subst (IsRegroupStopped shows (c.Attach about member) list old) (sym by) (
      refl,
      record {
        inside = refl;
        past = both.0;
        len_is = omega (arith, both.1, shown, last, ap length same);
      },
    )
