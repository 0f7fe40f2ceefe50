-- The values of items under handles.
use Rattle.std.proofs.Common.{◌≡◌, ◌∙◌, ℕ, zero, suc, ◌<◌, List, [], ◌∷◌, ◌++◌, length, map, take, drop, ap, sym, arith}
use Rattle.std.specs.List.{insert, remove, slice_get}
use Rattle.std.specs.Option.{option_map}
use Rattle.std.specs.Prelude.{Some, None, Contains}
use Rattle.std.proofs.lemmas.List.{map-append, take-map, drop-map, length-map}
use Rattle.std.proofs.lemmas.Option.{slice_get-map}
use Rattle.spec_value.specs.Tree.{Tree}
use Rattle.gl_counted.specs.Counted.{handles, AreDistinct}
use Rattle.gl_counted.proofs.Held.{get_from_Contains, Contains_from_get}
use Rattle.gl_delta.specs.Listed.{Listed}

abbrev pub items : List (ℕ × Tree) → List Tree
items es = map (λ e. e.1) es

pub items_put : (es : List (ℕ × Tree)) (at h : ℕ) (v : Tree) → items (insert es at (h, v)) ≡ insert (items es) at v
items_put es at h v =
    map-append (λ e. e.1) (take at es) ((h, v) ∷ drop at es)
    ∙ (ap (λ xs. xs ++ v ∷ items (drop at es)) (sym (take-map (λ e. e.1) at es))
    ∙ ap (λ xs. take at (items es) ++ v ∷ xs) (sym (drop-map (λ e. e.1) at es)))

items_cut : (es : List (ℕ × Tree)) (at : ℕ) → items (remove es at) ≡ remove (items es) at
items_cut es at =
    map-append (λ e. e.1) (take at es) (drop (suc at) es)
    ∙ (ap (λ xs. xs ++ items (drop (suc at) es)) (sym (take-map (λ e. e.1) at es))
    ∙ ap (λ xs. take at (items es) ++ xs) (sym (drop-map (λ e. e.1) (suc at) es)))

-- an item under the handle that stands at a place stands there
same_position : (es : List (ℕ × Tree)) (position h k : ℕ) (v : Tree) → AreDistinct es → Some h ≡ slice_get (handles es) position → slice_get es k ≡ Some (h, v) → k ≡ position
same_position es position h k v distinct here got =
    let there : slice_get (handles es) k ≡ Some h = slice_get-map (λ e. e.0) es k ∙ ap (option_map (λ e. e.0)) got in
    distinct h k position there (sym here)

value_there : (es : List (ℕ × Tree)) (position h k : ℕ) (v : Tree) → AreDistinct es → Some h ≡ slice_get (handles es) position → slice_get es k ≡ Some (h, v) → slice_get (items es) position ≡ Some v
value_there es position h k v distinct here got =
    let same : k ≡ position = same_position es position h k v distinct here got in
    ap (slice_get (items es)) (sym same) ∙ (slice_get-map (λ e. e.1) es k ∙ ap (option_map (λ e. e.1)) got)

pub found_there : (es : List (ℕ × Tree)) (position h : ℕ) (v : Tree) → AreDistinct es → Some h ≡ slice_get (handles es) position → Contains es (h, v) → slice_get (items es) position ≡ Some v
found_there es position h v distinct here holds =
    let g = get_from_Contains es (h, v) holds in
    value_there es position h g.0 v distinct here g.1

-- an item taken by the handle that stands at a place
pub record TakenThere (vs ws : List Tree) (position : ℕ) (v : Tree) : Type 0 where
  pub value : slice_get vs position ≡ Some v
  pub rest : ws ≡ remove vs position

pub taken_there : (es fs : List (ℕ × Tree)) (position h : ℕ) (v : Tree) → AreDistinct es → Some h ≡ slice_get (handles es) position → (k : ℕ) × (slice_get es k ≡ Some (h, v)) × (fs ≡ remove es k) → TakenThere (items es) (items fs) position v
taken_there es fs position h v distinct here t =
    let same : t.0 ≡ position = same_position es position h t.0 v distinct here t.1 in
    record {
      value = value_there es position h t.0 v distinct here t.1;
      rest = ap items (t.2 ∙ ap (remove es) same) ∙ items_cut es position;
    }

pub live_there : (es : List (ℕ × Tree)) (position h : ℕ) → Some h ≡ slice_get (handles es) position → Contains (handles es) h
live_there es position h here = Contains_from_get (handles es) position h (sym here)

pub none_there : (es : List (ℕ × Tree)) (position : ℕ) → position < length (items es) → None ≡ slice_get (handles es) position → ⊥
none_there es position within none =
    let n : length (items es) ≡ length (handles es) = length-map es (λ e. e.1) ∙ sym (length-map es (λ e. e.0)) in
    some_there (handles es) position (omega (arith, within, n)) none
  where
    some_there : (hs : List ℕ) (i : ℕ) → i < length hs → None ≡ slice_get hs i → ⊥
    some_there [] i w e = absurd (omega (arith, w))
    some_there (h ∷ hs) zero w e = cc
    some_there (h ∷ hs) (suc i) w e = some_there hs i (omega (arith, w)) e

-- what contracts see of the values
pub items_are : (es : List (ℕ × Tree)) (room : ℕ) (value : Listed) → record { values = items es; room = room } ≡ value → (items es ≡ value.values) × (room ≡ value.room)
items_are es room value e = (ap (λ (x : Listed). x.values) e, ap (λ (x : Listed). x.room) e)
