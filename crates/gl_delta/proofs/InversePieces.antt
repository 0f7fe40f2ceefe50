-- A store turned round.
use Rattle.std.proofs.Common.{◌≡◌, ◌∙◌, ℕ, ◌*◌, ◌-◌, ◌≤◌, List, [], ◌∷◌, map, refl, ap, sym, subst, suc, arith}
use Rattle.spec_value.specs.Tree.{Tree}
use Rattle.spec_lists.specs.Piece.{Piece, kept, updated, deleted, inserted, inverted, old_len, normal, insert_first, IsNormal, BeginsUndeleted}
use Rattle.spec_lists.proofs.ChangeCounts.{changed_len-normal}
use Rattle.spec_lists.specs.Changes.{changed_len}
use Rattle.spec_lists.specs.Delta.{inverse}
use Rattle.spec_lists.proofs.Normal.{inverted-inverted, old_len-normal, new_len-normal, IsNormal-normal}
use Rattle.spec_lists.proofs.Composition.{inverse_is}
use Rattle.gl_fourcolour.specs.Colours.{Colours, count_among}
use Rattle.gl_delta.specs.Listed.{Listed}
use Rattle.gl_delta.specs.Pieces.{IsKept}
use Rattle.gl_delta.specs.Store.{colour_of, old_values, new_values, IsStored}
use Rattle.gl_delta.specs.DependencyOrder.{put_inserted, inverse_colours, NotDeleted, InOrder}
use Rattle.gl_delta.proofs.Ranks.{counted, counts_changed}
use Rattle.gl_delta.proofs.Stores.{changed_inverse}

colours_first : (w : Tree) (ps : List Piece) → put_inserted (map colour_of ps) ≡ map colour_of (insert_first w ps)
colours_first w [] = refl
colours_first w (kept ∷ ps) = refl
colours_first w (updated v x ∷ ps) = refl
colours_first w (deleted v ∷ ps) = ap (λ cs. 2 ∷ cs) (colours_first w ps)
colours_first w (inserted x ∷ ps) = refl

colours_inverse : (ps : List Piece) → inverse_colours (map colour_of ps) ≡ map colour_of (normal (map inverted ps))
colours_inverse [] = refl
colours_inverse (kept ∷ ps) = ap (λ cs. 0 ∷ cs) (colours_inverse ps)
colours_inverse (updated v w ∷ ps) = ap (λ cs. 1 ∷ cs) (colours_inverse ps)
colours_inverse (deleted v ∷ ps) = ap put_inserted (colours_inverse ps) ∙ colours_first v (normal (map inverted ps))
colours_inverse (inserted w ∷ ps) = ap (λ cs. 2 ∷ cs) (colours_inverse ps)

old_first : (w : Tree) (ps : List Piece) → old_values (insert_first w ps) ≡ old_values ps
old_first w [] = refl
old_first w (kept ∷ ps) = refl
old_first w (updated v x ∷ ps) = refl
old_first w (deleted v ∷ ps) = ap (λ vs. v ∷ vs) (old_first w ps)
old_first w (inserted x ∷ ps) = refl

old_normal : (ps : List Piece) → old_values (normal ps) ≡ old_values ps
old_normal [] = refl
old_normal (kept ∷ ps) = old_normal ps
old_normal (updated v w ∷ ps) = ap (λ vs. v ∷ vs) (old_normal ps)
old_normal (deleted v ∷ ps) = ap (λ vs. v ∷ vs) (old_normal ps)
old_normal (inserted w ∷ ps) = old_first w (normal ps) ∙ old_normal ps

new_first : (w : Tree) (ps : List Piece) → new_values (insert_first w ps) ≡ w ∷ new_values ps
new_first w [] = refl
new_first w (kept ∷ ps) = refl
new_first w (updated v x ∷ ps) = refl
new_first w (deleted v ∷ ps) = new_first w ps
new_first w (inserted x ∷ ps) = refl

new_normal : (ps : List Piece) → new_values (normal ps) ≡ new_values ps
new_normal [] = refl
new_normal (kept ∷ ps) = new_normal ps
new_normal (updated v w ∷ ps) = ap (λ vs. w ∷ vs) (new_normal ps)
new_normal (deleted v ∷ ps) = new_normal ps
new_normal (inserted w ∷ ps) = new_first w (normal ps) ∙ ap (λ vs. w ∷ vs) (new_normal ps)

undeleted : (ps : List Piece) → BeginsUndeleted ps → NotDeleted (map colour_of ps)
undeleted [] h = tt
undeleted (kept ∷ ps) h = tt
undeleted (updated v w ∷ ps) h = tt
undeleted (deleted v ∷ ps) h = h
undeleted (inserted w ∷ ps) h = tt

normal_order : (ps : List Piece) → IsNormal ps → InOrder (map colour_of ps)
normal_order [] h = tt
normal_order (kept ∷ ps) h = normal_order ps h
normal_order (updated v w ∷ ps) h = normal_order ps h
normal_order (deleted v ∷ ps) h = normal_order ps h
normal_order (inserted w ∷ ps) h = (undeleted ps h.0, normal_order ps h.1)

pub may_turn : (cs : Colours) (vs ws : Listed) (room : ℕ) (ps : List Piece) → IsStored cs vs ws room ps → IsNormal ps → InOrder cs.colours × (2 * count_among 14 cs.colours ≤ cs.room - 1)
may_turn cs vs ws room ps s h =
    let P : List ℕ → Type 0 = InOrder in
    (subst P (sym s.colours_are) (normal_order ps h), omega (arith, counted 14 changed_len counts_changed cs.colours ps s.colours_are, s.within, s.run_room))

pub inverse_stored : (cs ds : Colours) (vs ws : Listed) (room : ℕ) (ps : List Piece) → IsStored cs vs ws room ps → ds.colours ≡ inverse_colours cs.colours → ds.room ≡ cs.room → IsStored ds ws vs room (normal (map inverted ps))
inverse_stored cs ds vs ws room ps s colours same = record {
  colours_are = colours ∙ (ap inverse_colours s.colours_are ∙ colours_inverse ps);
  olds_are = s.news_are ∙ sym (old_normal (map inverted ps));
  news_are = s.olds_are ∙ (sym (ap old_values (inverted-inverted ps)) ∙ sym (new_normal (map inverted ps)));
  old_room = s.new_room;
  new_room = s.old_room;
  run_room = omega (arith, s.run_room, same);
  within = omega (arith, changed_len-normal (map inverted ps), changed_inverse ps, s.within);
}

pub kept_inverse : (ps qs : List Piece) (olds news : ℕ) → IsKept ps olds news → qs ≡ normal (map inverted ps) → IsKept qs news olds
kept_inverse ps qs olds news k e =
    let P : List Piece → Type 0 = λ xs. IsKept xs news olds in
    subst P (sym e) (record {
      olds_is = k.news_is ∙ sym (old_len-normal (map inverted ps));
      news_is = k.olds_is ∙ sym (new_len-normal (map inverted ps) ∙ ap old_len (inverted-inverted ps));
      olds_few = k.news_few;
      news_few = k.olds_few;
      normal = IsNormal-normal (map inverted ps);
    })

pub is_inverse : (ps qs ts : List Piece) → qs ≡ normal (map inverted ps) → ps ≡ ts → qs ≡ inverse ts
is_inverse ps qs ts e f = e ∙ (sym (inverse_is ps) ∙ ap inverse f)
