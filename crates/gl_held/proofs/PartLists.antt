-- The composition of parts: its two lists, one part more, and two parts that are made one.
use Rattle.std.proofs.Common.{◌≡◌, ◌∙◌, ℕ, zero, suc, ◌+◌, ◌<◌, List, [], ◌∷◌, ◌++◌, map, take, drop, length, refl, ap, sym, subst, arith}
use Rattle.std.specs.List.{slice_get}
use Rattle.std.specs.Prelude.{Some, option_map, slice_index_or}
use Rattle.std.specs.declared.sync.Arc.{Arc}
use Rattle.std.proofs.lemmas.Option.{same_Some, slice_get-map, slice_get_read}
use Rattle.std.proofs.lemmas.List.{map-append, length-map}
use Rattle.spec_lists.specs.Piece.{old_len, new_len}
use Rattle.spec_lists.specs.Delta.{Delta, composed}
use Rattle.spec_lists.proofs.Lengths.{old_len-composed, new_len-composed}
use Rattle.spec_lists.proofs.Composition.{composition_is_associative}
use Rattle.gl_delta.specs.Model.{DeltaModel}
use Rattle.gl_held.specs.Parts.{LeadOn, parts_of, together, GoesOn}

pub old_together : (d : Delta) (ds : List Delta) → LeadOn (d ∷ ds) → old_len (together (d ∷ ds)) ≡ old_len d
old_together d [] h = refl
old_together d (e ∷ ds) h = old_len-composed d (together (e ∷ ds)) (h.0 ∙ sym (old_together e ds h.1))

fits : (d e : Delta) (ds : List Delta) → LeadOn (d ∷ e ∷ ds) → new_len d ≡ old_len (together (e ∷ ds))
fits d e ds h = h.0 ∙ sym (old_together e ds h.1)

-- ---- one part more

lead_push : (parts : List Delta) (d : Delta) → LeadOn parts → new_len (together parts) ≡ old_len d → LeadOn (parts ++ d ∷ [])
lead_push [] d h e = absurd h
lead_push (p ∷ []) d h e = (e, tt)
lead_push (p ∷ q ∷ ps) d h e = (h.0, lead_push (q ∷ ps) d h.1 (sym (new_len-composed p (together (q ∷ ps)) (fits p q ps h)) ∙ e))

together_push : (parts : List Delta) (d : Delta) → LeadOn parts → new_len (together parts) ≡ old_len d
    → together (parts ++ d ∷ []) ≡ composed (together parts) d
together_push [] d h e = absurd h
together_push (p ∷ []) d h e = refl
together_push (p ∷ q ∷ ps) d h e =
    let f = fits p q ps h in
    let g : new_len (together (q ∷ ps)) ≡ old_len d = sym (new_len-composed p (together (q ∷ ps)) f) ∙ e in
    ap (composed p) (together_push (q ∷ ps) d h.1 g) ∙ sym (composition_is_associative p (together (q ∷ ps)) d f g)

pub one_more : (parts : List Delta) (d : Delta) → LeadOn parts → new_len (together parts) ≡ old_len d
    → GoesOn parts d (parts ++ d ∷ [])
one_more parts d h e = record { leads = lead_push parts d h e; same = together_push parts d h e }

-- ---- two parts made one

pub last_fits : (parts : List Delta) (p q : Delta) → LeadOn (parts ++ p ∷ q ∷ []) → new_len p ≡ old_len q
last_fits [] p q h = h.0
last_fits (x ∷ []) p q h = h.1.0
last_fits (x ∷ y ∷ ys) p q h = last_fits (y ∷ ys) p q h.1

lead_merged : (parts : List Delta) (p q : Delta) → LeadOn (parts ++ p ∷ q ∷ []) → LeadOn (parts ++ composed p q ∷ [])
lead_merged [] p q h = tt
lead_merged (x ∷ []) p q h = (h.0 ∙ sym (old_len-composed p q h.1.0), tt)
lead_merged (x ∷ y ∷ ys) p q h = (h.0, lead_merged (y ∷ ys) p q h.1)

together_merged : (parts : List Delta) (p q : Delta) → together (parts ++ p ∷ q ∷ []) ≡ together (parts ++ composed p q ∷ [])
together_merged [] p q = refl
together_merged (x ∷ []) p q = refl
together_merged (x ∷ y ∷ ys) p q = ap (composed x) (together_merged (y ∷ ys) p q)

pub merged : (parts : List Delta) (d : Delta) (before : List Delta) (p q : Delta) → GoesOn parts d (before ++ p ∷ q ∷ [])
    → GoesOn parts d (before ++ composed p q ∷ [])
merged parts d before p q h =
    record { leads = lead_merged before p q h.leads; same = sym (together_merged before p q) ∙ h.same }

-- ---- the parts before a place and from it on

pub split_at : (parts : List Delta) (n : ℕ) (p q : Delta) → slice_get parts n ≡ Some p
    → take (suc n) parts ++ q ∷ [] ≡ take n parts ++ p ∷ q ∷ []
split_at [] n p q e = absurd cc
split_at (x ∷ xs) zero p q e = ap (λ y. y ∷ q ∷ []) (same_Some x p e)
split_at (x ∷ xs) (suc n) p q e = ap (λ ys. x ∷ ys) (split_at xs n p q e)

pub together_from : (parts : List Delta) (n : ℕ) (p : Delta) → slice_get parts n ≡ Some p → suc n < length parts
    → together (drop n parts) ≡ composed p (together (drop (suc n) parts))
together_from [] n p e h = absurd cc
together_from (x ∷ []) n p e h = absurd (omega (arith, h))
together_from (x ∷ y ∷ ys) zero p e h = ap (λ d. composed d (together (y ∷ ys))) (same_Some x p e)
together_from (x ∷ y ∷ ys) (suc n) p e h = together_from (y ∷ ys) n p e (omega (arith, h))

pub together_last : (parts : List Delta) (n : ℕ) (p : Delta) → slice_get parts n ≡ Some p → suc n ≡ length parts
    → together (drop n parts) ≡ p
together_last [] n p e h = absurd cc
together_last (x ∷ []) zero p e h = same_Some x p e
together_last (x ∷ []) (suc n) p e h = absurd (omega (arith, h))
together_last (x ∷ y ∷ ys) zero p e h = absurd (omega (arith, h))
together_last (x ∷ y ∷ ys) (suc n) p e h = together_last (y ∷ ys) n p e (omega (arith, h))

pub lead_from : (parts : List Delta) (n : ℕ) (p : Delta) → LeadOn parts → slice_get parts n ≡ Some p → suc n < length parts
    → new_len p ≡ old_len (together (drop (suc n) parts))
lead_from [] n p h e l = absurd h
lead_from (x ∷ []) n p h e l = absurd (omega (arith, l))
lead_from (x ∷ y ∷ ys) zero p h e l = ap new_len (sym (same_Some x p e)) ∙ fits x y ys h
lead_from (x ∷ y ∷ ys) (suc n) p h e l = lead_from (y ∷ ys) n p h.1 e (omega (arith, l))

pub some_part : (parts : List Delta) → LeadOn parts → 0 < length parts
some_part [] h = absurd h
some_part (x ∷ xs) h = omega arith

pub old_first : (parts : List Delta) (p : Delta) → LeadOn parts → slice_get parts 0 ≡ Some p → old_len p ≡ old_len (together parts)
old_first [] p h e = absurd h
old_first (x ∷ xs) p h e = ap old_len (sym (same_Some x p e)) ∙ sym (old_together x xs h)

pub old_from : (parts : List Delta) (n : ℕ) (p : Delta) → LeadOn parts → slice_get parts n ≡ Some p → suc n < length parts
    → old_len (together (drop n parts)) ≡ old_len p
old_from parts n p h e l =
    ap old_len (together_from parts n p e l) ∙ old_len-composed p (together (drop (suc n) parts)) (lead_from parts n p h e l)

-- ---- parts that are shared

module _ {Z : Type 0} where
  pub length-parts_of : (arcs : List (Arc DeltaModel Z)) → length (parts_of arcs) ≡ length arcs
  length-parts_of arcs = length-map arcs (λ a. a.value.pieces)

  pub part_at : (arcs : List (Arc DeltaModel Z)) (i : ℕ) (a : Arc DeltaModel Z) (d : DeltaModel) → i < length arcs
      → a ≡ slice_index_or arcs i a → d ≡ a.value → slice_get (parts_of arcs) i ≡ Some d.pieces
  part_at arcs i a d low e f =
      slice_get-map (λ (b : Arc DeltaModel Z). b.value.pieces) arcs i
      ∙ (ap (option_map (λ (b : Arc DeltaModel Z). b.value.pieces)) (slice_get_read arcs (length arcs) i a refl low e)
      ∙ ap (λ (m : DeltaModel). Some m.pieces) (sym f))

  pub parts_push : (arcs : List (Arc DeltaModel Z)) (a : Arc DeltaModel Z)
      → parts_of (arcs ++ a ∷ []) ≡ parts_of arcs ++ a.value.pieces ∷ []
  parts_push arcs a = map-append (λ (b : Arc DeltaModel Z). b.value.pieces) arcs (a ∷ [])
