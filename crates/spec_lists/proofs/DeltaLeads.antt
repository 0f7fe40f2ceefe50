-- Compositions and inverses lead between the lists that they should.
use Rattle.std.proofs.Common.{◌≡◌, ◌∙◌, suc, ◌+◌, List, [], ◌∷◌, map, length, refl, ap, sym, subst, arith}
use Rattle.spec_value.specs.Tree.{Tree}
use Rattle.spec_lists.specs.Piece.{Piece, kept, updated, deleted, inserted, inverted, old_len, new_len, normal, IsNormal, insert_first}
use Rattle.spec_lists.specs.Delta.{no_change, composed, inverse}
use Rattle.spec_lists.specs.Leads.{LeadsFrom, LeadsTo, applied, undone, IsDelta}
use Rattle.spec_lists.specs.Laws.{CompositionLeads, InverseLeadsBack}
use Rattle.spec_lists.proofs.Merge.{Merge, merge_of, composed_merge, done, gone, come, keep_keep, keep_set, keep_drop, set_keep, set_set, set_drop, new_keep, new_set, new_drop}
use Rattle.spec_lists.proofs.Normal.{inverted-inverted, IsNormal-normal}
use Rattle.spec_lists.proofs.Composition.{inverse_is}
use Rattle.spec_lists.proofs.DeltaEdits.{identity_leads}

-- the length of the list that a delta starts from, and of the one that it ends at
pub length_from : (ps : List Piece) (xs : List Tree) → LeadsFrom ps xs → length xs ≡ old_len ps
length_from [] [] h = refl
length_from [] (x ∷ xs) h = absurd h
length_from (kept ∷ ps) [] h = absurd h
length_from (kept ∷ ps) (x ∷ xs) h = ap suc (length_from ps xs h)
length_from (updated v w ∷ ps) [] h = absurd h
length_from (updated v w ∷ ps) (x ∷ xs) h = ap suc (length_from ps xs h.1)
length_from (deleted v ∷ ps) [] h = absurd h
length_from (deleted v ∷ ps) (x ∷ xs) h = ap suc (length_from ps xs h.1)
length_from (inserted w ∷ ps) xs h = length_from ps xs h

pub length-applied : (ps : List Piece) (xs : List Tree) → LeadsFrom ps xs → length (applied ps xs) ≡ new_len ps
length-applied [] [] h = refl
length-applied [] (x ∷ xs) h = absurd h
length-applied (kept ∷ ps) [] h = absurd h
length-applied (kept ∷ ps) (x ∷ xs) h = ap suc (length-applied ps xs h)
length-applied (updated v w ∷ ps) [] h = absurd h
length-applied (updated v w ∷ ps) (x ∷ xs) h = ap suc (length-applied ps xs h.1)
length-applied (deleted v ∷ ps) [] h = absurd h
length-applied (deleted v ∷ ps) (x ∷ xs) h = length-applied ps xs h.1
length-applied (inserted w ∷ ps) xs h = ap suc (length-applied ps xs h)

-- what is told in one leads as p and then q does
leads_merge : {p q m : List Piece} → Merge p q m → (xs : List Tree) → LeadsFrom p xs → LeadsFrom q (applied p xs) → LeadsFrom m xs × (applied m xs ≡ applied q (applied p xs))
leads_merge done xs h k = (h, elim_nil xs h)
  where
    elim_nil : (ys : List Tree) → LeadsFrom [] ys → applied [] ys ≡ applied [] (applied [] ys)
    elim_nil ys g = refl
leads_merge (gone r) [] h k = absurd h
leads_merge (gone r) (x ∷ xs) h k = let g = leads_merge r xs h.1 k in ((h.0, g.0), g.1)
leads_merge (come {w = w} r) xs h k = let g = leads_merge r xs h k in (g.0, ap (λ ys. w ∷ ys) g.1)
leads_merge (keep_keep r) [] h k = absurd h
leads_merge (keep_keep r) (x ∷ xs) h k = let g = leads_merge r xs h k in (g.0, ap (λ ys. x ∷ ys) g.1)
leads_merge (keep_set r) [] h k = absurd h
leads_merge (keep_set {y = y} r) (x ∷ xs) h k = let g = leads_merge r xs h k.1 in ((k.0, g.0), ap (λ ys. y ∷ ys) g.1)
leads_merge (keep_drop r) [] h k = absurd h
leads_merge (keep_drop r) (x ∷ xs) h k = let g = leads_merge r xs h k.1 in ((k.0, g.0), g.1)
leads_merge (set_keep r) [] h k = absurd h
leads_merge (set_keep {w = w} r) (x ∷ xs) h k = let g = leads_merge r xs h.1 k in ((h.0, g.0), ap (λ ys. w ∷ ys) g.1)
leads_merge (set_set r) [] h k = absurd h
leads_merge (set_set {y = y} r) (x ∷ xs) h k = let g = leads_merge r xs h.1 k.1 in ((h.0, g.0), ap (λ ys. y ∷ ys) g.1)
leads_merge (set_drop r) [] h k = absurd h
leads_merge (set_drop r) (x ∷ xs) h k = let g = leads_merge r xs h.1 k.1 in ((h.0, g.0), g.1)
leads_merge (new_keep {w = w} r) xs h k = let g = leads_merge r xs h k in (g.0, ap (λ ys. w ∷ ys) g.1)
leads_merge (new_set {y = y} r) xs h k = let g = leads_merge r xs h k.1 in (g.0, ap (λ ys. y ∷ ys) g.1)
leads_merge (new_drop r) xs h k = leads_merge r xs h k.1

leads_first : (w : Tree) (ps : List Piece) (xs : List Tree) → LeadsFrom ps xs → LeadsFrom (insert_first w ps) xs × (applied (insert_first w ps) xs ≡ w ∷ applied ps xs)
leads_first w [] xs h = (h, refl)
leads_first w (kept ∷ ps) xs h = (h, refl)
leads_first w (updated v x ∷ ps) xs h = (h, refl)
leads_first w (deleted v ∷ ps) [] h = absurd h
leads_first w (deleted v ∷ ps) (x ∷ xs) h = let g = leads_first w ps xs h.1 in ((h.0, g.0), g.1)
leads_first w (inserted x ∷ ps) xs h = (h, refl)

-- normal form leads between the same lists
pub leads_normal : (ps : List Piece) (xs : List Tree) → LeadsFrom ps xs → LeadsFrom (normal ps) xs × (applied (normal ps) xs ≡ applied ps xs)
leads_normal [] xs h = (h, refl)
leads_normal (kept ∷ ps) [] h = absurd h
leads_normal (kept ∷ ps) (x ∷ xs) h = let g = leads_normal ps xs h in (g.0, ap (λ ys. x ∷ ys) g.1)
leads_normal (updated v w ∷ ps) [] h = absurd h
leads_normal (updated v w ∷ ps) (x ∷ xs) h = let g = leads_normal ps xs h.1 in ((h.0, g.0), ap (λ ys. w ∷ ys) g.1)
leads_normal (deleted v ∷ ps) [] h = absurd h
leads_normal (deleted v ∷ ps) (x ∷ xs) h = let g = leads_normal ps xs h.1 in ((h.0, g.0), g.1)
leads_normal (inserted w ∷ ps) xs h =
    let g = leads_normal ps xs h in let f = leads_first w (normal ps) xs g.0 in (f.0, f.1 ∙ ap (λ ys. w ∷ ys) g.1)

pub composition_leads : CompositionLeads
composition_leads p q xs ys zs h k =
    let starts : LeadsFrom q (applied p xs) = let P : List Tree → Type 0 = λ us. LeadsFrom q us in subst P h.ends k.starts in
    let fits : new_len p ≡ old_len q = sym (length-applied p xs h.starts) ∙ length_from q (applied p xs) starts in
    let r : (m : List Piece) × Merge p q m = merge_of (length p + length q) p q (omega arith) fits in
    let g = leads_merge r.1 xs h.starts starts in
    let f = leads_normal r.0 xs g.0 in
    let e = composed_merge r.1 in
    let S : List Piece → Type 0 = λ ps. LeadsFrom ps xs in
    record {
      starts = subst S (sym e) f.0;
      ends = k.ends ∙ (ap (applied q) h.ends ∙ (sym g.1 ∙ (sym f.1 ∙ ap (λ ps. applied ps xs) (sym e))));
    }

-- the delta that led from a list leads back to it
pub leads_back : (ps : List Piece) (xs : List Tree) → LeadsFrom ps xs → LeadsFrom (map inverted ps) (applied ps xs) × (applied (map inverted ps) (applied ps xs) ≡ xs)
leads_back [] [] h = (tt, refl)
leads_back [] (x ∷ xs) h = absurd h
leads_back (kept ∷ ps) [] h = absurd h
leads_back (kept ∷ ps) (x ∷ xs) h = let g = leads_back ps xs h in (g.0, ap (λ ys. x ∷ ys) g.1)
leads_back (updated v w ∷ ps) [] h = absurd h
leads_back (updated v w ∷ ps) (x ∷ xs) h = let g = leads_back ps xs h.1 in ((refl, g.0), cons v x _ xs (sym h.0) g.1)
  where
    cons : (a b : Tree) (us vs : List Tree) → a ≡ b → us ≡ vs → a ∷ us ≡ b ∷ vs
    cons a b us vs e f = cc
leads_back (deleted v ∷ ps) [] h = absurd h
leads_back (deleted v ∷ ps) (x ∷ xs) h = let g = leads_back ps xs h.1 in (g.0, cons v x _ xs (sym h.0) g.1)
  where
    cons : (a b : Tree) (us vs : List Tree) → a ≡ b → us ≡ vs → a ∷ us ≡ b ∷ vs
    cons a b us vs e f = cc
leads_back (inserted w ∷ ps) xs h = let g = leads_back ps xs h in ((refl, g.0), g.1)

pub inverse_leads_back : InverseLeadsBack
inverse_leads_back p xs ys h =
    let g = leads_back p xs h.starts in
    let f = leads_normal (map inverted p) (applied p xs) g.0 in
    let e = inverse_is p in
    let back : IsDelta (inverse p) (applied p xs) xs = record {
      starts = let S : List Piece → Type 0 = λ ps. LeadsFrom ps (applied p xs) in subst S (sym e) f.0;
      ends = sym g.1 ∙ (sym f.1 ∙ ap (λ ps. applied ps (applied p xs)) (sym e));
    } in
    let P : List Tree → Type 0 = λ us. IsDelta (inverse p) us xs in subst P (sym h.ends) back

-- a delta that ends at a list leads to it from the list that it started from
pub leads_back_to : (d : List Piece) (ys : List Tree) → LeadsTo d ys → LeadsFrom d (undone d ys) × (applied d (undone d ys) ≡ ys)
leads_back_to d ys h =
    let g = leads_back (map inverted d) ys h in
    let P : List Piece → Type 0 = λ ps. LeadsFrom ps (undone d ys) × (applied ps (undone d ys) ≡ ys) in
    subst P (inverted-inverted d) g

pub delta_to : (d : List Piece) (ys : List Tree) → LeadsTo d ys → IsDelta d (undone d ys) ys
delta_to d ys h = let g = leads_back_to d ys h in record { starts = g.0; ends = sym g.1 }

-- where a delta leads, it ends, and the list that it started from is the first one
pub ends_at : (d : List Piece) (xs ys : List Tree) → IsDelta d xs ys → LeadsTo d ys
ends_at d xs ys h = let P : List Tree → Type 0 = λ zs. LeadsTo d zs in subst P (sym h.ends) (leads_back d xs h.starts).0

pub undone_is : (d : List Piece) (xs ys : List Tree) → IsDelta d xs ys → undone d ys ≡ xs
undone_is d xs ys h = ap (undone d) h.ends ∙ (leads_back d xs h.starts).1

-- a composition leads to where the second delta does, and undoing it is undoing the second and then the first
pub composed_ends : (p q : List Piece) (ys : List Tree) → LeadsTo q ys → LeadsTo p (undone q ys) → LeadsTo (composed p q) ys
composed_ends p q ys hq hp =
    ends_at (composed p q) _ _ (composition_leads p q _ (undone q ys) ys (delta_to p (undone q ys) hp) (delta_to q ys hq))

pub undone_composed : (p q : List Piece) (ys : List Tree) → LeadsTo q ys → LeadsTo p (undone q ys) → undone (composed p q) ys ≡ undone p (undone q ys)
undone_composed p q ys hq hp =
    undone_is (composed p q) _ _ (composition_leads p q _ (undone q ys) ys (delta_to p (undone q ys) hp) (delta_to q ys hq))

-- a composition of deltas that meet is in normal form
pub composition_normal : (p q : List Piece) (xs ys zs : List Tree) → IsDelta p xs ys → IsDelta q ys zs → IsNormal (composed p q)
composition_normal p q xs ys zs h k =
    let fits : new_len p ≡ old_len q = sym (length-applied p xs h.starts) ∙ ap length (sym h.ends) ∙ length_from q ys k.starts in
    let r : (m : List Piece) × Merge p q m = merge_of (length p + length q) p q (omega arith) fits in
    subst IsNormal (sym (composed_merge r.1)) (IsNormal-normal r.0)

pub composed_ends_normal : (p q : List Piece) (ys : List Tree) → LeadsTo q ys → LeadsTo p (undone q ys) → IsNormal (composed p q)
composed_ends_normal p q ys hq hp = composition_normal p q _ (undone q ys) ys (delta_to p (undone q ys) hp) (delta_to q ys hq)

pub inverse_normal : (p : List Piece) → IsNormal (inverse p)
inverse_normal p = subst IsNormal (sym (inverse_is p)) (IsNormal-normal (map inverted p))

-- normal form leads between the same lists
pub normal_leads : (ps : List Piece) (xs ys : List Tree) → IsDelta ps xs ys → IsDelta (normal ps) xs ys
normal_leads ps xs ys h =
    let plain = leads_normal ps xs h.starts in
    record { starts = plain.0; ends = h.ends ∙ sym plain.1 }

-- the identity gives the list that it is applied to
pub applied_no_change : (xs : List Tree) → applied (no_change (length xs)) xs ≡ xs
applied_no_change xs = sym (identity_leads xs).ends

-- and ends at it, and undone it is the same
pub no_change_ends : (xs : List Tree) → LeadsTo (no_change (length xs)) xs
no_change_ends xs = ends_at (no_change (length xs)) xs xs (identity_leads xs)

pub undone_no_change : (xs : List Tree) → undone (no_change (length xs)) xs ≡ xs
undone_no_change xs = undone_is (no_change (length xs)) xs xs (identity_leads xs)
