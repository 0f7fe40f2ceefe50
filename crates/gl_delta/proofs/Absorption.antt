-- Composition by recording one change after another.
use Rattle.std.proofs.Common.{◌≡◌, ◌∙◌, ℕ, zero, suc, ◌+◌, ◌-◌, ◌<◌, ◌≤◌, List, [], ◌∷◌, ◌++◌, length, take, Option, Some, slice_get, true, false, refl, ap, sym, subst, arith, append_assoc}
use Rattle.std.specs.List.{remove}
use Rattle.std.proofs.lemmas.List.{length-append}
use Rattle.std.proofs.lemmas.Option.{same_Some, slice_get_within}
use Rattle.spec_lists.specs.Piece.{Piece, kept, updated, deleted, inserted, identity, old_len, new_len, normal}
use Rattle.spec_lists.specs.Sides.{sides, compose, pieces_of}
use Rattle.spec_lists.specs.Delta.{composed}
use Rattle.spec_lists.specs.Changes.{changed_len}
use Rattle.spec_lists.proofs.Normal.{sides-normal}
use Rattle.spec_lists.proofs.Composition.{composition_is_associative, identity_is_neutral}
use Rattle.spec_lists.proofs.DeltaChanges.{old_len-append, new_len-append}
use Rattle.spec_lists.proofs.Precedence.{deleted_before, updated_before, inserted_before}
use Rattle.spec_lists.proofs.ChangeCounts.{changed_cells, changed_len-append, changed_len-composed, changed_len-one}
use Rattle.spec_lists.proofs.Lengths.{old_len-identity, old_len-composed, new_len-composed, old_len-one_insert, new_len-one_insert, old_len-one_set, new_len-one_set, old_len-one_remove, new_len-one_remove}
use Rattle.gl_delta.specs.declared.mark.Changed.{Changed}
use Rattle.gl_delta.specs.declared.mark.Changed.TheVariants.{Updated, Deleted, Inserted}
use Rattle.gl_delta.specs.declared.absorb.Cursor.{Cursor}
use Rattle.gl_delta.specs.Marks.{piece_of}
use Rattle.gl_delta.specs.Pieces.{IsKept, IsComposed, is_kept_piece, is_deleted_piece}
use Rattle.gl_delta.specs.Absorb.{one_change, IsAbsorbing, IsCursor, NoneDeleted, kept_prefix, cells_together}
use Rattle.gl_delta.proofs.Cuts.{length_few}
use Rattle.gl_delta.proofs.Cursors.{IsNext, next_whole, next_removed, next_olds, prefix_change, get_there, remove_there, length-identity}
use Rattle.gl_delta.proofs.CellRuns.{unchanged_is}

-- pieces are within the limit where their lists are
pub absorbing_few : (p q s t : List Piece) (r : ℕ) → IsAbsorbing p q s t r → (length s + 1 ≤ 4294967296) × (length t + 1 ≤ 4294967296)
absorbing_few p q s t r h = (omega (arith, length_few s, h.olds, h.middle), omega (arith, length_few t, h.fits, h.middle, h.news))

-- what is left after one step is left after two
pub absorbing_on : (p q s t s' t' : List Piece) (r r' : ℕ) → IsAbsorbing p q s t r → IsAbsorbing s t s' t' r' → IsAbsorbing p q s' t' r'
absorbing_on p q s t s' t' r r' h k =
    record { same = k.same ∙ h.same; fits = k.fits; normal = k.normal; olds = k.olds; middle = k.middle; news = k.news; spare = k.spare }

-- what one change leaves of itself: a kept piece where its element is still there
abbrev pub left_of : Changed → List Piece
left_of (Updated v w) = kept ∷ []
left_of (Deleted v) = []
left_of (Inserted w) = kept ∷ []

-- the change x of what is left, made first, and the rest are what is left
pub record IsFirst (x : Changed) (n at : ℕ) (t t' : List Piece) : Type 0 where
  pub made : composed (one_change n at x) t' ≡ normal t
  pub within : at + old_len (piece_of x ∷ []) ≤ n
  pub from : old_len (one_change n at x) ≡ n
  pub to : new_len (one_change n at x) ≡ old_len t'
  pub one : changed_len (one_change n at x) ≡ 1
  pub news : new_len t' ≡ new_len t
  pub fewer : suc (changed_len t') ≡ changed_len t

lens : (b m a : List Piece) → (old_len (b ++ (m ++ a)) ≡ old_len b + (old_len m + old_len a)) × (new_len (b ++ (m ++ a)) ≡ new_len b + (new_len m + new_len a)) × (changed_len (b ++ (m ++ a)) ≡ changed_len b + (changed_len m + changed_len a))
lens b m a =
    (omega (arith, old_len-append b (m ++ a), old_len-append m a), omega (arith, new_len-append b (m ++ a), new_len-append m a), omega (arith, changed_len-append b (m ++ a), changed_len-append m a))

pub is_first : (x : Changed) (b a : List Piece) (n at : ℕ) → at ≡ old_len b → n ≡ old_len (b ++ piece_of x ∷ a) → IsFirst x n at (b ++ piece_of x ∷ a) (b ++ (left_of x ++ a))
is_first (Updated v w) b a n at e f =
    let l = lens b (updated v w ∷ []) a in
    let m = lens b (kept ∷ []) a in
    let h : at < n = omega (arith, e, f, l.0) in
    record {
      made = updated_before b a n at v w e f;
      within = omega (arith, h);
      from = old_len-one_set n at v w h;
      to = omega (arith, new_len-one_set n at v w h, f, l.0, m.0);
      one = changed_len-one at (n - suc at) (updated v w) refl;
      news = omega (arith, l.1, m.1);
      fewer = omega (arith, l.2, m.2);
    }
is_first (Deleted v) b a n at e f =
    let l = lens b (deleted v ∷ []) a in
    let m = lens b [] a in
    let h : at < n = omega (arith, e, f, l.0) in
    record {
      made = deleted_before b a n at v e f;
      within = omega (arith, h);
      from = old_len-one_remove n at v h;
      to = omega (arith, new_len-one_remove n at v h, f, l.0, m.0);
      one = changed_len-one at (n - suc at) (deleted v) refl;
      news = omega (arith, l.1, m.1);
      fewer = omega (arith, l.2, m.2);
    }
is_first (Inserted w) b a n at e f =
    let l = lens b (inserted w ∷ []) a in
    let m = lens b (kept ∷ []) a in
    let h : at ≤ n = omega (arith, e, f, l.0) in
    record {
      made = inserted_before b a n at w e f;
      within = omega (arith, h);
      from = old_len-one_insert n at w h;
      to = omega (arith, new_len-one_insert n at w h, f, l.0, m.0);
      one = changed_len-one at (n - at) (inserted w) refl;
      news = omega (arith, l.1, m.1);
      fewer = omega (arith, l.2, m.2);
    }

-- there is a place for one more piece where the change needs one
pub record_few : (p q s t t' : List Piece) (x : Changed) (at r : ℕ) → IsAbsorbing p q s t r → IsFirst x (new_len s) at t t' → old_len t' ≤ 2147483647 → length s + 1 ≤ 4294967294 + old_len (piece_of x ∷ [])
record_few p q s t t' (Updated v w) at r h k few = omega (arith, length_few s, h.olds, h.middle)
record_few p q s t t' (Deleted v) at r h k few = omega (arith, length_few s, h.olds, h.middle)
record_few p q s t t' (Inserted w) at r h k few =
    let n = new_len-one_insert (new_len s) at w (omega (arith, k.within)) in
    omega (arith, length_few s, h.olds, n, k.to, few)

-- one change of what is left is recorded
pub recorded : (p q s t s' t' : List Piece) (x : Changed) (at r r' : ℕ) → IsAbsorbing p q s t r → IsFirst x (new_len s) at t t' → IsComposed s (one_change (new_len s) at x) s' → old_len t' ≤ 2147483647 → r ≤ r' → IsAbsorbing p q s' t' r'
recorded p q s t s' t' x at r r' h k c few more =
    let one = one_change (new_len s) at x in
    let fit : new_len s ≡ old_len one = sym k.from in
    let o : old_len s' ≡ old_len s = ap old_len c.value ∙ old_len-composed s one fit in
    let m : new_len s' ≡ old_len t' = ap new_len c.value ∙ (new_len-composed s one fit ∙ k.to) in
    let n : changed_len s' ≡ changed_len (composed s one) = ap changed_len c.value in
    record {
      same = ap (λ ps. composed ps t') c.value
          ∙ (composition_is_associative s one t' fit k.to
          ∙ (ap (composed s) k.made ∙ (ap (λ z. pieces_of (compose (sides s) z)) (sides-normal t) ∙ h.same)));
      fits = m;
      normal = c.normal;
      olds = omega (arith, o, h.olds);
      middle = omega (arith, m, few);
      news = omega (arith, k.news, h.news);
      spare = omega (arith, n, changed_len-composed s one fit, k.one, k.fewer, h.spare, more);
    }

-- a deletion among what is left, taken out
left_none : (y : Changed) (o : Option Piece) → o ≡ Some (piece_of y) → is_deleted_piece o ≡ true → left_of y ≡ []
left_none y o e d = by_kind y (ap is_deleted_piece (sym e) ∙ d)
  where
    by_kind : (x : Changed) → is_deleted_piece (Some (piece_of x)) ≡ true → left_of x ≡ []
    by_kind (Updated v w) t = cc
    by_kind (Deleted v) t = refl
    by_kind (Inserted w) t = cc

pub taken_out : (ps qs : List Piece) (c : Cursor) (keeps n : ℕ) (y : Changed) → IsCursor ps c → IsNext ps c.position keeps → slice_get ps (c.position + keeps) ≡ Some (piece_of y) → is_deleted_piece (slice_get ps (c.position + keeps)) ≡ true → qs ≡ remove ps (c.position + keeps) → n ≡ old_len ps → IsFirst y n (c.at + keeps) ps qs
taken_out ps qs c keeps n y k h e d f g =
    let b = take c.position ps ++ identity keeps in
    let whole : ps ≡ b ++ piece_of y ∷ h.rest = next_whole ps c.position keeps y h e in
    let none : left_of y ≡ [] = left_none y _ e d in
    let is : qs ≡ b ++ (left_of y ++ h.rest) = f ∙ (next_removed ps c.position keeps h ∙ ap (λ xs. b ++ (xs ++ h.rest)) (sym none)) in
    let F : List Piece → Type 0 = λ xs. IsFirst y n (c.at + keeps) xs qs in
    let G : List Piece → Type 0 = λ xs. IsFirst y n (c.at + keeps) (b ++ piece_of y ∷ h.rest) xs in
    subst F (sym whole) (subst G (sym is) (is_first y b h.rest n (c.at + keeps) (next_olds ps c keeps k h) (g ∙ ap old_len whole)))

-- that leaves no more old elements
pub out_few : (ps qs : List Piece) (position keeps : ℕ) → IsNext ps position keeps → qs ≡ remove ps (position + keeps) → old_len qs ≤ old_len ps
out_few ps qs position keeps h f =
    let b = take position ps ++ identity keeps in
    let x = piece_of h.change in
    let m : old_len qs ≡ old_len b + old_len h.rest = ap old_len (f ∙ next_removed ps position keeps h) ∙ old_len-append b h.rest in
    let n : old_len ps ≡ old_len b + old_len (x ∷ h.rest) = ap old_len h.whole ∙ old_len-append b (x ∷ h.rest) in
    omega (arith, m, n, old_len-append (x ∷ []) h.rest)

-- kept pieces in front, which the first change joins
kept_on : (n : ℕ) (a : List Piece) → kept ∷ (identity n ++ a) ≡ identity n ++ kept ∷ a
kept_on zero a = refl
kept_on (suc n) a = ap (λ qs. kept ∷ qs) (kept_on n a)

one_on : (at n : ℕ) (a : List Piece) → identity (suc at) ++ (identity n ++ a) ≡ (identity at ++ identity n) ++ kept ∷ a
one_on zero n a = kept_on n a
one_on (suc at) n a = ap (λ qs. kept ∷ qs) (one_on at n a)

nothing_follows : (b a : List Piece) → NoneDeleted (b ++ a) → NoneDeleted a
nothing_follows [] a h = h
nothing_follows (kept ∷ b) a h = nothing_follows b a h
nothing_follows (updated v w ∷ b) a h = nothing_follows b a h
nothing_follows (deleted v ∷ b) a h = absurd h
nothing_follows (inserted w ∷ b) a h = nothing_follows b a h

stays : (y : Changed) (a : List Piece) → NoneDeleted (piece_of y ∷ a) → (left_of y ≡ kept ∷ []) × NoneDeleted a
stays (Updated v w) a h = (refl, h)
stays (Deleted v) a h = absurd h
stays (Inserted w) a h = (refl, h)

pub none_identity : (n : ℕ) (a : List Piece) → NoneDeleted a → NoneDeleted (identity n ++ a)
none_identity zero a h = h
none_identity (suc n) a h = none_identity n a h

-- the first change of what is left, where no deletion is, taken out: its element is kept
pub taken_first : (q qs : List Piece) (at keeps n : ℕ) (y : Changed) → keeps ≡ kept_prefix q → 0 < changed_len q → NoneDeleted q → slice_get q keeps ≡ Some (piece_of y) → qs ≡ remove q keeps → n ≡ old_len (identity at ++ q) → IsFirst y n (at + keeps) (identity at ++ q) (identity (at + 1) ++ qs) × NoneDeleted qs
taken_first q qs at keeps n y k more h e f g =
    let x = prefix_change q more in
    let found : q ≡ identity keeps ++ piece_of x.0 ∷ x.1 = x.2 ∙ ap (λ m. identity m ++ piece_of x.0 ∷ x.1) (sym k) in
    let get : slice_get q keeps ≡ Some (piece_of x.0) = ap (λ ps. slice_get ps keeps) found ∙ get_there (identity keeps) x.1 keeps (piece_of x.0) (length-identity keeps) in
    let same : piece_of x.0 ≡ piece_of y = same_Some _ _ (sym get ∙ e) in
    let whole : q ≡ identity keeps ++ piece_of y ∷ x.1 = found ∙ ap (λ p. identity keeps ++ p ∷ x.1) same in
    let N : List Piece → Type 0 = NoneDeleted in
    let on = stays y x.1 (nothing_follows (identity keeps) (piece_of y ∷ x.1) (subst N whole h)) in
    let rest : qs ≡ identity keeps ++ x.1 = f ∙ (ap (λ ps. remove ps keeps) whole ∙ remove_there (identity keeps) x.1 keeps (piece_of y) (length-identity keeps)) in
    let b = identity at ++ identity keeps in
    let before : identity at ++ q ≡ b ++ piece_of y ∷ x.1 = ap (λ ps. identity at ++ ps) whole ∙ sym (append_assoc (identity at) (identity keeps) (piece_of y ∷ x.1)) in
    let after : identity (at + 1) ++ qs ≡ b ++ (left_of y ++ x.1) =
    (let i : at + 1 ≡ suc at = omega arith in ap (λ m. identity m ++ qs) i)
    ∙ (ap (λ ps. identity (suc at) ++ ps) rest ∙ (one_on at keeps x.1 ∙ ap (λ ps. b ++ (ps ++ x.1)) (sym on.0))) in
    let olds : at + keeps ≡ old_len b = omega (arith, old_len-append (identity at) (identity keeps), old_len-identity at, old_len-identity keeps) in
    let F : List Piece → Type 0 = λ ps. IsFirst y n (at + keeps) ps (identity (at + 1) ++ qs) in
    let G : List Piece → Type 0 = λ ps. IsFirst y n (at + keeps) (b ++ piece_of y ∷ x.1) ps in
    (subst F (sym before) (subst G (sym after) (is_first y b x.1 n (at + keeps) olds (g ∙ ap old_len before))), subst N (sym rest) (none_identity keeps x.1 on.1))

none_longer : (ps : List Piece) → NoneDeleted ps → old_len ps ≤ new_len ps
none_longer [] h = omega arith
none_longer (kept ∷ ps) h = omega (arith, none_longer ps h)
none_longer (updated v w ∷ ps) h = omega (arith, none_longer ps h)
none_longer (deleted v ∷ ps) h = absurd h
none_longer (inserted w ∷ ps) h = omega (arith, none_longer ps h)

-- where no deletion is left, the new list is the longest
pub rest_few : (x : Changed) (n at : ℕ) (t t' : List Piece) → IsFirst x n at t t' → NoneDeleted t' → new_len t ≤ 2147483647 → old_len t' ≤ 2147483647
rest_few x n at t t' k h few = omega (arith, none_longer t' h, k.news, few)

-- nothing is left: the composition is made
absorbed_all : (p q s t : List Piece) (r : ℕ) → IsAbsorbing p q s t r → changed_len t ≡ 0 → IsComposed p q s
absorbed_all p q s t r h e =
    let is : t ≡ identity (new_len s) = unchanged_is t e ∙ ap identity (sym h.fits) in
    let neutral = identity_is_neutral s h.normal in
    record { value = sym neutral.1 ∙ (ap (composed s) (sym is) ∙ h.same); normal = h.normal }

done_changed : (n : ℕ) (t : List Piece) → changed_len (identity n ++ t) ≡ changed_len t
done_changed zero t = refl
done_changed (suc n) t = done_changed n t

-- what holds while changes are left after elements that are done
pub record IsAhead (s q : List Piece) (at keeps room : ℕ) : Type 0 where
  pub change : Changed
  pub there : slice_get q keeps ≡ Some (piece_of change)
  pub within : keeps < length q
  pub few : at + length q + 1 ≤ 4294967296
  pub recorded_few : length s + 1 ≤ 4294967296
  pub spare : changed_len s < room

pub is_ahead : (p p' s q : List Piece) (at keeps r : ℕ) → IsAbsorbing p p' s (identity at ++ q) r → keeps ≡ kept_prefix q → 0 < changed_len q → IsAhead s q at keeps r
is_ahead p p' s q at keeps r h k more =
    let x = prefix_change q more in
    let found : q ≡ identity keeps ++ piece_of x.0 ∷ x.1 = x.2 ∙ ap (λ m. identity m ++ piece_of x.0 ∷ x.1) (sym k) in
    let get : slice_get q keeps ≡ Some (piece_of x.0) = ap (λ ps. slice_get ps keeps) found ∙ get_there (identity keeps) x.1 keeps (piece_of x.0) (length-identity keeps) in
    let few = absorbing_few p p' s (identity at ++ q) r h in
    record {
      change = x.0;
      there = get;
      within = slice_get_within q keeps (piece_of x.0) get;
      few = omega (arith, few.1, length-append (identity at) q, length-identity at);
      recorded_few = few.0;
      spare = omega (arith, h.spare, done_changed at q, more);
    }

pub changed_there : (o : Option Piece) (x : Changed) → o ≡ Some (piece_of x) → is_kept_piece o ≡ false
changed_there o x e = ap is_kept_piece e ∙ by_kind x
  where
    by_kind : (y : Changed) → is_kept_piece (Some (piece_of y)) ≡ false
    by_kind (Updated v w) = refl
    by_kind (Deleted v) = refl
    by_kind (Inserted w) = refl

pub fewer_left : (x : Changed) (n at i : ℕ) (q qs : List Piece) → IsFirst x n i (identity at ++ q) (identity (at + 1) ++ qs) → changed_len qs < changed_len q
fewer_left x n at i q qs h = omega (arith, h.fewer, done_changed at q, done_changed (at + 1) qs)

pub absorbed_rest : (p p' s q : List Piece) (at r : ℕ) → IsAbsorbing p p' s (identity at ++ q) r → changed_len q ≡ 0 → IsComposed p p' s
absorbed_rest p p' s q at r h e = absorbed_all p p' s (identity at ++ q) r h (done_changed at q ∙ e)

-- nothing is recorded yet
pub absorbing_all : (p q : List Piece) (olds middle olds' news r : ℕ) → IsKept p olds middle → IsKept q olds' news → old_len q ≡ new_len p → changed_len p + cells_together p q ≤ r → IsAbsorbing p q p q r
absorbing_all p q olds middle olds' news r h k fits spare =
    record {
      same = refl;
      fits = sym fits;
      normal = h.normal;
      olds = omega (arith, h.olds_is, h.olds_few);
      middle = omega (arith, h.news_is, h.news_few);
      news = omega (arith, k.news_is, k.news_few);
      spare = omega (arith, spare, changed_cells q);
    }

pub kept_absorbed : (p q s : List Piece) (olds middle olds' news : ℕ) → IsKept p olds middle → IsKept q olds' news → old_len q ≡ new_len p → IsComposed p q s → IsKept s olds news
kept_absorbed p q s olds middle olds' news h k fits c =
    record {
      olds_is = h.olds_is ∙ sym (ap old_len c.value ∙ old_len-composed p q (sym fits));
      news_is = k.news_is ∙ sym (ap new_len c.value ∙ new_len-composed p q (sym fits));
      olds_few = h.olds_few;
      news_few = k.news_few;
      normal = c.normal;
    }
