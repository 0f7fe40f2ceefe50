-- The spelling of a path, an order, bounds and a function within the limits is spelled: the grammar has it.
use Rattle.std.proofs.Common.{◌≡◌, ℕ, zero, suc, ◌≤◌, Bool, true, false, List, [], ◌∷◌, ◌++◌, length, refl, sym, ap, inl, inr, arith, append_assoc, codes}
use Rattle.std.specs.Prelude.{decimal}
use Rattle.std.specs.List.{AllByRecursion}
use Rattle.std.specs.Fmt.{signed_decimal}
use Rattle.spec_value.specs.Tree.{text}
use Rattle.spec_syntax.specs.Grammar.{Grammar, after, closed, apart, optional, many, listed, upto}
use Rattle.spec_lang.specs.declared.Bounds.{Bounds}
use Rattle.spec_lang.specs.declared.Bounds.TheVariants.{Head, Tail, Middle}
use Rattle.spec_lang.specs.Sorting.{Key}
use Rattle.spec_lang.specs.Func as meant
use Rattle.spec_syntax.specs.ValueText.{spelled_value}
use Rattle.spec_syntax.specs.Path.{path_index, path, key, order}
use Rattle.spec_syntax.specs.Bounds.{two_numbers, bounds}
use Rattle.spec_syntax.specs.Func.{flat_func, func}
use Rattle.spec_syntax.specs.Proper.{IsPath, IsOrder, IsBounds, IsFunc, AreFuncs}
use Rattle.spec_syntax.specs.Spelled.{spelled_steps, spelled_path, spelled_key, spelled_keys, spelled_order, spelled_bounds, spelled_func, spelled_funcs, spelled_other_funcs}
use Rattle.spec_syntax.proofs.Spelled.{natural_decimal, number_spelled, text_spelled}

index_in : (i : ℕ) → i ≤ 65535 → path_index i (decimal i)
index_in i l = natural_decimal 65535 i l (omega arith)

steps_in : (most : ℕ) (steps : List ℕ) → length steps ≤ most → AllByRecursion (λ i. i ≤ 65535) steps → upto most (after (codes ".") path_index) steps (spelled_steps steps)
steps_in most [] l h = refl
steps_in zero (i ∷ steps) l h = absurd (omega arith)
steps_in (suc most) (i ∷ steps) l h = (46 ∷ decimal i, spelled_steps steps, ((tt, i), (46 ∷ [], decimal i, refl, index_in i h.0, refl), refl), steps_in most steps (omega arith) h.1, refl)

pub path_spelled : (p : List ℕ) → IsPath p → path p (spelled_path p)
path_spelled [] h = ((tt, []), (46 ∷ [], [], refl, inr (tt, refl, refl), refl), refl)
path_spelled (i ∷ steps) h =
    let others = steps_in 15 steps (omega (arith, h.0)) h.1.1 in
    ((tt, i ∷ steps), (46 ∷ [], decimal i ++ spelled_steps steps, refl, inl ((i, steps), (decimal i, spelled_steps steps, index_in i h.1.0, others, refl), refl), refl), refl)

key_in : (p : List ℕ) (down : Bool) → IsPath p → let k : Key = record { path = p; down = down } in key k (spelled_key k)
key_in p true h = inl (p, ((tt, p), (codes "desc ", spelled_path p, refl, path_spelled p h, refl), refl), refl)
key_in p false h = inr (p, path_spelled p h, refl)

keys_in : (most : ℕ) (keys : List Key) → length keys ≤ most → AllByRecursion (λ k. IsPath k.path) keys → upto most (after (codes ", ") key) keys (spelled_keys keys)
keys_in most [] l h = refl
keys_in zero (k ∷ keys) l h = absurd (omega arith)
keys_in (suc most) (k ∷ keys) l h =
    (codes ", " ++ spelled_key k, spelled_keys keys, ((tt, k), (codes ", ", spelled_key k, refl, key_in k.path k.down h.0, refl), refl), keys_in most keys (omega arith) h.1, append_comma (spelled_key k) (spelled_keys keys))
  where
    append_comma : (x y : List ℕ) → codes ", " ++ (x ++ y) ≡ (codes ", " ++ x) ++ y
    append_comma x y = refl

pub order_spelled : (keys : List Key) → IsOrder keys → order keys (spelled_order keys)
order_spelled [] h = absurd (omega (arith, h.0))
order_spelled (k ∷ keys) h = ((k, keys), (spelled_key k, spelled_keys keys, key_in k.path k.down h.2.0, keys_in 7 keys (omega (arith, h.1)) h.2.1, refl), refl)

two_in : (k : ℕ → ℕ → Bounds) (a b : ℕ) → a ≤ 4294967295 → b ≤ 4294967295 → two_numbers k (k a b) (decimal a ++ codes " " ++ decimal b)
two_in k a b l m = ((a, b), (decimal a, codes " " ++ decimal b, natural_decimal 4294967295 a l (omega arith), ((tt, b), (codes " ", decimal b, refl, natural_decimal 4294967295 b m (omega arith), refl), refl), append_assoc (decimal a) (codes " ") (decimal b)), refl)

pub bounds_spelled : (b : Bounds) → IsBounds b → bounds b (spelled_bounds b)
bounds_spelled (Head start end) h = inl ((tt, Head start end), (codes "head ", decimal start ++ codes " " ++ decimal end, refl, two_in Head start end h.0 h.1, refl), refl)
bounds_spelled (Tail start end) h = inr (inl ((tt, Tail start end), (codes "tail ", decimal start ++ codes " " ++ decimal end, refl, two_in Tail start end h.0 h.1, refl), refl))
bounds_spelled (Middle start end) h = inr (inr (inl ((tt, Middle start end), (codes "middle ", decimal start ++ codes " " ++ decimal end, refl, two_in Middle start end h.0 h.1, refl), refl)))

funcs_listed : (fs : meant.Funcs) → meant.funcs (meant.listed fs) ≡ fs
funcs_listed meant.none = refl
funcs_listed (meant.more f fs) = ap (meant.more f) (funcs_listed fs)

flat_in : (depth : ℕ) (f : meant.Func) (bs : List ℕ) → flat_func f bs → func depth f bs
unfolding func
flat_in zero f bs s = s
flat_in (suc depth) f bs s = inr (inr s)

-- two things between parentheses
pair_in : {A : Type 0} (V : Grammar A) (a b : A) (t u : List ℕ) → V a t → V b u → closed (apart V (codes ",") V) (codes ")") (a, b) (t ++ codes "," ++ u ++ codes ")")
pair_in V a b t u s r = (((a, b), tt), (t ++ codes "," ++ u, codes ")", (t, codes "," ++ u, s, ((tt, b), (codes ",", u, refl, r, refl), refl), append_assoc t (codes ",") u), refl, refl), refl)

mutual
  unfolding func

  pub func_spelled : (f : meant.Func) (depth : ℕ) → IsFunc depth f → func depth f (spelled_func f)
  func_spelled (meant.at_path p) depth h = flat_in depth (meant.at_path p) (spelled_path p) (inl (p, path_spelled p h, refl))
  func_spelled (meant.bytes bs) depth h = flat_in depth (meant.bytes bs) (spelled_value (text bs)) (inr (inl (bs, text_spelled bs h, refl)))
  func_spelled (meant.count p) depth h =
      flat_in depth (meant.count p) (spelled_func (meant.count p))
      (inr (inr (inl (p, ((tt, p), (codes "count(", spelled_path p ++ codes ")", refl, ((p, tt), (spelled_path p, codes ")", path_spelled p h, refl, refl), refl), refl), refl), refl))))
  func_spelled (meant.total p q) depth h =
      flat_in depth (meant.total p q) (spelled_func (meant.total p q))
      (inr (inr (inr (inl ((p, q), ((tt, (p, q)), (codes "sum(", spelled_path p ++ codes "," ++ spelled_path q ++ codes ")", refl, pair_in path p q (spelled_path p) (spelled_path q) (path_spelled p h.0) (path_spelled q h.1), refl), refl), refl)))))
  func_spelled (meant.number n) depth h = flat_in depth (meant.number n) (signed_decimal n) (inr (inr (inr (inr (n, number_spelled n h, refl)))))
  func_spelled (meant.sum f g) zero h = absurd h
  func_spelled (meant.sum f g) (suc depth) h =
      inl ((f, g), ((tt, (f, g)), (codes "add(", spelled_func f ++ codes "," ++ spelled_func g ++ codes ")", refl, pair_in (func depth) f g (spelled_func f) (spelled_func g) (func_spelled f depth h.0) (func_spelled g depth h.1), refl), refl), refl)
  func_spelled (meant.list fs) zero h = absurd h
  func_spelled (meant.list fs) (suc depth) h =
      inr (inl (meant.listed fs, ((tt, meant.listed fs), (codes "[", spelled_funcs fs ++ codes "]", refl, ((meant.listed fs, tt), (spelled_funcs fs, codes "]", funcs_in fs depth h, refl, refl), refl), refl), refl), ap meant.list (sym (funcs_listed fs))))

  funcs_in : (fs : meant.Funcs) (depth : ℕ) → AreFuncs depth fs → optional [] (listed (func depth) (codes ",")) (meant.listed fs) (spelled_funcs fs)
  funcs_in meant.none depth h = inr (tt, refl, refl)
  funcs_in (meant.more f fs) depth h = inl ((f, meant.listed fs), (spelled_func f, spelled_other_funcs fs, func_spelled f depth h.0, others_in fs depth h.1, refl), refl)

  others_in : (fs : meant.Funcs) (depth : ℕ) → AreFuncs depth fs → many (after (codes ",") (func depth)) (meant.listed fs) (spelled_other_funcs fs)
  others_in meant.none depth h = refl
  others_in (meant.more f fs) depth h = (codes "," ++ spelled_func f, spelled_other_funcs fs, ((tt, f), (codes ",", spelled_func f, refl, func_spelled f depth h.0, refl), refl), others_in fs depth h.1, refl)
