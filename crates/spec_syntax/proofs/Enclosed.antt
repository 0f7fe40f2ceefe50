-- What the readers of texts and lists come to, by what their parts come to.
use Rattle.std.proofs.Common.{◌≡◌, ℕ, true, false, cond, List, [], ◌∷◌, ◌++◌, length, refl, sym, ap, ◌∙◌, append_assoc, append-nil, codes, zero, suc, ◌-◌, ◌<◌, arith}
use Rattle.std.specs.Prelude.{fold}
use Rattle.spec_value.specs.Tree.{Tree, items_of}
use Rattle.spec_syntax.specs.Reader.{Step, found, stopped, Reader, first_is, made, on, made_of, seq, read_word, after_word, close, all_of, repeated}
use Rattle.spec_syntax.proofs.Joints.{made_same, after_on, later_stops, close_on, close_stops, close_ends, made_close}
use Rattle.spec_syntax.proofs.Folds.{folded_is}
use Rattle.spec_syntax.specs.Text.{joined}
use Rattle.spec_syntax.specs.ValueReader.{begins_char, is, read_char, read_chars, read_elements, read_leaf, read_list, read_nested, read_others, read_text, snoc}

fold_joined : (a : List ℕ) (list : List (List ℕ)) → fold ◌++◌ a list ≡ a ++ joined list
fold_joined a [] = sym (append-nil a)
fold_joined a (c ∷ list) = fold_joined (a ++ c) list ∙ append_assoc a c (joined list)

chars_are : (bs : List ℕ) → read_chars bs ≡ made joined (all_of begins_char read_char bs)
chars_are bs = folded_is ◌++◌ [] (length bs) begins_char read_char bs ∙ made_same (fold ◌++◌ []) joined (repeated (length bs) begins_char read_char bs) (fold_joined [])

-- the text is what stands between the quotes
text_is : (bs rest : List ℕ) → read_word (codes "\"") bs ≡ found tt rest → read_text bs ≡ close (made_of joined (all_of begins_char read_char)) (codes "\"") rest
text_is bs rest h =
    ap (made joined) (after_on (codes "\"") (close (all_of begins_char read_char) (codes "\"")) bs rest h)
    ∙ made_close joined (all_of begins_char read_char) (codes "\"") rest

pub text_found : (bs r1 r2 r3 chars : List ℕ) → read_word (34 ∷ []) bs ≡ found tt r1 → read_chars r1 ≡ found chars r2 → read_word (34 ∷ []) r2 ≡ found tt r3 → read_text bs ≡ found chars r3
text_found bs r1 r2 r3 chars h g k = text_is bs r1 h ∙ close_on (made_of joined (all_of begins_char read_char)) (codes "\"") r1 chars r2 r3 (sym (chars_are r1) ∙ g) k

pub text_stops : (bs : List ℕ) (left : ℕ) → read_word (34 ∷ []) bs ≡ stopped left → read_text bs ≡ stopped left
text_stops bs left h = ap (made joined) (later_stops (codes "\"") (close (all_of begins_char read_char) (codes "\"")) bs left h)

pub text_stops_inside : (bs r1 : List ℕ) (left : ℕ) → read_word (34 ∷ []) bs ≡ found tt r1 → read_chars r1 ≡ stopped left → read_text bs ≡ stopped left
text_stops_inside bs r1 left h g = text_is bs r1 h ∙ close_stops (made_of joined (all_of begins_char read_char)) (codes "\"") r1 left (sym (chars_are r1) ∙ g)

pub text_stops_last : (bs r1 r2 chars : List ℕ) (left : ℕ) → read_word (34 ∷ []) bs ≡ found tt r1 → read_chars r1 ≡ found chars r2 → read_word (34 ∷ []) r2 ≡ stopped left → read_text bs ≡ stopped left
text_stops_last bs r1 r2 chars left h g k = text_is bs r1 h ∙ close_ends (made_of joined (all_of begins_char read_char)) (codes "\"") r1 chars r2 left (sym (chars_are r1) ∙ g) k

pub fold_snoc : {A : Type 0} (a list : List A) → fold snoc a list ≡ a ++ list
fold_snoc a [] = sym (append-nil a)
fold_snoc a (t ∷ list) = fold_snoc (snoc a t) list ∙ append_assoc a (t ∷ []) list

others_are : {A : Type 0} (r : Reader A) (first : A) (bs : List ℕ) → read_others r (first ∷ []) bs ≡ made (λ list. first ∷ list) (all_of (is 44) (after_word (codes ",") r) bs)
others_are r first bs =
    folded_is snoc (first ∷ []) (length bs) (is 44) (after_word (codes ",") r) bs
    ∙ made_same (fold snoc (first ∷ [])) (λ list. first ∷ list) (repeated (length bs) (is 44) (after_word (codes ",") r) bs) (fold_snoc (first ∷ []))

pub elements_none : {A : Type 0} (r : Reader A) (bs : List ℕ) → first_is (is 93) bs ≡ true → read_elements r bs ≡ found [] bs
elements_none r bs h = ap (λ x. cond x (found [] bs) (made_of (λ b. b.0 ∷ b.1) (seq r (all_of (is 44) (after_word (codes ",") r))) bs)) h

elements_some : {A : Type 0} (r : Reader A) (bs : List ℕ) → first_is (is 93) bs ≡ false → read_elements r bs ≡ made_of (λ b. b.0 ∷ b.1) (seq r (all_of (is 44) (after_word (codes ",") r))) bs
elements_some r bs h = ap (λ x. cond x (found [] bs) (made_of (λ b. b.0 ∷ b.1) (seq r (all_of (is 44) (after_word (codes ",") r))) bs)) h

pub made_pair : {A : Type 0} (first : A) (st : Step (List A)) → made {A = A × List A} (λ b. b.0 ∷ b.1) (made (λ list. (first, list)) st) ≡ made (λ list. first ∷ list) st
made_pair first (found list rest) = refl
made_pair first (stopped left) = refl

pub elements_found : {A : Type 0} (r : Reader A) (bs : List ℕ) (first : A) (rest : List ℕ) → first_is (is 93) bs ≡ false → r bs ≡ found first rest → read_elements r bs ≡ read_others r (first ∷ []) rest
elements_found {A = A} r bs first rest h g =
    elements_some r bs h
    ∙ ap (λ st. made {A = A × List A} (λ b. b.0 ∷ b.1) (on st (λ a left. made (λ list. (a, list)) (all_of (is 44) (after_word (codes ",") r) left)))) g
    ∙ made_pair first (all_of (is 44) (after_word (codes ",") r) rest)
    ∙ sym (others_are r first rest)

pub elements_stop : {A : Type 0} (r : Reader A) (bs : List ℕ) (left : ℕ) → first_is (is 93) bs ≡ false → r bs ≡ stopped left → read_elements r bs ≡ stopped left
elements_stop {A = A} r bs left h g =
    elements_some r bs h
    ∙ ap (λ st. made {A = A × List A} (λ b. b.0 ∷ b.1) (on st (λ a rest. made (λ list. (a, list)) (all_of (is 44) (after_word (codes ",") r) rest)))) g

pub list_found : (r : Reader Tree) (bs r1 r2 r3 : List ℕ) (values : List Tree) → read_word (91 ∷ []) bs ≡ found tt r1 → read_elements r r1 ≡ found values r2 → read_word (93 ∷ []) r2 ≡ found tt r3 → read_list r bs ≡ found (items_of values) r3
list_found r bs r1 r2 r3 values h g k =
    ap (made items_of) (after_on (codes "[") (close (read_elements r) (codes "]")) bs r1 h ∙ close_on (read_elements r) (codes "]") r1 values r2 r3 g k)

pub list_stops : (r : Reader Tree) (bs : List ℕ) (left : ℕ) → read_word (91 ∷ []) bs ≡ stopped left → read_list r bs ≡ stopped left
list_stops r bs left h = ap (made items_of) (later_stops (codes "[") (close (read_elements r) (codes "]")) bs left h)

pub list_stops_inside : (r : Reader Tree) (bs r1 : List ℕ) (left : ℕ) → read_word (91 ∷ []) bs ≡ found tt r1 → read_elements r r1 ≡ stopped left → read_list r bs ≡ stopped left
list_stops_inside r bs r1 left h g = ap (made items_of) (after_on (codes "[") (close (read_elements r) (codes "]")) bs r1 h ∙ close_stops (read_elements r) (codes "]") r1 left g)

pub list_stops_last : (r : Reader Tree) (bs r1 r2 : List ℕ) (values : List Tree) (left : ℕ) → read_word (91 ∷ []) bs ≡ found tt r1 → read_elements r r1 ≡ found values r2 → read_word (93 ∷ []) r2 ≡ stopped left → read_list r bs ≡ stopped left
list_stops_last r bs r1 r2 values left h g k = ap (made items_of) (after_on (codes "[") (close (read_elements r) (codes "]")) bs r1 h ∙ close_ends (read_elements r) (codes "]") r1 values r2 left g k)

-- a value is a list where a bracket opens it and the depth allows for one, else a leaf
pub nested_list : (depth : ℕ) (bs : List ℕ) → 0 < depth → first_is (is 91) bs ≡ true → read_nested depth bs ≡ read_list (read_nested (depth - 1)) bs
unfolding read_nested
nested_list zero bs l h = absurd (omega arith)
nested_list (suc depth) bs l h =
    ap (λ x. cond x (read_list (read_nested depth) bs) (read_leaf bs)) h
    ∙ ap (λ d. read_list (read_nested d) bs) (let e : depth ≡ suc depth - 1 = omega arith in e)

pub nested_leaf : (depth : ℕ) (bs : List ℕ) → first_is (is 91) bs ≡ false → read_nested depth bs ≡ read_leaf bs
unfolding read_nested
nested_leaf zero bs h = refl
nested_leaf (suc depth) bs h = ap (λ x. cond x (read_list (read_nested depth) bs) (read_leaf bs)) h

pub nested_flat : (depth : ℕ) (bs : List ℕ) → depth ≡ 0 → read_nested depth bs ≡ read_leaf bs
unfolding read_nested
nested_flat zero bs h = refl
nested_flat (suc depth) bs h = absurd (omega arith)
