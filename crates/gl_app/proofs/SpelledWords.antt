-- An order that is read is spelled so, and one that is spelled is read again.
use Rattle.std.proofs.Common.{◌≡◌, ◌∙◌, ℕ, ◌<◌, ◌^◌, Bool, true, false, not, cond, eqb, List, [], ◌∷◌, ◌++◌, map, Option, Some, None, refl, sym, ap, subst, arith, append_assoc, append-nil}
use Rattle.std.specs.Prelude.{◌≤◌, ◌&&◌, nat_le, codes, decimal, bytes_eq, option_map, option_and_then, is_some}
use Rattle.std.specs.List.{AllByRecursion}
use Rattle.std.proofs.lemmas.Bool.Decides.{nat_tests}
use Rattle.std.proofs.lemmas.Bool.{and_parts, eqb-true, not-true, false≢true}
use Rattle.std.proofs.lemmas.Option.{same_Some, none-some}
use Rattle.std.proofs.lemmas.Slice.Eq.{bytes_eq-Decides}
use Rattle.gl_outside.specs.declared.gate.Actor.{Actor}
use Rattle.gl_outside.specs.declared.gate.Actor.TheVariants.{Writer, Proxy}
use Rattle.spec_reports.specs.Order.{spelled_actor, spelled_rest, spelled_order, IsActor, AsksReplay}
use Rattle.spec_reports.specs.Words.{Request, check, replay, run, big, Asks, AsksBig, HaveNoForm}
use Rattle.gl_syntax.specs.Numbers.{index_in}
use Rattle.spec_reports.specs.Cuts.{cut, with_prefix}
use Rattle.gl_syntax.proofs.LineCuts.{longer, lacks}
use Rattle.gl_syntax.proofs.Numbers.{index_takes, index_again}
use Rattle.gl_syntax.proofs.Digits.{decimal_lacks}
use Rattle.gl_app.specs.Words.{actor_in, pieces, actors_in, order_in, size_of, size_in, asked}
use Rattle.spec_reports.proofs.Words.{one_request}

-- where a comma stands, the first piece ends
pieces_at_byte : (b : ℕ) (bs : List ℕ) (t : Bool) (o : Option (List ℕ × List ℕ))
    → ((q : List ℕ × List ℕ) → o ≡ Some q → pieces bs ≡ q.0 ∷ pieces q.1) → (parts : List ℕ × List ℕ)
    → cond t (Some ([], bs)) (longer b o) ≡ Some parts
    → cond t ([] ∷ pieces bs) (with_prefix b (pieces bs)) ≡ parts.0 ∷ pieces parts.1
pieces_at_byte b bs true o ih parts e = subst (λ (y : List ℕ × List ℕ). [] ∷ pieces bs
    ≡ y.0 ∷ pieces y.1) (same_Some _ _ e) refl
pieces_at_byte b bs false None ih parts e = absurd (none-some _ e)
pieces_at_byte b bs false (Some q) ih parts e = subst (λ (y : List ℕ × List ℕ). with_prefix b (pieces bs)
    ≡ y.0 ∷ pieces y.1) (same_Some _ _ e) (ap (with_prefix b) (ih q refl))

pub pieces_at : (bs : List ℕ) (parts : List ℕ × List ℕ) → cut 44 bs ≡ Some parts → pieces bs ≡ parts.0 ∷ pieces parts.1
pieces_at [] parts e = absurd (none-some _ e)
pieces_at (b ∷ bs) parts e = pieces_at_byte b bs (eqb b 44) (cut 44 bs) (pieces_at bs) parts e

one_piece_at : (b : ℕ) (bs : List ℕ) (t : Bool) (o : Option (List ℕ × List ℕ)) → (o ≡ None → pieces bs ≡ bs ∷ [])
    → cond t (Some ([], bs)) (longer b o) ≡ None → cond t ([] ∷ pieces bs) (with_prefix b (pieces bs)) ≡ (b ∷ bs) ∷ []
one_piece_at b bs true o ih e = absurd (none-some _ (sym e))
one_piece_at b bs false None ih e = ap (with_prefix b) (ih refl)
one_piece_at b bs false (Some q) ih e = absurd (none-some _ (sym e))

-- and without one there is one piece
pub one_piece : (bs : List ℕ) → cut 44 bs ≡ None → pieces bs ≡ bs ∷ []
one_piece [] e = refl
one_piece (b ∷ bs) e = one_piece_at b bs (eqb b 44) (cut 44 bs) (one_piece bs) e

-- pieces with commas between them
abbrev joined_rest : List (List ℕ) → List ℕ
joined_rest [] = []
joined_rest (piece ∷ others) = 44 ∷ piece ++ joined_rest others

abbrev joined : List (List ℕ) → List ℕ
joined [] = []
joined (piece ∷ others) = piece ++ joined_rest others

-- there is one piece at least
some_piece_at : (b : ℕ) (bs : List ℕ) (t : Bool) → (first : List ℕ) × (others : List (List ℕ)) × (pieces bs ≡ first ∷ others)
    → (first : List ℕ) × (others : List (List ℕ)) × (cond t ([] ∷ pieces bs) (with_prefix b (pieces bs)) ≡ first ∷ others)
some_piece_at b bs true some = ([], pieces bs, refl)
some_piece_at b bs false some = (b ∷ some.0, some.1, ap (with_prefix b) some.2)

some_piece : (bs : List ℕ) → (first : List ℕ) × (others : List (List ℕ)) × (pieces bs ≡ first ∷ others)
some_piece [] = ([], [], refl)
some_piece (b ∷ bs) = some_piece_at b bs (eqb b 44) (some_piece bs)

join_at : (b : ℕ) (bs : List ℕ) (first : List ℕ) (others : List (List ℕ)) (t : Bool) → eqb b 44 ≡ t
    → pieces bs ≡ first ∷ others → joined (pieces bs) ≡ bs
    → joined (cond t ([] ∷ pieces bs) (with_prefix b (pieces bs))) ≡ b ∷ bs
join_at b bs first others true h some ih = ap joined_rest some ∙ ap (λ l. 44 ∷ l) (sym (ap joined some) ∙ ih)
    ∙ ap (λ c. c ∷ bs) (sym (eqb-true b 44 h))
join_at b bs first others false h some ih = ap (λ ps. joined (with_prefix b ps)) some
    ∙ ap (λ l. b ∷ l) (sym (ap joined some) ∙ ih)

-- the pieces of bytes, put together again
joined-pieces : (bs : List ℕ) → joined (pieces bs) ≡ bs
joined-pieces [] = refl
joined-pieces (b ∷ bs) = let some = some_piece bs in join_at b bs some.0 some.1 (eqb b 44) refl some.2
    (joined-pieces bs)

joined_rest-actors : (order : List Actor) → joined_rest (map spelled_actor order) ≡ spelled_rest order
joined_rest-actors [] = refl
joined_rest-actors (a ∷ order) = ap (λ l. 44 ∷ spelled_actor a ++ l) (joined_rest-actors order)

actor_at : (b : ℕ) (bs : List ℕ) (a : Actor) (s t : Bool) (o : Option ℕ) → eqb b 119 ≡ s → eqb b 112 ≡ t
    → ((n : ℕ) → o ≡ Some n → (n < 2 ^ 32) × (bs ≡ decimal n))
    → cond s (option_map Writer o) (cond t (option_map Proxy o) None) ≡ Some a
    → (b ∷ bs ≡ spelled_actor a) × IsActor a
actor_at b bs a true t None w p number e = absurd (none-some _ e)
actor_at b bs a true t (Some n) w p number e = subst (λ (x : Actor). (b ∷ bs ≡ spelled_actor x) × IsActor x)
    (same_Some _ _ e) (ap (λ c. c ∷ bs) (eqb-true b 119 w) ∙ ap (λ l. 119 ∷ l) (number n refl).1, (number n refl).0)
actor_at b bs a false true None w p number e = absurd (none-some _ e)
actor_at b bs a false true (Some n) w p number e = subst (λ (x : Actor). (b ∷ bs ≡ spelled_actor x) × IsActor x)
    (same_Some _ _ e) (ap (λ c. c ∷ bs) (eqb-true b 112 p) ∙ ap (λ l. 112 ∷ l) (number n refl).1, (number n refl).0)
actor_at b bs a false false o w p number e = absurd (none-some _ e)

actor_takes : (bs : List ℕ) (a : Actor) → actor_in bs ≡ Some a → (bs ≡ spelled_actor a) × IsActor a
unfolding actor_in
actor_takes [] a e = absurd (none-some _ e)
actor_takes (b ∷ bs) a e = actor_at b bs a (eqb b 119) (eqb b 112) (index_in bs) refl refl (index_takes bs) e

abbrev AreActors : List (List ℕ) → List Actor → Type 0
AreActors ps order = (ps ≡ map spelled_actor order) × AllByRecursion IsActor order

actors_at : (p : List ℕ) (ps : List (List ℕ)) (order : List Actor) (o : Option Actor) (os : Option (List Actor))
    → ((a : Actor) → o ≡ Some a → (p ≡ spelled_actor a) × IsActor a)
    → ((more : List Actor) → os ≡ Some more → AreActors ps more)
    → option_and_then (λ a. option_map (λ more. a ∷ more) os) o ≡ Some order → AreActors (p ∷ ps) order
actors_at p ps order None os one rest e = absurd (none-some _ e)
actors_at p ps order (Some a) None one rest e = absurd (none-some _ e)
actors_at p ps order (Some a) (Some more) one rest e =
    let first = one a refl in
    let others = rest more refl in
    subst (AreActors (p ∷ ps)) (same_Some _ _ e) (
      ap (λ q. q ∷ ps) first.0
          ∙ ap (λ qs. spelled_actor a ∷ qs) others.0,
      (first.1, others.1),
    )

actors_take : (ps : List (List ℕ)) (order : List Actor) → actors_in ps ≡ Some order → AreActors ps order
actors_take [] order e = subst (AreActors []) (same_Some _ _ e) (refl, tt)
actors_take (p ∷ ps) order e = actors_at p ps order (actor_in p) (actors_in ps) (actor_takes p) (actors_take ps) e

abbrev Spelled : List ℕ → List Actor → Type 0
Spelled bs order = (bs ≡ spelled_order order) × AllByRecursion IsActor order

from_actors : (bs : List ℕ) (order : List Actor) → AreActors (pieces bs) order → Spelled bs order
from_actors bs [] are = let some = some_piece bs in let e : some.0 ∷ some.1 ≡ [] = sym some.2 ∙ are.0 in absurd (cc)
from_actors bs (a ∷ order) are = (
  sym (joined-pieces bs) ∙ ap joined are.0
      ∙ ap (λ l. spelled_actor a ++ l) (joined_rest-actors order),
  are.1,
)

order_at : (bs : List ℕ) (order : List Actor) (t : Bool) → bytes_eq bs (codes "-") ≡ t
    → cond t (Some []) (actors_in (pieces bs)) ≡ Some order → Spelled bs order
order_at bs order true h e = subst (Spelled bs) (same_Some _ _ e) ((bytes_eq-Decides bs (codes "-")).0 h, tt)
order_at bs order false h e = from_actors bs order (actors_take (pieces bs) order e)

-- an order that is read is spelled so
order_takes : (bs : List ℕ) (order : List Actor) → order_in bs ≡ Some order → Spelled bs order
order_takes bs order e = order_at bs order (bytes_eq bs (codes "-")) refl e

alone_at : (keyword : List ℕ) (request : Request) (t : Bool) → bytes_eq keyword (codes "check") ≡ t
    → cond t (Some check) None ≡ Some request → Asks (keyword ∷ []) request
alone_at keyword request true h e = subst (Asks (keyword ∷ [])) (same_Some _ _ e)
    (ap (λ k. k ∷ []) ((bytes_eq-Decides keyword (codes "check")).0 h))
alone_at keyword request false h e = absurd (none-some _ e)

asks_order : (keyword bs : List ℕ) (o : Option (List Actor)) (request : Request) → keyword ≡ codes "replay"
    → order_in bs ≡ o → option_map replay o ≡ Some request → Asks (keyword ∷ bs ∷ []) request
asks_order keyword bs None request k h e = absurd (none-some _ e)
asks_order keyword bs (Some order) request k h e =
    let spelled = order_takes bs order h in
    let asks : AsksReplay (keyword ∷ bs ∷ []) order =
    record { are = ap (λ w. w ∷ bs ∷ []) k ∙ ap (λ l. codes "replay" ∷ l ∷ []) spelled.0; actors = spelled.1 } in
    subst (Asks (keyword ∷ bs ∷ [])) (same_Some _ _ e) asks

-- a size that is read is spelled so
size_at : (m n : ℕ) (t : Bool) → (nat_le 1 m && nat_le m 10000) ≡ t → cond t (Some m) None ≡ Some n
    → (m ≡ n) × (1 ≤ m) × (m ≤ 10000)
size_at m n true h e =
    let both = and_parts (nat_le 1 m) (nat_le m 10000) h in
    (same_Some _ _ e, grind (arith, nat_tests, both.0), grind (arith, nat_tests, both.1))
size_at m n false h e = absurd (none-some _ e)

asks_size_of : (keyword bs : List ℕ) (m n : ℕ) → keyword ≡ codes "big" → index_in bs ≡ Some m → size_of m ≡ Some n
    → Asks (keyword ∷ bs ∷ []) (big n)
asks_size_of keyword bs m n k h e =
    let within = size_at m n (nat_le 1 m && nat_le m 10000) refl e in
    let spelled = index_takes bs m h in
    let are = ap (λ w. w ∷ bs ∷ []) k ∙ ap (λ l. codes "big" ∷ l ∷ []) (spelled.1 ∙ ap decimal within.0) in
    (tt, record { are = are; least = omega (arith, within.0, within.1); most = omega (arith, within.0, within.2) })

asks_size : (keyword bs : List ℕ) (o : Option ℕ) (request : Request) → keyword ≡ codes "big"
    → index_in bs ≡ o → option_map big (option_and_then size_of o) ≡ Some request → Asks (keyword ∷ bs ∷ []) request
asks_size keyword bs None request k h e = absurd (none-some _ e)
asks_size keyword bs (Some m) request k h e = by (size_of m) refl e
  where
    by : (s : Option ℕ) → size_of m ≡ s → option_map big s ≡ Some request → Asks (keyword ∷ bs ∷ []) request
    by None is f = absurd (none-some _ f)
    by (Some n) is f = subst (Asks (keyword ∷ bs ∷ [])) (same_Some _ _ f) (asks_size_of keyword bs m n k h is)

asks_at : (keyword bs : List ℕ) (request : Request) (t u : Bool) → bytes_eq keyword (codes "replay") ≡ t
    → bytes_eq keyword (codes "big") ≡ u
    → cond t (option_map replay (order_in bs)) (cond u (option_map big (size_in bs)) None) ≡ Some request
    → Asks (keyword ∷ bs ∷ []) request
asks_at keyword bs request true u h k e = asks_order keyword bs (order_in bs) request
    ((bytes_eq-Decides keyword (codes "replay")).0 h) refl e
asks_at keyword bs request false true h k e = asks_size keyword bs (index_in bs) request
    ((bytes_eq-Decides keyword (codes "big")).0 k) refl e
asks_at keyword bs request false false h k e = absurd (none-some _ e)

-- the words ask for what is read in them
asks : (words : List (List ℕ)) (request : Request) → asked words ≡ Some request → Asks words request
asks [] request e = absurd (none-some _ e)
asks (keyword ∷ []) request e = alone_at keyword request (bytes_eq keyword (codes "check")) refl e
asks (keyword ∷ bs ∷ []) request e =
    asks_at keyword bs request (bytes_eq keyword (codes "replay")) (bytes_eq keyword (codes "big")) refl refl e
asks (keyword ∷ bs ∷ more ∷ words) request e = absurd (none-some _ e)

lacked : (b : ℕ) (bs : List ℕ) → lacks 44 (b ∷ bs) ≡ true → (eqb b 44 ≡ false) × (lacks 44 bs ≡ true)
lacked b bs h = let both = and_parts (not (eqb b 44)) (lacks 44 bs) h in (not-true (eqb b 44) both.0, both.1)

prefix_piece : (u v : List ℕ) → lacks 44 u ≡ true → pieces (u ++ 44 ∷ v) ≡ u ∷ pieces v
prefix_piece [] v h = refl
prefix_piece (b ∷ u) v h = let both = lacked b u h in rw (both.0, prefix_piece u v both.1) refl

last_piece : (u : List ℕ) → lacks 44 u ≡ true → pieces u ≡ u ∷ []
last_piece [] h = refl
last_piece (b ∷ u) h = let both = lacked b u h in rw (both.0, last_piece u both.1) refl

actor_lacks : (a : Actor) → IsActor a → lacks 44 (spelled_actor a) ≡ true
actor_lacks (Writer n) small = decimal_lacks 44 n (omega arith) (omega arith)
actor_lacks (Proxy n) small = decimal_lacks 44 n (omega arith) (omega arith)

pieces_again : (a : Actor) (order : List Actor) → IsActor a → AllByRecursion IsActor order
    → pieces (spelled_actor a ++ spelled_rest order) ≡ spelled_actor a ∷ map spelled_actor order
pieces_again a [] small others = ap pieces (append-nil (spelled_actor a))
    ∙ last_piece (spelled_actor a) (actor_lacks a small)
pieces_again a (b ∷ order) small others = prefix_piece (spelled_actor a) (spelled_actor b
    ++ spelled_rest order) (actor_lacks a small) ∙ ap (λ ps. spelled_actor a ∷ ps)
    (pieces_again b order others.0 others.1)

actor_again : (a : Actor) → IsActor a → actor_in (spelled_actor a) ≡ Some a
unfolding actor_in
actor_again (Writer n) small = ap (option_map Writer) (index_again n small)
actor_again (Proxy n) small = ap (option_map Proxy) (index_again n small)

actors_again : (order : List Actor) → AllByRecursion IsActor order → actors_in (map spelled_actor order) ≡ Some order
actors_again [] all = refl
actors_again (a ∷ order) all = rw (actor_again a all.0, actors_again order all.1) refl

no_dash : (a : Actor) (bs : List ℕ) → bytes_eq (spelled_actor a ++ bs) (codes "-") ≡ false
no_dash (Writer n) bs = refl
no_dash (Proxy n) bs = refl

-- an order that is spelled is read again
order_again : (order : List Actor) → AllByRecursion IsActor order → order_in (spelled_order order) ≡ Some order
order_again [] all = refl
order_again (a ∷ order) all = rw (no_dash a (spelled_rest order)) (ap actors_in (pieces_again a order all.0 all.1)
    ∙ actors_again (a ∷ order) all)

size_again : (n : ℕ) → 1 ≤ n → n ≤ 10000 → size_in (decimal n) ≡ Some n
size_again n least most =
    let low : nat_le 1 n ≡ true = grind (arith, nat_tests) in
    let high : nat_le n 10000 ≡ true = grind (arith, nat_tests) in
    ap (option_and_then size_of) (index_again n (omega arith)) ∙ rw (low, high) refl

asked_again : (words : List (List ℕ)) (request : Request) → Asks words request → asked words ≡ Some request
asked_again words check asks = ap asked asks
asked_again words (replay order) asks = ap asked asks.are ∙ ap (option_map replay) (order_again order asks.actors)
asked_again words run asks = absurd asks.0
asked_again words (big n) asks =
    ap asked asks.1.are ∙ ap (option_map big) (size_again n asks.1.least asks.1.most)

-- what the code says of a request that it found, and of none
pub asks_what_is_asked : (words : List (List ℕ)) (request : Request) → Some request ≡ asked words → Asks words request
asks_what_is_asked words request e = asks words request (sym e)

pub no_form_without : (words : List (List ℕ)) → None ≡ asked words → HaveNoForm words
no_form_without words e = λ request asks. none-some request (e ∙ asked_again words request asks)

-- words of the form of a request ask for one
pub formed : (words : List (List ℕ)) → is_some (asked words) ≡ true → HaveNoForm words → ⊥
formed words e none = by_asked (asked words) refl e
  where
    by_asked : (o : Option Request) → asked words ≡ o → is_some o ≡ true → ⊥
    by_asked None is some = absurd (false≢true some)
    by_asked (Some request) is some = none request (asks words request is)

pub unformed : (words : List (List ℕ)) → is_some (asked words) ≡ false → HaveNoForm words
unformed words e = by_asked (asked words) refl e
  where
    by_asked : (o : Option Request) → asked words ≡ o → is_some o ≡ false → HaveNoForm words
    by_asked None is none = no_form_without words (sym is)
    by_asked (Some request) is none = absurd (false≢true (sym none))

-- one actor more, of those after the ones that were read
pub actor_more : (order : List Actor) (bs piece others : List ℕ) (a : Actor) (whole : Option (List Actor))
    → Some (piece, others) ≡ cut 44 bs → Some a ≡ actor_in piece
    → option_map (λ more. order ++ more) (actors_in (pieces bs)) ≡ whole
    → option_map (λ more. (order ++ a ∷ []) ++ more) (actors_in (pieces others)) ≡ whole
actor_more order bs piece others a whole at is before = sym (moved (actors_in (pieces others)))
    ∙ sym (ap (λ ps. option_map (λ more. order ++ more) (actors_in ps)) (pieces_at bs (piece, others) (sym at))
    ∙ ap (λ o. option_map (λ more. order ++ more)
    (option_and_then (λ x. option_map (λ more. x ∷ more) (actors_in (pieces others))) o)) (sym is)) ∙ before
  where
    moved : (o : Option (List Actor)) → option_map (λ more. order ++ more) (option_map (λ more. a ∷ more) o)
        ≡ option_map (λ more. (order ++ a ∷ []) ++ more) o
    moved None = refl
    moved (Some more) = ap Some (sym (append_assoc order (a ∷ []) more))

-- where a piece spells no actor, the bytes spell no order
pub no_actor : (order : List Actor) (bs piece others : List ℕ) (whole : Option (List Actor))
    → Some (piece, others) ≡ cut 44 bs → None ≡ actor_in piece
    → option_map (λ more. order ++ more) (actors_in (pieces bs)) ≡ whole → None ≡ whole
no_actor order bs piece others whole at is before =
    sym (ap (λ ps. option_map (λ more. order ++ more) (actors_in ps)) (pieces_at bs (piece, others) (sym at))
    ∙ ap (λ o. option_map (λ more. order ++ more)
    (option_and_then (λ x. option_map (λ more. x ∷ more) (actors_in (pieces others))) o)) (sym is)) ∙ before

-- ---- whether bytes spell actors, without the actors

some_of_map : {X Y : Type 0} (f : X → Y) (o : Option X) → is_some (option_map f o) ≡ is_some o
some_of_map f None = refl
some_of_map f (Some x) = refl

-- a piece that spells an actor leaves the question to the others
pub actor_skipped : (bs piece others : List ℕ) (a : Actor) → Some (piece, others) ≡ cut 44 bs → Some a ≡ actor_in piece
    → is_some (actors_in (pieces others)) ≡ is_some (actors_in (pieces bs))
actor_skipped bs piece others a at is =
    sym (ap (λ ps. is_some (actors_in ps)) (pieces_at bs (piece, others) (sym at))
    ∙ ap (λ o. is_some (option_and_then (λ x. option_map (λ more. x ∷ more) (actors_in (pieces others))) o)) (sym is)
    ∙ some_of_map (λ more. a ∷ more) (actors_in (pieces others)))

-- a piece that spells none answers it
pub no_actor_here : (bs piece others : List ℕ) → Some (piece, others) ≡ cut 44 bs → None ≡ actor_in piece
    → false ≡ is_some (actors_in (pieces bs))
no_actor_here bs piece others at is =
    sym (ap (λ ps. is_some (actors_in ps)) (pieces_at bs (piece, others) (sym at))
    ∙ ap (λ o. is_some (option_and_then (λ x. option_map (λ more. x ∷ more) (actors_in (pieces others))) o)) (sym is))

-- and so does the last piece
pub last_here : (bs : List ℕ) (o : Option Actor) → None ≡ cut 44 bs → o ≡ actor_in bs
    → is_some o ≡ is_some (actors_in (pieces bs))
last_here bs o at is =
    closed o ∙ ap (λ x. is_some (option_and_then (λ a. Some (a ∷ [])) x)) is
    ∙ ap (λ ps. is_some (actors_in ps)) (sym (one_piece bs (sym at)))
  where
    closed : (x : Option Actor) → is_some x ≡ is_some (option_and_then (λ a. Some (a ∷ [])) x)
    closed None = refl
    closed (Some a) = refl

-- the last piece
pub last_actor : (order : List Actor) (bs : List ℕ) (o : Option Actor) (whole : Option (List Actor)) → None ≡ cut 44 bs
    → o ≡ actor_in bs → option_map (λ more. order ++ more) (actors_in (pieces bs)) ≡ whole
    → option_map (λ a. order ++ a ∷ []) o ≡ whole
last_actor order bs o whole at is before = closed o
    ∙ ap (λ x. option_map (λ more. order ++ more) (option_and_then (λ a. Some (a ∷ [])) x)) is
    ∙ ap (λ ps. option_map (λ more. order ++ more) (actors_in ps)) (sym (one_piece bs (sym at))) ∙ before
  where
    closed : (x : Option Actor) → option_map (λ a. order ++ a ∷ []) x ≡ option_map (λ more. order
        ++ more) (option_and_then (λ a. Some (a ∷ [])) x)
    closed None = refl
    closed (Some a) = refl
