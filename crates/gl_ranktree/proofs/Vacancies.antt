-- Lemmas on the tree and the vacant slots together.
use Rattle.std.proofs.Common.{◌≡◌, ◌≢◌, ℕ, zero, suc, ◌+◌, ◌<◌, ◌≤◌, max, List, [], ◌∷◌, ◌++◌, length, set, refl, sym, ap, ◌∙◌, subst, inl, inr, arith, insert, remove}
use Rattle.std.proofs.lemmas.List.{get_or_append_left, get_or_past, get_or_push, length_push}
use Rattle.std.proofs.lemmas.Bool.{cases_lt, cases_eq, lt-ltb, le-ltb}
use Rattle.gl_ranktree.specs.Summary.{Sums}
use Rattle.gl_ranktree.specs.Tree.{Tree, leaf, fork, absent, root, tree_size, tree_height, inorder, times, hit, hits, SplitsAt}
use Rattle.gl_ranktree.specs.Nodes.{blank, node_at, Realizes, IsAddressed, Puts, Reparents}
use Rattle.gl_ranktree.specs.Edits.{Stands, CanInsert, Inserts, Removes, SetsOwn}
use Rattle.gl_ranktree.specs.Ranked.{listed, walk, entries_under, IsChain, Ranks, Claims, Hangs, CanPutIn, PutsIn, TakesOut, SetsIn}
use Rattle.gl_ranktree.specs.declared.node.Node.{Node}
use Rattle.gl_ranktree.proofs.Trees.{hit_same, hit_other, other_slot, other_from_hit}
use Rattle.gl_ranktree.proofs.Links.{head, IsUnder-kept, Realizes-grown, Realizes-kept, Reparents-frame, Reparents-stands, Puts-set}
use Rattle.gl_ranktree.proofs.Edits.{hits-append, hits-inorder, times_of_insert, size_of_insert, size_of_remove, remove_here}
use Rattle.gl_ranktree.proofs.Removals.{within_from_times}
use Rattle.gl_ranktree.proofs.Owns.{times_of_own, size_of_own}

hit-le-one : (i j : ℕ) → hit i j ≤ 1
hit-le-one i j =
    elim (cases_eq i j) [
      | inl same ↦ omega (arith, hit_same i, ap (λ k. hit i k) same)
      | inr other ↦ omega (arith, hit_other i j other)
    ]

other_listed : (i j : ℕ) (vs : List ℕ) → listed i vs ≡ 0 → 1 ≤ listed j vs → j ≢ i
other_listed i j vs none some same = absurd (omega (arith, ap (λ k. listed k vs) same))

module _ {S : Type 0} where
  apart_add : (slot j : ℕ) (t : Tree S) → times slot t ≡ 0 → times j t ≤ 1 → times j t + hit slot j ≤ 1
  apart_add slot j t out apart =
      elim (cases_eq slot j) [
        | inl same ↦ omega (arith, hit-le-one slot j, ap (λ k. times k t) same)
        | inr other ↦ omega (arith, hit_other slot j other)
      ]

  pub hits-removed : (j : ℕ) (xs : List (ℕ × S)) (position : ℕ) (e : ℕ × S) → SplitsAt xs position e → hits j xs ≡ hits j (remove xs position) + hit e.0 j
  hits-removed j xs position e s =
      omega (
        arith,
        ap (hits j) s.is,
        ap (λ ys. hits j (remove ys position)) s.is,
        ap (hits j) (remove_here s.prefix s.back e position (sym s.len)),
        hits-append j s.prefix (e ∷ s.back),
        hits-append j s.prefix s.back,
      )

module _ {S : Type 0} (m : Sums S) where
  pub Claims-push : (nodes : List (Node S)) (vacant : ℕ) (n : Node S) → vacant ≡ absent → length nodes < absent → Claims m nodes (nodes ++ n ∷ []) vacant (length nodes) absent n.own
  unfolding node_at
  Claims-push nodes vacant n none few =
      record {
        own_is = ap (λ (x : Node S). x.own) (get_or_push nodes n (blank m) (length nodes) refl);
        others = λ j other.
            elim (cases_lt j (length nodes)) [
              | inl within ↦ get_or_append_left nodes (n ∷ []) (blank m) j within
              | inr past ↦ get_or_past (nodes ++ n ∷ []) j (blank m) (omega (arith, length_push nodes n, other, past)) ∙ sym (get_or_past nodes j (blank m) past)
            ];
        within = omega (arith, length_push nodes n);
        fresh = λ _. (refl, refl, length_push nodes n);
        reused = λ within. absurd (omega (arith, within, none, few));
      }

  pub Claims-set : (nodes : List (Node S)) (vacant next : ℕ) (n : Node S) → vacant ≢ absent → vacant < length nodes → next ≡ (node_at m nodes vacant).left → Claims m nodes (set nodes vacant n) vacant vacant next n.own
  Claims-set nodes vacant next n some within is =
      let puts = Puts-set m nodes vacant n within in
      record {
        own_is = ap (λ (x : Node S). x.own) puts.at;
        others = puts.others;
        within = omega (arith, within, puts.len);
        fresh = λ none. absurd (some none);
        reused = λ _. (refl, is, puts.len);
      }

  pub hung : (old n1 new : List (Node S)) (from top position slot : ℕ) (t : Tree S) → CanInsert m old from position slot t → Inserts m old n1 top position slot t → Reparents m n1 new top absent → Hangs m old new top position slot t
  hung old n1 new from top position slot t can ins wrote =
      let u = ins.tree in
      let apart : (j : ℕ) → times j u ≤ 1 = λ j. omega (arith, can.apart j, times_of_insert j t u position _ ins.order) in
      let addressed : IsAddressed n1 = omega (arith, can.addressed, ins.becomes.len) in
      let st = Reparents-stands m n1 new top absent u ins.becomes.top_is wrote apart ins.becomes.stands in
      record {
        tree = u;
        becomes = record {
          top_is = ins.becomes.top_is;
          stands = st.0;
          frame = λ j none. Reparents-frame m n1 new top absent u addressed ins.becomes.top_is wrote j none ∙ ins.becomes.frame j none;
          len = wrote.len ∙ ins.becomes.len;
        };
        alone = st.1;
        order = ins.order;
      }

  chain_kept : (old new : List (Node S)) (start : ℕ) (vs : List ℕ) → length old ≤ length new → ((j : ℕ) → 1 ≤ listed j vs → node_at m new j ≡ node_at m old j) → IsChain m old start vs → IsChain m new start vs
  chain_kept old new start [] len same chain = chain
  chain_kept old new start (v ∷ vs) len same chain =
      let here : node_at m new v ≡ node_at m old v = same v (omega (arith, hit_same v)) in
      let rest = chain_kept old new (node_at m old v).left vs len (λ j some. same j (omega (arith, some))) chain.2 in
      (chain.0, omega (arith, chain.1, len), subst (λ q. IsChain m new q vs) (ap (λ (x : Node S). x.left) (sym here)) rest)

  -- what the first vacant slot tells
  pub vacant_within : (nodes : List (Node S)) (vacant : ℕ) (free : List ℕ) → IsChain m nodes vacant free → vacant ≢ absent → vacant < length nodes
  vacant_within nodes vacant [] chain some = absurd (some chain)
  vacant_within nodes vacant (v ∷ vs) chain some = omega (arith, chain.0, chain.1)

  pub none_vacant : (nodes : List (Node S)) (vacant : ℕ) (free : List ℕ) → IsAddressed nodes → IsChain m nodes vacant free → vacant ≡ absent → length free ≡ 0
  none_vacant nodes vacant [] addressed chain none = refl
  none_vacant nodes vacant (v ∷ vs) addressed chain none = absurd (omega (arith, addressed, chain.0, chain.1, none))

  not_there : (nodes : List (Node S)) (t : Tree S) (j : ℕ) → Realizes m nodes t → length nodes ≤ j → times j t ≡ 0
  not_there nodes t j stands past =
      elim (cases_lt 0 (times j t)) [
        | inl some ↦ absurd (omega (arith, past, within_from_times m nodes t j stands some))
        | inr none ↦ omega arith
      ]

  -- the state once a slot was claimed
  pub record Claimed (old n1 : List (Node S)) (top position slot next : ℕ) (tree : Tree S) : Type 0 where
    pub rest : List ℕ
    pub can : CanInsert m n1 top position slot tree
    pub chain : IsChain m n1 next rest
    pub shared : (j : ℕ) → times j tree + hit slot j + listed j rest ≤ 1
    pub counted : tree_size tree + 1 + length rest ≡ length n1
    pub fresh : times slot tree ≡ 0
    pub next_is : slot ≤ length old
    pub full : slot ≡ length old → tree_size tree ≡ length old
    pub len : length n1 ≡ max (length old) (slot + 1)

  pub claimed : (old n1 : List (Node S)) (top vacant position capacity slot next : ℕ) (own : S) (tree : Tree S) (free : List ℕ) → CanPutIn m old top vacant position capacity tree free → Claims m old n1 vacant slot next own → Claimed old n1 top position slot next tree
  claimed old n1 top vacant position capacity slot next own tree [] can cl =
      let r = can.ranks in
      let f = cl.fresh r.chain in
      let out : times slot tree ≡ 0 = not_there old tree slot r.stands.stands (omega (arith, f.0)) in
      let same : (j : ℕ) → 1 ≤ times j tree → node_at m n1 j ≡ node_at m old j = λ j some. cl.others j (other_slot slot j tree out some) in
      let apart : (j : ℕ) → times j tree + hit slot j ≤ 1 = λ j. apart_add slot j tree out (r.stands.apart j) in
      record {
        rest = [];
        can = record {
          top_is = r.stands.top_is;
          stands = Realizes-grown m old n1 tree (omega (arith, f.2)) same r.stands.stands;
          apart = apart;
          within = cl.within;
          addressed = omega (arith, f.2, r.counted, can.few);
          small = omega (arith, can.few);
          in_range = can.in_range;
        };
        chain = f.1;
        shared = λ j. omega (arith, apart j);
        counted = omega (arith, r.counted, f.2);
        fresh = out;
        next_is = omega (arith, f.0);
        full = λ _. omega (arith, r.counted);
        len = omega (arith, f.0, f.2);
      }
  claimed old n1 top vacant position capacity slot next own tree (v ∷ vs) can cl =
      let r = can.ranks in
      let f = cl.reused (omega (arith, r.chain.0, r.chain.1)) in
      let is : slot ≡ v = f.0 ∙ r.chain.0 in
      let out : times slot tree ≡ 0 = omega (arith, r.shared v, hit_same v, ap (λ k. times k tree) is) in
      let same : (j : ℕ) → 1 ≤ times j tree → node_at m n1 j ≡ node_at m old j = λ j some. cl.others j (other_slot slot j tree out some) in
      let out_of_rest : listed slot vs ≡ 0 = omega (arith, r.shared v, hit_same v, ap (λ k. listed k vs) is) in
      let same_rest : (j : ℕ) → 1 ≤ listed j vs → node_at m n1 j ≡ node_at m old j = λ j some. cl.others j (other_listed slot j vs out_of_rest some) in
      let start : next ≡ (node_at m old v).left = f.1 ∙ ap (λ k. (node_at m old k).left) r.chain.0 in
      record {
        rest = vs;
        can = record {
          top_is = r.stands.top_is;
          stands = Realizes-grown m old n1 tree (omega (arith, f.2)) same r.stands.stands;
          apart = λ j. apart_add slot j tree out (r.stands.apart j);
          within = cl.within;
          addressed = omega (arith, f.2, r.stands.addressed);
          small = omega (arith, can.few);
          in_range = can.in_range;
        };
        chain = subst (λ q. IsChain m n1 q vs) (sym start) (chain_kept old n1 (node_at m old v).left vs (omega (arith, f.2)) same_rest r.chain.2);
        shared = λ j. omega (arith, r.shared j, ap (λ k. hit k j) is);
        counted = omega (arith, r.counted, f.2);
        fresh = out;
        next_is = omega (arith, is, r.chain.1);
        full = λ last. absurd (omega (arith, last, is, r.chain.1));
        len = omega (arith, is, r.chain.1, f.2);
      }

  pub put_in_done : (old n1 new : List (Node S)) (from top vacant position capacity slot next : ℕ) (own : S) (tree : Tree S) (free : List ℕ) → CanPutIn m old from vacant position capacity tree free → Claims m old n1 vacant slot next own → Hangs m n1 new top position slot tree → PutsIn m old new slot top next position own tree
  put_in_done old n1 new from top vacant position capacity slot next own tree free can cl hg =
      let cd = claimed old n1 from vacant position capacity slot next own tree free can cl in
      let u = hg.tree in
      let count : (j : ℕ) → times j u ≡ times j tree + hit slot j = λ j. times_of_insert j tree u position _ hg.order in
      let size = size_of_insert tree u position _ can.in_range hg.order in
      record {
        tree = u;
        free = cd.rest;
        ranks = record {
          stands = record {
            top_is = hg.becomes.top_is;
            stands = hg.becomes.stands;
            apart = λ j. omega (arith, count j, cd.can.apart j);
            addressed = omega (arith, cd.can.addressed, hg.becomes.len);
            small = omega (arith, size, can.few);
          };
          alone = hg.alone;
          chain = chain_kept n1 new next cd.rest (omega (arith, hg.becomes.len)) (λ j some. hg.becomes.frame j (omega (arith, count j, cd.shared j, some))) cd.chain;
          shared = λ j. omega (arith, count j, cd.shared j);
          counted = omega (arith, size, cd.counted, hg.becomes.len);
        };
        order = hg.order ∙ ap (λ v. insert (inorder tree) position (slot, v)) cl.own_is;
        fresh = cd.fresh;
        next = cd.next_is;
        full = cd.full;
        len = hg.becomes.len ∙ cd.len;
      }

  -- the slot of an entry is one of the vector
  pub entry_within : (nodes : List (Node S)) (t : Tree S) (position slot : ℕ) (own : S) → Realizes m nodes t → SplitsAt (inorder t) position (slot, own) → slot < length nodes
  entry_within nodes t position slot own stands entry =
      within_from_times m nodes t slot stands (omega (arith, hits-removed slot (inorder t) position (slot, own) entry, hits-inorder slot t, hit_same slot))

  pub take_out_done : (old n1 n2 new : List (Node S)) (from top vacant position slot : ℕ) (gone : Node S) (t : Tree S) (free : List ℕ) → Ranks m old from vacant t free → position < tree_size t → SplitsAt (inorder t) position (slot, (node_at m old slot).own) → Removes m old n1 top position t → Reparents m n1 n2 top absent → Puts m n2 new slot (record gone { left = vacant }) → TakesOut m old new slot top position t
  take_out_done old n1 n2 new from top vacant position slot gone t free r within entry rm wrote puts =
      let u = rm.tree in
      let count : (j : ℕ) → times j t ≡ times j u + hit slot j = λ j. omega (arith, hits-removed j (inorder t) position _ entry, hits-inorder j t, hits-inorder j u, ap (hits j) rm.order) in
      let apart : (j : ℕ) → times j u ≤ 1 = λ j. omega (arith, count j, r.stands.apart j) in
      let out : times slot u ≡ 0 = omega (arith, count slot, r.stands.apart slot, hit_same slot) in
      let addressed : IsAddressed n1 = omega (arith, r.stands.addressed, rm.becomes.len) in
      let st = Reparents-stands m n1 n2 top absent u rm.becomes.top_is wrote apart rm.becomes.stands in
      let same : (j : ℕ) → 1 ≤ times j u → node_at m new j ≡ node_at m n2 j = λ j some. puts.others j (other_slot slot j u out some) in
      let len : length new ≡ length old = puts.len ∙ (wrote.len ∙ rm.becomes.len) in
      let slot_within : slot < length old = within_from_times m old t slot r.stands.stands (omega (arith, count slot, hit_same slot)) in
      let rest : (j : ℕ) → 1 ≤ listed j free → node_at m new j ≡ node_at m old j =
      λ j some.
      puts.others j (other_from_hit slot j (omega (arith, r.shared j, count j, some))) ∙ (Reparents-frame m n1 n2 top absent u addressed rm.becomes.top_is wrote j (omega (arith, r.shared j, count j, some)) ∙ rm.becomes.frame j (omega (arith, r.shared j, count j, some))) in
      let left_is : (node_at m new slot).left ≡ vacant = ap (λ (x : Node S). x.left) puts.at in
      record {
        tree = u;
        free = slot ∷ free;
        ranks = record {
          stands = record {
            top_is = rm.becomes.top_is;
            stands = Realizes-kept m n2 new u puts.len same st.0;
            apart = apart;
            addressed = omega (arith, r.stands.addressed, len);
            small = omega (arith, r.stands.small, size_of_remove t u position within rm.order);
          };
          alone = IsUnder-kept m n2 new u absent same st.1;
          chain = (refl, omega (arith, slot_within, len), subst (λ q. IsChain m new q free) (sym left_is) (chain_kept old new vacant free (omega (arith, len)) rest r.chain));
          shared = λ j. omega (arith, count j, r.shared j);
          counted = omega (arith, size_of_remove t u position within rm.order, r.counted, len);
        };
        entry = entry;
        order = rm.order;
        len = len;
      }

  pub set_in_done : (old n1 new : List (Node S)) (top vacant position : ℕ) (own : S) (t : Tree S) (free : List ℕ) → Ranks m old top vacant t free → SetsOwn m old n1 top position own t → Reparents m n1 new top absent → SetsIn m old new top vacant position own t
  set_in_done old n1 new top vacant position own t free r so wrote =
      let u = so.tree in
      let count : (j : ℕ) → times j u ≡ times j t = λ j. times_of_own j t u position own so.order in
      let size = size_of_own t u position own so.order in
      let addressed : IsAddressed n1 = omega (arith, r.stands.addressed, so.becomes.len) in
      let apart : (j : ℕ) → times j u ≤ 1 = λ j. omega (arith, count j, r.stands.apart j) in
      let st = Reparents-stands m n1 new top absent u so.becomes.top_is wrote apart so.becomes.stands in
      let len : length new ≡ length old = wrote.len ∙ so.becomes.len in
      let rest : (j : ℕ) → 1 ≤ listed j free → node_at m new j ≡ node_at m old j =
      λ j some.
      Reparents-frame m n1 new top absent u addressed so.becomes.top_is wrote j (omega (arith, r.shared j, count j, some)) ∙ so.becomes.frame j (omega (arith, r.shared j, count j, some)) in
      record {
        tree = u;
        free = free;
        ranks = record {
          stands = record {
            top_is = so.becomes.top_is;
            stands = st.0;
            apart = apart;
            addressed = omega (arith, r.stands.addressed, len);
            small = omega (arith, r.stands.small, size);
          };
          alone = st.1;
          chain = chain_kept old new vacant free (omega (arith, len)) rest r.chain;
          shared = λ j. omega (arith, count j, r.shared j);
          counted = omega (arith, size, r.counted, len);
        };
        order = so.order;
        len = len;
      }

  -- the entries that are walked are those of the tree
  walk-inorder : (t : Tree S) (depth : ℕ) (nodes : List (Node S)) → IsAddressed nodes → tree_height t ≤ depth → Realizes m nodes t → walk m depth nodes (root t) ≡ inorder t
  unfolding walk
  walk-inorder leaf zero nodes addressed high stands = refl
  walk-inorder leaf (suc depth) nodes addressed high stands = rw (le-ltb absent (length nodes) (omega (arith, addressed)))
  walk-inorder (fork l i w r) zero nodes addressed high stands = absurd (omega (arith, high))
  walk-inorder (fork l i w r) (suc depth) nodes addressed high stands =
      let at = stands.0 in
      rw (lt-ltb i (length nodes) at.within, at.left, at.right, at.own, walk-inorder l depth nodes addressed (omega (arith, high)) stands.1, walk-inorder r depth nodes addressed (omega (arith, high)) stands.2)

  pub entries_are : (nodes : List (Node S)) (top : ℕ) (t : Tree S) → Stands m nodes top t → entries_under m nodes top ≡ inorder t
  entries_are nodes top t s =
      let h = (head m nodes top t s.addressed s.top_is s.stands).height in
      ap (λ k. walk m (node_at m nodes top).height nodes k) s.top_is ∙ walk-inorder t (node_at m nodes top).height nodes s.addressed (omega (arith, h)) s.stands

  pub ranked_empty : Ranks m [] absent absent leaf []
  ranked_empty =
      record {
        stands = record { top_is = refl; stands = tt; apart = λ j. omega arith; addressed = omega arith; small = omega arith };
        alone = tt;
        chain = refl;
        shared = λ j. omega arith;
        counted = refl;
      }
