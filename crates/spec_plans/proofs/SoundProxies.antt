-- In the plan of sound lines no composite and no collection depends on a proxy.
use Rattle.std.proofs.Common.{◌≡◌, ◌∙◌, ℕ, zero, suc, ◌+◌, ◌<◌, ◌≤◌, ◌&&◌, ◌||◌, Bool, true, false, List, [], ◌∷◌, ◌++◌, length, map, Option, Some, None, refl, sym, ap, subst, arith, true≢false, length-append, append-nil, inl, inr}
use Rattle.std.specs.Prelude.{if◌then◌else◌, option_map, option_to_list, slice_get, unwrap_or, Contains, All}
use Rattle.std.specs.List.{list_any, cons_option}
use Rattle.std.proofs.lemmas.Option.{same_Some, none-some, slice_get-map}
use Rattle.std.proofs.lemmas.List.Elements.{All-contains, recursion_from_All}
use Rattle.gl_lines.specs.declared.line.NumberedLine.{NumberedLine}
use Rattle.gl_lines.specs.declared.plan.ListDecl.{ListDecl}
use Rattle.gl_lines.specs.declared.fault.PlanKind.TheVariants.{OverProxy}
use Rattle.spec_order.specs.Edges.{DependsOn}
use Rattle.spec_order.specs.Cycle.{IsWalk}
use Rattle.spec_order.proofs.Members.{Contains-nil, Contains-cons_cases}
use Rattle.spec_plans.specs.declared.class.ListClass.{ListClass}
use Rattle.spec_plans.specs.declared.class.ListClass.TheVariants.{Pumped}
use Rattle.spec_plans.specs.declared.fault.NameFault.{NameFault}
use Rattle.spec_plans.specs.Along.{first_after}
use Rattle.spec_plans.specs.Lines.{Head, head_of}
use Rattle.spec_plans.specs.Names.{heads, needed, is_pumped, is_proxy, leads_to_proxy, is_over_proxy}
use Rattle.spec_plans.specs.NameFaults.{shuns_proxies, proxy_fault, naming, first_misnamed, input_need}
use Rattle.spec_plans.specs.Plan.{Plan, inputs_of, list_edges}
use Rattle.spec_plans.specs.Making.{plan_of}
use Rattle.spec_plans.specs.WellFormed.{class_of_kind, class_at, inputs_at, HasList, HasInputs, LeadsTo}
use Rattle.spec_plans.proofs.Numbers.{all_at}
use Rattle.spec_plans.proofs.Made.{class_is, as_many_lists}
use Rattle.spec_plans.proofs.Used.{has_class, line_is_fine, list_is_fine}
use Rattle.spec_plans.proofs.SoundLists.{given_more, has_inputs}
use Rattle.spec_plans.proofs.SoundNeeds.{needed_is}
use Rattle.spec_plans.proofs.Walks.{Way, edge_needed, way_of, way_is_short}
use Rattle.spec_basics.proofs.Booleans.{or_true}
use Rattle.spec_basics.proofs.Options.{first_none, second_none}

abbrev over_proxy : Option NameFault
over_proxy = Some (record { column = 1; kind = OverProxy })

-- what a list of a plan depends on, by the edges
pub inputs_by_edges : (p : Plan) (a b : ℕ) → DependsOn (list_edges p) a b → Contains (inputs_at p a) b
inputs_by_edges p a b d =
    subst (λ o. Contains (unwrap_or o []) b) (slice_get-map (λ (l : ListDecl). inputs_of l.kind) p.lists a)
    (edge_needed (map (λ (l : ListDecl). inputs_of l.kind) p.lists) a b d)

pub any_from : (test : ℕ → Bool) (xs : List ℕ) (x : ℕ) → Contains xs x → test x ≡ true → list_any test xs ≡ true
any_from test [] x c t = absurd (Contains-nil x c)
any_from test (y ∷ ys) x c t = elim (Contains-cons_cases y ys x c) [
  | inl e ↦ ap (λ s. s || list_any test ys) (ap test e ∙ t)
  | inr later ↦ ap (λ s. test y || s) (any_from test ys x later t) ∙ or_true (test y)
]

-- a list that a plan has needs lists that it has
pub have_list : (p : Plan) (need : Option ListClass) (k : ℕ) → HasList p need k → k < length p.lists
have_list p None k l = l
have_list p (Some class) k l = has_class p k class l

pub within_plan : (p : Plan) → All (λ d. HasInputs p d.kind) p.lists → (a x : ℕ) → Contains (inputs_at p a) x
    → x < length p.lists
within_plan p h a x c = by (slice_get p.lists a) refl c
  where
    by : (o : Option ListDecl) → slice_get p.lists a ≡ o
        → Contains (unwrap_or (option_map (λ d. inputs_of d.kind) o) []) x → x < length p.lists
    by None e d = absurd (Contains-nil x d)
    by (Some l) e d =
        let inputs : HasInputs p l.kind = all_at (λ (m : ListDecl). HasInputs p m.kind) p.lists a l
        (recursion_from_All (λ (m : ListDecl). HasInputs p m.kind) p.lists h) e in
        have_list p (input_need (class_of_kind l.kind)) x (All-contains
        (HasList p (input_need (class_of_kind l.kind))) (inputs_of l.kind) x inputs d)

module _ (lines : List NumberedLine) (fine : first_misnamed lines ≡ None) where
  proxy_leads : (steps b : ℕ) → is_proxy (heads lines) b ≡ true → leads_to_proxy lines steps b ≡ true
  proxy_leads zero b e = e
  proxy_leads (suc s) b e = ap (λ t. t || list_any (leads_to_proxy lines s) (needed lines b)) e

  one_step : (s a x : ℕ) → DependsOn (list_edges (plan_of lines)) a x → leads_to_proxy lines s x ≡ true
      → leads_to_proxy lines (suc s) a ≡ true
  one_step s a x d t =
      let needs : Contains (needed lines a) x = subst (λ ns. Contains ns x) (sym (needed_is lines fine a))
      (inputs_by_edges (plan_of lines) a x d) in
      ap (λ r. is_proxy (heads lines) a || r) (any_from (leads_to_proxy lines s) (needed lines a) x needs t)
      ∙ or_true (is_proxy (heads lines) a)

  -- a walk to a proxy leads to one, in as many steps as it has
  walk_leads : (steps : ℕ) (xs : List ℕ) (a b : ℕ) → IsWalk (list_edges (plan_of lines)) a xs b
      → is_proxy (heads lines) b ≡ true → suc (length xs) ≤ steps → leads_to_proxy lines steps a ≡ true
  walk_leads zero xs a b w e l = absurd (omega (arith, l))
  walk_leads (suc s) [] a b w e l = one_step s a b w (proxy_leads s b e)
  walk_leads (suc s) (x ∷ xs) a b w e l = one_step s a x w.0 (walk_leads s xs x b w.1 e (omega (arith, l)))

  -- nothing is wrong with a list by its number
  unfaulted : (before ls : List NumberedLine) → first_after (naming lines) before ls ≡ None → (a : ℕ) (h : Head)
      → slice_get (heads ls) a ≡ Some h → proxy_fault lines (length (heads before) + a) h.class ≡ None
  unfaulted before [] e a h g = absurd (none-some h g)
  unfaulted before (l ∷ ls) e a h g =
      by (head_of l.what) refl (unfaulted (before ++ l ∷ []) ls
      (second_none (naming lines before l) (first_after (naming lines) (before ++ l ∷ []) ls) e)) a g
    where
      longer : (o : Option Head) → head_of l.what ≡ o → length (heads (before ++ l ∷ []))
          ≡ length (heads before ++ option_to_list o)
      longer o f = ap length (given_more (λ (k : NumberedLine). head_of k.what) before l)
          ∙ ap (λ q. length (heads before ++ option_to_list q)) f

      by : (o : Option Head) → head_of l.what ≡ o
          → ((k : ℕ) (j : Head) → slice_get (heads ls) k ≡ Some j
          → proxy_fault lines (length (heads (before ++ l ∷ [])) + k) j.class ≡ None)
          → (k : ℕ) → slice_get (cons_option o (heads ls)) k ≡ Some h
          → proxy_fault lines (length (heads before) + k) h.class ≡ None
      by None f later k s =
          let same : length (heads (before ++ l ∷ [])) + k ≡ length (heads before) + k =
          omega (arith, longer None f, ap length (append-nil (heads before))) in
          subst (λ n. proxy_fault lines n h.class ≡ None) same (later k h s)
      by (Some j) f later zero s =
          let here : proxy_fault lines (length (heads before)) j.class ≡ None =
          (list_is_fine lines before l.what j (line_is_fine lines before l
          (first_none (naming lines before l) (first_after (naming lines) (before ++ l ∷ []) ls) e)) f).proxy in
          let same : length (heads before) ≡ length (heads before) + 0 = omega arith in
          subst (λ i. proxy_fault lines (length (heads before) + 0) i.class
          ≡ None) (same_Some j h s) (subst (λ n. proxy_fault lines n j.class ≡ None) same here)
      by (Some j) f later (suc k) s =
          let same : length (heads (before ++ l ∷ [])) + k ≡ length (heads before) + suc k =
          omega (arith, longer (Some j) f, length-append (heads before) (j ∷ [])) in
          subst (λ n. proxy_fault lines n h.class ≡ None) same (later k h s)

  not_over : (a : ℕ) (class : ListClass) → class_at (plan_of lines) a ≡ Some class → shuns_proxies class ≡ true
      → is_over_proxy lines a ≡ false
  not_over a class e s = by (slice_get (heads lines) a) refl (sym (class_is lines a) ∙ e)
    where
      clean : (t u : Bool) → t ≡ true → (if t && u then over_proxy else None) ≡ None → u ≡ false
      clean true true f g = absurd (none-some _ (sym g))
      clean true false f g = refl
      clean false u f g = absurd (true≢false (sym f))

      by : (o : Option Head) → slice_get (heads lines) a ≡ o → option_map (λ h. h.class) o ≡ Some class
          → is_over_proxy lines a ≡ false
      by None f g = absurd (none-some class g)
      by (Some h) f g =
          let same : h.class ≡ class = same_Some h.class class g in
          let none : proxy_fault lines (0 + a) h.class ≡ None = unfaulted [] lines fine a h f in
          let zero_more : 0 + a ≡ a = omega arith in
          clean (shuns_proxies h.class) (is_over_proxy lines a) (ap shuns_proxies same
          ∙ s) (subst (λ n. proxy_fault lines n h.class ≡ None) zero_more none)

  walks_to_none : (a b : ℕ) (through : List ℕ) (class : ListClass) → class_at (plan_of lines) a ≡ Some class
      → shuns_proxies class ≡ true
      → class_at (plan_of lines) b ≡ Some Pumped → ¬ IsWalk (list_edges (plan_of lines)) a through b
  walks_to_none a b through class e s proxy walk =
      let edges : List (ℕ × ℕ) = list_edges (plan_of lines) in
      let within : (c x : ℕ) → DependsOn edges c x → x < length (plan_of lines).lists =
      λ c x d. within_plan (plan_of lines) (has_inputs lines fine) c x (inputs_by_edges (plan_of lines) c x d) in
      let way : Way edges a b = way_of edges through a b walk in
      let short : suc (length way.through) ≤ length (plan_of lines).lists =
      way_is_short edges (length (plan_of lines).lists) within a b way (has_class (plan_of lines) a class e) in
      let steps : suc (length way.through) ≤ length (heads lines) =
      subst (λ n. suc (length way.through) ≤ n) (as_many_lists lines) short in
      let over : is_over_proxy lines a ≡ true = walk_leads (length (heads lines)) way.through a b way.walk
      (pumped (slice_get (heads lines) b) (sym (class_is lines b) ∙ proxy)) steps in
      true≢false (sym over ∙ not_over a class e s)
    where
      pumped : (o : Option Head) → option_map (λ h. h.class) o ≡ Some Pumped
          → unwrap_or (option_map (λ h. is_pumped h.class) o) false ≡ true
      pumped None f = absurd (none-some Pumped f)
      pumped (Some h) f = ap is_pumped (same_Some h.class Pumped f)

  pub over_no_proxy : (a b : ℕ) → option_map shuns_proxies (class_at (plan_of lines) a) ≡ Some true
      → class_at (plan_of lines) b ≡ Some Pumped → ¬ LeadsTo (plan_of lines) a b
  over_no_proxy a b shuns proxy way = by (class_at (plan_of lines) a) refl shuns
    where
      by : (o : Option ListClass) → class_at (plan_of lines) a ≡ o → option_map shuns_proxies o ≡ Some true → ⊥
      by None e s = none-some true s
      by (Some class) e s =
          walks_to_none a b way.0 class e (same_Some (shuns_proxies class) true s) proxy way.1
