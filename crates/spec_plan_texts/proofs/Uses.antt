-- What the names in the lines of a well formed plan stand for.
use Rattle.std.proofs.Common.{◌≡◌, ◌∙◌, ℕ, zero, suc, ◌<◌, ◌||◌, Bool, true, false, List, [], ◌∷◌, ◌++◌, length, map, Option, Some, None, refl, sym, ap, subst, arith, eq-eqb, inl, inr, ◌⊎◌, true≢false}
use Rattle.std.specs.Prelude.{if◌then◌else◌, option_map, option_and_then, slice_get, unwrap_or, Contains}
use Rattle.std.specs.List.{list_any, AllByRecursion}
use Rattle.std.proofs.lemmas.Option.{same_Some, none-some, slice_get-map}
use Rattle.std.proofs.lemmas.List.{length-map, map-append}
use Rattle.std.proofs.lemmas.List.Elements.{recursion_from_All}
use Rattle.gl_lines.specs.declared.named.Named.{Named}
use Rattle.gl_lines.specs.declared.line.NumberedLine.{NumberedLine}
use Rattle.gl_lines.specs.declared.plan.ListDecl.{ListDecl}
use Rattle.gl_lines.specs.declared.plan.ListKind.{ListKind}
use Rattle.gl_lines.specs.declared.plan.ListKind.TheVariants as kinds
use Rattle.gl_lines.specs.declared.fault.PlanKind.TheVariants.{Kind}
use Rattle.spec_order.specs.Edges.{DependsOn}
use Rattle.spec_order.specs.Cycle.{IsWalk}
use Rattle.spec_order.proofs.Members.{Contains-here, Contains-later}
use Rattle.spec_plans.specs.declared.class.ListClass.{ListClass}
use Rattle.spec_plans.specs.declared.class.ListClass.TheVariants.{Edited, Pumped}
use Rattle.spec_plans.specs.Lines.{Head}
use Rattle.spec_plans.specs.Names.{heads, list_names, number_of, class_of, needed, is_pumped, is_proxy, leads_to_proxy, is_over_proxy}
use Rattle.spec_plans.specs.NameFaults.{wrong, class_number, use_fault_of, use_fault, input_need, shuns_proxies}
use Rattle.spec_plans.specs.Numbered.{numbered}
use Rattle.spec_plans.specs.Plan.{Plan, inputs_of, list_edges}
use Rattle.spec_plan_texts.specs.Canonical.{lines_of_plan}
use Rattle.spec_plans.specs.PlanNames.{named, names_of_lists}
use Rattle.spec_plans.specs.WellFormed.{class_of_kind, class_at, inputs_at, HasList, HasInputs, IsWellFormed}
use Rattle.spec_plans.proofs.Numbers.{all_at, number_named}
use Rattle.spec_plans.proofs.Made.{class_is}
use Rattle.spec_plans.proofs.Used.{IsKnown}
use Rattle.spec_plans.proofs.SoundNeeds.{AreKnown, needed_where_known}
use Rattle.spec_plans.proofs.SoundProxies.{have_list}
use Rattle.spec_plans.proofs.Walks.{needed_edge}
use Rattle.spec_plan_texts.proofs.Written.{list_head, members_of, may_of, heads_written, names_written}
use Rattle.spec_plan_texts.proofs.Makes.{canonical_makes_from}
use Rattle.spec_basics.proofs.Lists.{all_weaker, all_map, all_by_index}

module _ (p : Plan) (h : IsWellFormed p) (n : ℕ) where
  abbrev pub written : List NumberedLine
  written = numbered n (lines_of_plan p)

  abbrev pub names : List (List ℕ)
  names = names_of_lists p

  -- the class of a name's list
  class_written : (name : List ℕ) (k : ℕ) → number_of names name ≡ Some k → class_of written name ≡ class_at p k
  class_written name k e =
      ap (λ o. option_map (λ (j : Head). j.class) (option_and_then (slice_get (heads written)) o))
      (ap (λ ns. number_of ns name) (names_written p n) ∙ e)
      ∙ sym (class_is written k)
      ∙ ap (λ q. class_at q k) (canonical_makes_from p h n)

  of_need : (need : Option ListClass) (named : Named) (k : ℕ) → HasList p need k
      → use_fault_of need named (class_at p k) ≡ None
  of_need None named k l = by (class_at p k) refl
    where
      there : (ds : List ListDecl) (i : ℕ) → i < length ds
          → option_map (λ d. class_of_kind d.kind) (slice_get ds i) ≡ None → ⊥
      there [] i l e = absurd (omega (arith, l))
      there (d ∷ ds) zero l e = none-some (class_of_kind d.kind) (sym e)
      there (d ∷ ds) (suc i) l e = there ds i (omega (arith, l)) e

      by : (o : Option ListClass) → class_at p k ≡ o → use_fault_of None named o ≡ None
      by None e = absurd (there p.lists k l e)
      by (Some class) e = refl
  of_need (Some class) named k e =
      ap (use_fault_of (Some class) named) e ∙ ap (λ t. if t then None else wrong named Kind)
      (eq-eqb (class_number class) (class_number class) refl)

  -- a name that stands for a list of the class that is needed
  pub use_is_fine : (need : Option ListClass) (named : Named) (k : ℕ) → number_of names named.name ≡ Some k
      → HasList p need k → use_fault written need named ≡ None
  use_is_fine need named k e l = ap (use_fault_of need named) (class_written named.name k e) ∙ of_need need named k l

  pub number_is : (k : ℕ) → k < length p.lists → number_of names (named names k).name ≡ Some k
  number_is k l = number_named names k h.list_names (subst (λ m. k < m)
      (sym (length-map p.lists (λ (d : ListDecl). d.name))) l)

  -- the name of a list's number
  pub named_is_fine : (need : Option ListClass) (k : ℕ) → HasList p need k
      → use_fault written need (named names k) ≡ None
  named_is_fine need k l = use_is_fine need (named names k) k (number_is k (have_list p need k l)) l

  -- what lists need, by their places
  pub inputs_have : (k : ℕ) (d : ListDecl) → slice_get p.lists k ≡ Some d
      → AllByRecursion (HasList p (input_need (class_of_kind d.kind))) (inputs_of d.kind)
  inputs_have k d e =
      recursion_from_All (HasList p (input_need (class_of_kind d.kind))) (inputs_of d.kind)
      (all_at (λ (m : ListDecl). HasInputs p m.kind) p.lists k d
      (recursion_from_All (λ (m : ListDecl). HasInputs p m.kind) p.lists h.inputs) e)

  pub together : (kind : ListKind) → inputs_of kind ≡ members_of kind ++ may_of kind
  together (kinds.Composite members may) = refl
  together (kinds.Source rows) = refl
  together other = refl

  known_heads : AreKnown (list_names written) (heads written)
  known_heads =
      let P : Head → Type 0 = λ j. AllByRecursion (λ m. IsKnown (list_names written) m.name) (j.inputs ++ j.may) in
      subst (AllByRecursion P) (sym (heads_written p n)) (all_map P (list_head names) p.lists
      (all_by_index (λ d. P (list_head names d)) p.lists each))
    where
      known : (k : ℕ) → k < length p.lists → IsKnown (list_names written) (named names k).name
      known k l = (k, ap (λ ns. number_of ns (named names k).name) (names_written p n) ∙ number_is k l)

      each : (k : ℕ) (d : ListDecl) → slice_get p.lists k ≡ Some d
          → AllByRecursion (λ m. IsKnown (list_names written) m.name)
          (map (named names) (members_of d.kind) ++ map (named names) (may_of d.kind))
      each k d e =
          let need : Option ListClass = input_need (class_of_kind d.kind) in
          let all : AllByRecursion (λ i. IsKnown (list_names written) (named names i).name) (inputs_of d.kind) =
          all_weaker (HasList p need) (λ i. IsKnown (list_names written) (named names i).name)
          (λ i l. known i (have_list p need i l)) (inputs_of d.kind) (inputs_have k d e) in
          subst (AllByRecursion (λ m. IsKnown (list_names written) m.name)) (ap (map (named names)) (together d.kind)
          ∙ map-append (named names) (members_of d.kind) (may_of d.kind))
          (all_map (λ m. IsKnown (list_names written) m.name) (named names) (inputs_of d.kind) all)

  pub needed_written : (a : ℕ) → needed written a ≡ inputs_at p a
  needed_written a = needed_where_known written known_heads a ∙ ap (λ q. inputs_at q a) (canonical_makes_from p h n)

  -- what a list of the plan needs is an edge
  edges_by_inputs : (a b : ℕ) → Contains (inputs_at p a) b → DependsOn (list_edges p) a b
  edges_by_inputs a b c =
      needed_edge (map (λ (d : ListDecl). inputs_of d.kind) p.lists) a b
      (subst (λ o. Contains (unwrap_or o []) b) (sym (slice_get-map (λ (d : ListDecl). inputs_of d.kind) p.lists a))
      c)

  -- a walk to a proxy
  record ToProxy (a : ℕ) : Type 0 where
    pub proxy : ℕ
    pub pumped : class_at p proxy ≡ Some Pumped
    pub through : List ℕ
    pub walk : IsWalk (list_edges p) a through proxy

  pumped_class : (c : ListClass) → is_pumped c ≡ true → c ≡ Pumped
  pumped_class Pumped e = refl
  pumped_class Edited e = absurd cc
  pumped_class other e = absurd cc

  proxy_class : (a : ℕ) → is_proxy (heads written) a ≡ true → class_at p a ≡ Some Pumped
  proxy_class a e = sym (ap (λ q. class_at q a) (canonical_makes_from p h n)) ∙ class_is written a
      ∙ by (slice_get (heads written) a) e
    where
      by : (o : Option Head) → unwrap_or (option_map (λ j. is_pumped j.class) o) false ≡ true
          → option_map (λ j. j.class) o ≡ Some Pumped
      by None f = absurd cc
      by (Some j) f = ap Some (pumped_class j.class f)

  either : (s t : Bool) → (s || t) ≡ true → (s ≡ true) ⊎ (t ≡ true)
  either true t e = inl refl
  either false t e = inr e

  record Among (test : ℕ → Bool) (xs : List ℕ) : Type 0 where
    pub item : ℕ
    pub there : Contains xs item
    pub passes : test item ≡ true

  among : (test : ℕ → Bool) (xs : List ℕ) → list_any test xs ≡ true → Among test xs
  among test [] e = absurd cc
  among test (x ∷ xs) e = elim (either (test x) (list_any test xs) e) [
    | inl here ↦ record { item = x; there = Contains-here x xs x refl; passes = here }
    | inr later ↦
        let m = among test xs later in
        record { item = m.item; there = Contains-later x xs m.item m.there; passes = m.passes }
  ]

  -- what leads to a proxy is one or has a walk to one
  leads : (steps a : ℕ) → leads_to_proxy written steps a ≡ true → (class_at p a ≡ Some Pumped) ⊎ ToProxy a
  leads zero a e = inl (proxy_class a e)
  leads (suc s) a e = elim (either (is_proxy (heads written) a)
      (list_any (leads_to_proxy written s) (needed written a)) e) [
        | inl is ↦ inl (proxy_class a is)
        | inr some ↦
            let m = among (leads_to_proxy written s) (needed written a) some in
            let edge : DependsOn (list_edges p) a m.item = edges_by_inputs a m.item
            (subst (λ ns. Contains ns m.item) (needed_written a) m.there) in
            elim (leads s m.item m.passes) [
              | inl proxy ↦ inr (record { proxy = m.item; pumped = proxy; through = []; walk = edge })
              | inr way ↦ inr (record {
                proxy = way.proxy;
                pumped = way.pumped;
                through = m.item ∷ way.through;
                walk =
                    (edge, way.walk);
              })
            ]
      ]

  -- a composite or a collection is over no proxy
  pub not_over_proxy : (a : ℕ) (class : ListClass) → class_at p a ≡ Some class → shuns_proxies class ≡ true
      → is_over_proxy written a ≡ false
  not_over_proxy a class e s = by (is_over_proxy written a) refl
    where
      shunning : (c : ListClass) → shuns_proxies c ≡ true → Some c ≡ Some Pumped → ⊥
      shunning c t same = absurd (true≢false (sym t ∙ ap shuns_proxies (same_Some c Pumped same)))

      by : (t : Bool) → is_over_proxy written a ≡ t → t ≡ false
      by false f = refl
      by true f = elim (leads (length (heads written)) a f) [
        | inl proxy ↦ absurd (shunning class s (sym e ∙ proxy))
        | inr way ↦
            let shuns : option_map shuns_proxies (class_at p a) ≡ Some true =
            ap (option_map shuns_proxies) e ∙ ap Some s in
            absurd (h.no_proxies a way.proxy shuns way.pumped (way.through, way.walk))
      ]
