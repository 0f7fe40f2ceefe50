-- Nothing is wrong with the names of the lists of a well formed plan, in its lines.
use Rattle.std.proofs.Common.{◌≡◌, ◌∙◌, ℕ, suc, ◌<◌, ◌==◌, ◌&&◌, Bool, true, false, cond, List, [], ◌∷◌, ◌++◌, length, map, Option, Some, None, refl, sym, ap, subst, eq-eqb, true≢false}
use Rattle.std.specs.Prelude.{if◌then◌else◌, option_map, option_to_list, filter_map, slice_get, bytes_eq}
use Rattle.std.specs.Option.{is_some, option_or}
use Rattle.std.specs.List.{cons_option, AllByRecursion, IsDistinct}
use Rattle.std.proofs.lemmas.Option.{same_Some, none-some}
use Rattle.std.proofs.lemmas.List.{length-map, map-append}
use Rattle.std.proofs.lemmas.List.Elements.{filter_map-append}
use Rattle.std.proofs.lemmas.Slice.Eq.{bytes_eq-Decides}
use Rattle.gl_lines.specs.declared.named.Named.{Named}
use Rattle.gl_lines.specs.declared.plan.ListDecl.{ListDecl}
use Rattle.gl_lines.specs.declared.plan.ListKind.{ListKind}
use Rattle.gl_lines.specs.declared.plan.ListKind.TheVariants as kinds
use Rattle.gl_lines.specs.declared.fault.PlanKind.TheVariants.{Taken, Second, OverProxy}
use Rattle.gl_lines.specs.declared.line.NumberedLine.{NumberedLine}
use Rattle.spec_plans.specs.declared.fault.NameFault.{NameFault}
use Rattle.spec_plans.specs.declared.class.ListClass.{ListClass}
use Rattle.spec_plans.specs.declared.class.ListClass.TheVariants.{Edited}
use Rattle.spec_plans.specs.Along.{first_some}
use Rattle.spec_plans.specs.Lines.{Head}
use Rattle.spec_plans.specs.Names.{number_of, is_over_proxy}
use Rattle.spec_plans.specs.NameFaults.{wrong, first_fault, taken_fault, use_fault, input_need, is_undone, undone_inputs, second_fault, shuns_proxies, proxy_fault}
use Rattle.spec_plans.specs.Plan.{Plan, inputs_of}
use Rattle.spec_plans.specs.PlanNames.{unplaced_name, named}
use Rattle.spec_plans.specs.WellFormed.{class_of_kind, class_at, undone_input, undone_inputs_of, HasList, IsWellFormed}
use Rattle.spec_plans.proofs.Numbers.{position_in_prefix}
use Rattle.spec_plans.proofs.Made.{given_first}
use Rattle.spec_plans.proofs.Used.{has_class}
use Rattle.spec_plans.proofs.SoundProxies.{have_list}
use Rattle.spec_plan_texts.proofs.Written.{list_head, members_of, may_of, mapped_twice}
use Rattle.spec_plan_texts.proofs.Uses.{written, names, number_is, named_is_fine, inputs_have, together, not_over_proxy}
use Rattle.spec_basics.proofs.Lists.{all_weaker, all_given, all_left, all_right, all_by_index}

-- an item after others
pub at_seam : {X : Type 0} (xs : List X) (x : X) (ys : List X) → slice_get (xs ++ x ∷ ys) (length xs) ≡ Some x
at_seam [] x ys = refl
at_seam (z ∷ zs) x ys = at_seam zs x ys

all_seam : {X : Type 0} (P : X → Type 0) (xs : List X) (x : X) (ys : List X) → AllByRecursion P (xs ++ x ∷ ys) → P x
all_seam P [] x ys h = h.0
all_seam P (z ∷ zs) x ys h = all_seam P zs x ys h.1

-- a name among distinct ones is none of those before it
pub new_name : (xs : List (List ℕ)) (x : List ℕ) (ys : List (List ℕ)) → IsDistinct bytes_eq (xs ++ x ∷ ys)
    → is_some (number_of xs x) ≡ false
unfolding IsDistinct
new_name [] x ys d = refl
new_name (z ∷ zs) x ys d =
    ap is_some (position_in_prefix (λ other. bytes_eq other x) z zs)
    ∙ ap (λ t. is_some (cond t (Some 0) (option_map suc (number_of zs x)))) (all_seam (λ y. bytes_eq z y
    ≡ false) zs x ys d.0)
    ∙ moved (number_of zs x)
    ∙ new_name zs x ys d.1
  where
    moved : (o : Option ℕ) → is_some (option_map suc o) ≡ is_some o
    moved None = refl
    moved (Some k) = refl

pub both_none : {B : Type 0} (a b : Option B) → a ≡ None → b ≡ None → option_or a b ≡ None
both_none a b e f = ap (λ o. option_or o b) e ∙ f

pub none_of_names : {B : Type 0} (f : Named → Option B) (g : ℕ → Named) (ks : List ℕ)
    → AllByRecursion (λ k. f (g k) ≡ None) ks → first_some (map f (map g ks)) ≡ None
none_of_names f g [] h = refl
none_of_names f g (k ∷ ks) h = both_none (f (g k)) (first_some (map f (map g ks))) h.0 (none_of_names f g ks h.1)

-- what is wrong with a list's line after lines of these heads
abbrev pub list_fault_after : List NumberedLine → List Head → Head → Option NameFault
list_fault_after lines hs h =
    option_or (taken_fault (map (λ j. j.name.name) hs) h.name)
    (option_or (first_fault (use_fault lines (input_need h.class)) h.inputs)
    (option_or (first_fault (use_fault lines None) h.may)
    (option_or (if is_undone h.class then first_fault (second_fault hs) h.inputs else None)
    (proxy_fault lines (length hs) h.class))))

module _ (p : Plan) (h : IsWellFormed p) (n : ℕ) where
  -- names of different lists differ
  names_apart : (k j : ℕ) → k < length p.lists → j < length p.lists → (k == j) ≡ false
      → bytes_eq (named (names p h n) k).name (named (names p h n) j).name ≡ false
  names_apart k j l m e = by (bytes_eq (named (names p h n) k).name (named (names p h n) j).name) refl
    where
      by : (t : Bool) → bytes_eq (named (names p h n) k).name (named (names p h n) j).name ≡ t → t ≡ false
      by false f = refl
      by true f =
          let same : k ≡ j =
          same_Some k j (sym (number_is p h n k l) ∙ ap (number_of (names p h n))
          ((bytes_eq-Decides (named (names p h n) k).name (named (names p h n) j).name).0 f)
          ∙ number_is p h n j m) in
          absurd (true≢false (sym (eq-eqb k j same) ∙ e))

  names_distinct : (ks : List ℕ) → AllByRecursion (λ k. k < length p.lists) ks → IsDistinct (λ a b. a == b) ks
      → IsDistinct bytes_eq (map (λ k. (named (names p h n) k).name) ks)
  unfolding IsDistinct
  names_distinct [] l d = tt
  names_distinct (k ∷ ks) l d = (apart ks l.1 d.0, names_distinct ks l.1 d.1)
    where
      apart : (js : List ℕ) → AllByRecursion (λ j. j < length p.lists) js → AllByRecursion (λ j. (k == j) ≡ false) js
          → AllByRecursion (λ name. bytes_eq (named (names p h n) k).name name
          ≡ false) (map (λ j. (named (names p h n) j).name) js)
      apart [] m e = tt
      apart (j ∷ js) m e = (names_apart k j l.0 m.0 e.0, apart js m.1 e.1)

  -- the inputs of transactions, by name
  undone_written : (ds : List ListDecl) → undone_inputs (map (list_head (names p h n)) ds)
      ≡ map (λ k. (named (names p h n) k).name) (filter_map (λ d. undone_input d.kind) ds)
  undone_written [] = refl
  undone_written (d ∷ ds) =
      let nm : ℕ → List ℕ = λ k. (named (names p h n) k).name in
      ap (λ us. us ++ undone_inputs (map (list_head (names p h n)) ds)) (one d.kind)
      ∙ ap (λ us. map nm (option_to_list (undone_input d.kind)) ++ us) (undone_written ds)
      ∙ sym (map-append nm (option_to_list (undone_input d.kind))
      (filter_map (λ (e : ListDecl). undone_input e.kind) ds))
      ∙ ap (map nm) (given_first (undone_input d.kind) (filter_map (λ (e : ListDecl). undone_input e.kind) ds))
    where
      one : (kind : ListKind) → (if is_undone (class_of_kind kind) then map (λ input. input.name)
          (map (named (names p h n)) (members_of kind)) else [])
          ≡ map (λ k. (named (names p h n) k).name) (option_to_list (undone_input kind))
      one (kinds.Transaction input) = refl
      one (kinds.Source rows) = refl
      one other = refl

  undone_within : AllByRecursion (λ k. k < length p.lists) (undone_inputs_of p)
  undone_within = all_given (λ (d : ListDecl). undone_input d.kind) (λ k. k < length p.lists) p.lists
      (all_by_index (λ d. (i : ℕ) → undone_input d.kind ≡ Some i → i < length p.lists) p.lists each)
    where
      by_kind : (kind : ListKind) → AllByRecursion (HasList p (input_need (class_of_kind kind))) (inputs_of kind)
          → (i : ℕ) → undone_input kind ≡ Some i → i < length p.lists
      by_kind (kinds.Transaction input) l i e = subst (λ k. k < length p.lists) (same_Some input i e)
          (has_class p input Edited l.0)
      by_kind (kinds.Source rows) l i e = absurd (none-some i e)
      by_kind other l i e = absurd (none-some i e)

      each : (k : ℕ) (d : ListDecl) → slice_get p.lists k ≡ Some d → (i : ℕ) → undone_input d.kind ≡ Some i
          → i < length p.lists
      each k d e i f = by_kind d.kind (inputs_have p h n k d e) i f

  -- no transaction before has the input
  second_fine : (before : List ListDecl) (d : ListDecl) (remaining : List ListDecl) → before ++ d ∷ remaining ≡ p.lists
      → (if is_undone (class_of_kind d.kind) then first_fault (second_fault (map (list_head (names p h n)) before))
      (map (named (names p h n)) (members_of d.kind)) else None) ≡ None
  second_fine before d remaining split = by d.kind refl
    where
      by : (kind : ListKind) → d.kind ≡ kind → (if is_undone (class_of_kind kind) then first_fault
          (second_fault (map (list_head (names p h n)) before))
          (map (named (names p h n)) (members_of kind)) else None) ≡ None
      by (kinds.Transaction input) e =
          let earlier : List ℕ = filter_map (λ (x : ListDecl). undone_input x.kind) before in
          let later : List ℕ = filter_map (λ (x : ListDecl). undone_input x.kind) remaining in
          let parts : undone_inputs_of p ≡ earlier ++ input ∷ later =
          ap (filter_map (λ (x : ListDecl). undone_input x.kind)) (sym split)
          ∙ filter_map-append (λ (x : ListDecl). undone_input x.kind) before (d ∷ remaining)
          ∙ ap (λ kind. earlier ++ cons_option (undone_input kind) later) e in
          let distinct : IsDistinct bytes_eq (map (λ k. (named (names p h n) k).name) earlier
          ++ (named (names p h n) input).name ∷ map (λ k. (named (names p h n) k).name) later) =
          subst (IsDistinct bytes_eq) (ap (map (λ k. (named (names p h n) k).name)) parts
          ∙ map-append (λ k. (named (names p h n) k).name) earlier (input ∷ later))
          (names_distinct (undone_inputs_of p) undone_within h.one_transaction) in
          let new : is_some (number_of (undone_inputs (map (list_head (names p h n)) before))
          (named (names p h n) input).name) ≡ false =
          ap (λ us. is_some (number_of us (named (names p h n) input).name)) (undone_written before)
          ∙ new_name (map (λ k. (named (names p h n) k).name) earlier) (named (names p h n) input).name
          (map (λ k. (named (names p h n) k).name) later) distinct in
          both_none (second_fault (map (list_head (names p h n)) before) (named (names p h n) input)) None
          (ap (λ t. if t then wrong (named (names p h n) input) Second else None) new) refl
      by (kinds.Source rows) e = refl
      by other e = refl

  -- its name is new
  taken_fine : (before : List ListDecl) (d : ListDecl) (remaining : List ListDecl) → before ++ d ∷ remaining ≡ p.lists
      → taken_fault (map (λ j. j.name.name) (map (list_head (names p h n)) before)) (unplaced_name d.name) ≡ None
  taken_fine before d remaining split =
      let earlier : List (List ℕ) = map (λ (e : ListDecl). e.name) before in
      let later : List (List ℕ) = map (λ (e : ListDecl). e.name) remaining in
      let distinct : IsDistinct bytes_eq (earlier ++ d.name ∷ later) =
      subst (IsDistinct bytes_eq) (ap (map (λ (e : ListDecl). e.name)) (sym split)
      ∙ map-append (λ (e : ListDecl). e.name) before (d ∷ remaining)) h.list_names in
      let new : is_some (number_of (map (λ (j : Head). j.name.name) (map (list_head (names p h n)) before)) d.name)
      ≡ false =
      ap (λ ns. is_some (number_of ns d.name)) (mapped_twice (λ (j : Head). j.name.name)
      (list_head (names p h n)) before) ∙ new_name earlier d.name later distinct in
      ap (λ t. if t then wrong (unplaced_name d.name) Taken else None) new

  pub place_of : (before : List ListDecl) (d : ListDecl) (remaining : List ListDecl) → before ++ d ∷ remaining ≡ p.lists
      → slice_get p.lists (length before) ≡ Some d
  place_of before d remaining split = ap (λ ds. slice_get ds (length before)) (sym split) ∙ at_seam before d remaining

  -- it depends on no proxy where it may not
  proxy_fine : (before : List ListDecl) (d : ListDecl) (remaining : List ListDecl) → before ++ d ∷ remaining ≡ p.lists
      → proxy_fault (written p h n) (length (map (list_head (names p h n)) before)) (class_of_kind d.kind) ≡ None
  proxy_fine before d remaining split =
      subst (λ k. proxy_fault (written p h n) k (class_of_kind d.kind)
      ≡ None) (sym (length-map before (list_head (names p h n)))) (by (shuns_proxies (class_of_kind d.kind)) refl)
    where
      over : Option NameFault
      over = Some (record { column = 1; kind = OverProxy })

      by : (t : Bool) → shuns_proxies (class_of_kind d.kind) ≡ t
          → proxy_fault (written p h n) (length before) (class_of_kind d.kind) ≡ None
      by false e = ap (λ t. if t && is_over_proxy (written p h n) (length before) then over else None) e
      by true e =
          let class : class_at p (length before) ≡ Some (class_of_kind d.kind) =
          ap (option_map (λ (m : ListDecl). class_of_kind m.kind)) (place_of before d remaining split) in
          ap (λ t. if t && is_over_proxy (written p h n) (length before) then over else None) e
          ∙ ap (λ t. if t then over else None) (not_over_proxy p h n (length before) (class_of_kind d.kind) class e)

  -- what it depends on is there
  inputs_fine : (before : List ListDecl) (d : ListDecl) (remaining : List ListDecl) → before ++ d ∷ remaining ≡ p.lists
      → first_fault (use_fault (written p h n) (input_need (class_of_kind d.kind)))
      (map (named (names p h n)) (members_of d.kind)) ≡ None
  inputs_fine before d remaining split =
      let need : Option ListClass = input_need (class_of_kind d.kind) in
      let all : AllByRecursion (HasList p need) (members_of d.kind ++ may_of d.kind) =
      subst (AllByRecursion (HasList p need)) (together p h n d.kind)
      (inputs_have p h n (length before) d (place_of before d remaining split)) in
      none_of_names (use_fault (written p h n) need) (named (names p h n)) (members_of d.kind)
      (all_weaker (HasList p need) (λ k. use_fault (written p h n) need (named (names p h n) k)
      ≡ None) (named_is_fine p h n need) (members_of d.kind)
      (all_left (HasList p need) (members_of d.kind) (may_of d.kind) all))

  may_fine : (before : List ListDecl) (d : ListDecl) (remaining : List ListDecl) → before ++ d ∷ remaining ≡ p.lists
      → first_fault (use_fault (written p h n) None) (map (named (names p h n)) (may_of d.kind)) ≡ None
  may_fine before d remaining split =
      let need : Option ListClass = input_need (class_of_kind d.kind) in
      let all : AllByRecursion (HasList p need) (members_of d.kind ++ may_of d.kind) =
      subst (AllByRecursion (HasList p need)) (together p h n d.kind)
      (inputs_have p h n (length before) d (place_of before d remaining split)) in
      none_of_names (use_fault (written p h n) None) (named (names p h n)) (may_of d.kind)
      (all_weaker (HasList p need) (λ k. use_fault (written p h n) None (named (names p h n) k)
      ≡ None) (λ k l. named_is_fine p h n None k (have_list p need k l)) (may_of d.kind)
      (all_right (HasList p need) (members_of d.kind) (may_of d.kind) all))

  -- so nothing is wrong with its line
  pub list_is_fine : (before : List ListDecl) (d : ListDecl) (remaining : List ListDecl) → before ++ d ∷ remaining ≡ p.lists
      → list_fault_after (written p h n) (map (list_head (names p h n)) before) (list_head (names p h n) d) ≡ None
  list_is_fine before d remaining split =
      let hs : List Head = map (list_head (names p h n)) before in
      let head : Head = list_head (names p h n) d in
      let need : Option ListClass = input_need (class_of_kind d.kind) in
      let b : Option NameFault = first_fault (use_fault (written p h n) need) head.inputs in
      let c : Option NameFault = first_fault (use_fault (written p h n) None) head.may in
      let e : Option NameFault = if is_undone head.class then first_fault (second_fault hs) head.inputs else None in
      let f : Option NameFault = proxy_fault (written p h n) (length hs) head.class in
      both_none (taken_fault (map (λ (j : Head). j.name.name) hs) head.name)
      (option_or b (option_or c (option_or e f))) (taken_fine before d remaining split)
      (both_none b (option_or c (option_or e f)) (inputs_fine before d remaining split)
      (both_none c (option_or e f) (may_fine before d remaining split)
      (both_none e f (second_fine before d remaining split) (proxy_fine before d remaining split))))
