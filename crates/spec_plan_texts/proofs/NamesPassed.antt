-- Nothing is wrong with the names of any line of a well formed plan.
use Rattle.std.proofs.Common.{◌≡◌, ◌∙◌, ℕ, suc, ◌<◌, true, false, List, [], ◌∷◌, ◌++◌, length, map, Option, Some, None, refl, sym, ap, subst, append-nil, append_assoc}
use Rattle.std.specs.Prelude.{if◌then◌else◌, option_map, option_and_then, option_to_list, flat_map, slice_get, unwrap_or, bytes_eq, Contains}
use Rattle.std.specs.Option.{is_some, option_or}
use Rattle.std.specs.List.{AllByRecursion, IsDistinct}
use Rattle.std.proofs.lemmas.Option.{slice_get-map}
use Rattle.std.proofs.lemmas.List.{length-map, map-append}
use Rattle.std.proofs.lemmas.List.Elements.{recursion_from_All}
use Rattle.spec_plans.specs.Tree.{Tree}
use Rattle.gl_lines.specs.declared.line.Line.{Line}
use Rattle.gl_lines.specs.declared.line.Line.TheVariants as line
use Rattle.gl_lines.specs.declared.line.NumberedLine.{NumberedLine}
use Rattle.gl_lines.specs.declared.plan.ListDecl.{ListDecl}
use Rattle.gl_lines.specs.declared.plan.ListKind.{ListKind}
use Rattle.gl_lines.specs.declared.plan.ListKind.TheVariants as kinds
use Rattle.gl_lines.specs.declared.plan.ListenerDecl.{ListenerDecl}
use Rattle.gl_lines.specs.declared.plan.Command.{Command}
use Rattle.gl_lines.specs.declared.plan.Command.TheVariants as commands
use Rattle.gl_lines.specs.declared.fault.Misplaced.{Misplaced}
use Rattle.gl_lines.specs.declared.fault.PlanKind.TheVariants.{Taken, Unknown, Member}
use Rattle.spec_order.specs.DependencyOrder.{has}
use Rattle.spec_order.proofs.Members.{true_from_Contains}
use Rattle.spec_plans.specs.declared.fault.NameFault.{NameFault}
use Rattle.spec_plans.specs.declared.fault.FaultAt.{FaultAt}
use Rattle.spec_plans.specs.declared.class.ListClass.TheVariants.{Edited}
use Rattle.spec_plans.specs.Along.{first_after}
use Rattle.spec_plans.specs.Lines.{Head, Hearer, head_of, hearer_of, fed_by, commanded_by}
use Rattle.spec_plans.specs.Names.{heads, hearers, list_names, number_of, depends_on}
use Rattle.spec_plans.specs.NameFaults.{wrong, first_fault, taken_fault, use_fault, after_fault, member_fault, attach_fault, command_fault, naming, first_misnamed, first_fault_at}
use Rattle.spec_plans.specs.Numbered.{numbered}
use Rattle.spec_plans.specs.Place.{first_misplaced}
use Rattle.spec_plans.specs.Plan.{Plan, origin}
use Rattle.spec_plan_texts.specs.Canonical.{list_line, row_lines, lines_of_list, listener_line, command_line, lines_of_section, lines_of_writer, lines_of_plan}
use Rattle.spec_plans.specs.PlanNames.{unplaced_name, named, names_of_listeners}
use Rattle.spec_plans.specs.WellFormed.{class_of_kind, inputs_at, needed_class, all_commands, HasList, HasHeard, IsAttachable, IsWellFormed}
use Rattle.spec_plans.proofs.Numbers.{number_at, number_named}
use Rattle.spec_plans.proofs.SoundLists.{given_more}
use Rattle.spec_plans.proofs.SoundProxies.{have_list, within_plan}
use Rattle.spec_plan_texts.proofs.Written.{list_head, listener_head, head_of_list, no_head, no_hearer, no_hearer_of_list, mapped_twice, names_written, listener_names_written}
use Rattle.spec_plan_texts.proofs.Uses.{written, names, number_is, use_is_fine, named_is_fine, needed_written}
use Rattle.spec_plan_texts.proofs.NamesFine.{new_name, both_none, none_of_names, list_fault_after, list_is_fine, place_of}
use Rattle.spec_plan_texts.proofs.Placed.{all_placed}
use Rattle.spec_basics.proofs.Lists.{all_weaker, all_both}
use Rattle.spec_plans.proofs.Sections.{in_sections}

-- a list with one item more, where there is one
abbrev followed : {X : Type 0} → List X → Option X → List X
followed xs None = xs
followed xs (Some x) = xs ++ x ∷ []

followed_is : {X : Type 0} (xs : List X) (o : Option X) → xs ++ option_to_list o ≡ followed xs o
followed_is xs None = append-nil xs
followed_is xs (Some x) = refl

-- what is wrong with a line after lines that declare these
abbrev pub listener_fault_after : List NumberedLine → List Hearer → Hearer → Option NameFault
listener_fault_after lines rs r =
    option_or (taken_fault (map (λ q. q.name.name) rs) r.name)
    (option_or (use_fault lines None r.list)
    (first_fault (after_fault lines) r.after))

abbrev pub fault_after : List NumberedLine → List Head → List Hearer → Line → Option NameFault
fault_after lines hs rs l =
    option_or (option_and_then (list_fault_after lines hs) (head_of l))
    (option_or (option_and_then (listener_fault_after lines rs) (hearer_of l))
    (option_or (option_and_then (use_fault lines (Some Edited)) (fed_by l))
    (option_and_then (command_fault lines l) (commanded_by l))))

-- nothing is wrong with each of the lines, after lines that declare these
Passes : List NumberedLine → List Head → List Hearer → List Line → Type 0
Passes lines hs rs [] = Unit {0}
Passes lines hs rs (l ∷ ls) =
    (fault_after lines hs rs l ≡ None) × Passes lines (followed hs (head_of l)) (followed rs (hearer_of l)) ls

none_named : (lines : List NumberedLine) (n : ℕ) (before : List NumberedLine) (ls : List Line)
    → Passes lines (heads before) (hearers before) ls → first_after (naming lines) before (numbered n ls) ≡ None
unfolding Passes
none_named lines n before [] h = refl
none_named lines n before (l ∷ ls) h =
    let here : NumberedLine = record { line = n; what = l } in
    let at : NameFault → FaultAt = λ f. record { line = n; column = f.column; kind = f.kind } in
    let hs : heads (before ++ here ∷ []) ≡ followed (heads before) (head_of l) =
    given_more (λ (k : NumberedLine). head_of k.what) before here ∙ followed_is (heads before) (head_of l) in
    let rs : hearers (before ++ here ∷ []) ≡ followed (hearers before) (hearer_of l) =
    given_more (λ (k : NumberedLine). hearer_of k.what) before here
    ∙ followed_is (hearers before) (hearer_of l) in
    ap (λ o. option_or (option_map at o) (first_after (naming lines) (before ++ here ∷ []) (numbered (suc n) ls)))
    h.0
    ∙ none_named lines (suc n) (before ++ here ∷ []) ls
    (subst (λ gs. Passes lines gs (hearers (before ++ here ∷ [])) ls) (sym hs)
    (subst (λ qs. Passes lines (followed (heads before) (head_of l)) qs ls) (sym rs) h.1))

module _ (p : Plan) (h : IsWellFormed p) (n : ℕ) where
  abbrev listeners : List (List ℕ)
  listeners = names_of_listeners p

  abbrev all_lines : List NumberedLine
  all_lines = written p h n

  -- a list's line says what its head says
  list_said : (hs : List Head) (rs : List Hearer) (name : List ℕ) (kind : ListKind)
      → fault_after all_lines hs rs (list_line (names p h n) (unplaced_name name) kind)
      ≡ option_or (list_fault_after all_lines hs (list_head (names p h n) (record {
        name = name;
        kind =
            kind;
      }))) None
  list_said hs rs name (kinds.Source rows) = refl
  list_said hs rs name other = refl

  rows_pass : (hs : List Head) (rs : List Hearer) (name : List ℕ) (kind : ListKind) (rest : List Line)
      → (class_of_kind kind ≡ Edited → use_fault all_lines (Some Edited) (unplaced_name name) ≡ None)
      → Passes all_lines hs rs rest → Passes all_lines hs rs (row_lines (unplaced_name name) kind ++ rest)
  unfolding Passes
  rows_pass hs rs name (kinds.Source rows) rest u k = each rows
    where
      each : (vs : List Tree) → Passes all_lines hs rs (map (line.Row (unplaced_name name)) vs ++ rest)
      each [] = k
      each (v ∷ vs) = (both_none (use_fault all_lines (Some Edited) (unplaced_name name)) None (u refl) refl, each vs)
  rows_pass hs rs name other rest u k = k

  lists_pass : (before ds : List ListDecl) (rest : List Line) → before ++ ds ≡ p.lists
      → Passes all_lines (map (list_head (names p h n)) p.lists) [] rest
      → Passes all_lines (map (list_head (names p h n)) before) [] (flat_map (lines_of_list (names p h n)) ds ++ rest)
  unfolding Passes
  lists_pass before [] rest split k =
      subst (λ ds. Passes all_lines (map (list_head (names p h n)) ds) [] rest) (sym split ∙ append-nil before) k
  lists_pass before (d ∷ ds) rest split k =
      let hs : List Head = map (list_head (names p h n)) before in
      let more : List Line = row_lines (unplaced_name d.name) d.kind in
      let later : List Line = flat_map (lines_of_list (names p h n)) ds ++ rest in
      let place : slice_get p.lists (length before) ≡ Some d = place_of p h n before d ds split in
      let next : map (list_head (names p h n)) (before ++ d ∷ [])
      ≡ followed hs (head_of (list_line (names p h n) (unplaced_name d.name) d.kind)) =
      map-append (list_head (names p h n)) before (d ∷ [])
      ∙ ap (followed hs) (sym (head_of_list (names p h n) d.name d.kind)) in
      let no_more : [] ≡ followed [] (hearer_of (list_line (names p h n) (unplaced_name d.name) d.kind)) =
      ap (followed []) (sym (no_hearer_of_list (names p h n) (unplaced_name d.name) d.kind)) in
      let fed : class_of_kind d.kind ≡ Edited → use_fault all_lines (Some Edited) (unplaced_name d.name) ≡ None =
      λ e. use_is_fine p h n (Some Edited) (unplaced_name d.name) (length before)
      (number_at (names p h n) (length before) d.name h.list_names
      (slice_get-map (λ (m : ListDecl). m.name) p.lists (length before)
      ∙ ap (option_map (λ (m : ListDecl). m.name)) place))
      (ap (option_map (λ (m : ListDecl). class_of_kind m.kind)) place ∙ ap Some e) in
      let rest_passes : Passes all_lines (map (list_head (names p h n)) (before ++ d ∷ [])) [] later =
      lists_pass (before ++ d ∷ []) ds rest (append_assoc before (d ∷ []) ds ∙ split) k in
      let with_rows : Passes all_lines (map (list_head (names p h n)) (before ++ d ∷ [])) []
      ((more ++ flat_map (lines_of_list (names p h n)) ds) ++ rest) =
      subst (Passes all_lines (map (list_head (names p h n)) (before ++ d ∷ [])) [])
      (sym (append_assoc more (flat_map (lines_of_list (names p h n)) ds) rest))
      (rows_pass (map (list_head (names p h n)) (before ++ d ∷ [])) [] d.name d.kind later fed rest_passes) in (
        list_said hs [] d.name d.kind ∙ both_none (list_fault_after all_lines hs (list_head (names p h n) d)) None
            (list_is_fine p h n before d ds split) refl,
        subst (λ gs. Passes all_lines gs (followed [] (hearer_of
            (list_line (names p h n) (unplaced_name d.name) d.kind)))
            ((more ++ flat_map (lines_of_list (names p h n)) ds) ++ rest)) next
            (subst (λ qs. Passes all_lines (map (list_head (names p h n)) (before ++ d ∷ [])) qs
            ((more ++ flat_map (lines_of_list (names p h n)) ds) ++ rest)) no_more with_rows),
      )

  -- listeners
  after_is_fine : (k : ℕ) → k < length p.listeners → after_fault all_lines (named listeners k) ≡ None
  after_is_fine k l =
      let at : number_of listeners (named listeners k).name ≡ Some k =
      number_named listeners k h.listener_names (subst (λ m. k < m)
      (sym (length-map p.listeners (λ (d : ListenerDecl). d.name))) l) in
      ap (λ o. if is_some o then None else wrong (named listeners k) Unknown)
      (ap (λ ns. number_of ns (named listeners k).name) (listener_names_written p n) ∙ at)

  listener_is_fine : (before : List ListenerDecl) (d : ListenerDecl) (remaining : List ListenerDecl)
      → before ++ d ∷ remaining ≡ p.listeners → HasHeard p d
      → listener_fault_after all_lines (map (listener_head (names p h n) listeners) before)
      (listener_head (names p h n) listeners d) ≡ None
  listener_is_fine before d remaining split k =
      let earlier : List (List ℕ) = map (λ (e : ListenerDecl). e.name) before in
      let later : List (List ℕ) = map (λ (e : ListenerDecl). e.name) remaining in
      let rs : List Hearer = map (listener_head (names p h n) listeners) before in
      let r : Hearer = listener_head (names p h n) listeners d in
      let distinct : IsDistinct bytes_eq (earlier ++ d.name ∷ later) =
      subst (IsDistinct bytes_eq) (ap (map (λ (e : ListenerDecl). e.name)) (sym split)
      ∙ map-append (λ (e : ListenerDecl). e.name) before (d ∷ remaining)) h.listener_names in
      let new : is_some (number_of (map (λ (q : Hearer). q.name.name) rs) d.name) ≡ false =
      ap (λ ns. is_some (number_of ns d.name)) (mapped_twice (λ (q : Hearer). q.name.name)
      (listener_head (names p h n) listeners) before) ∙ new_name earlier d.name later distinct in
      both_none (taken_fault (map (λ (q : Hearer). q.name.name) rs) r.name)
      (option_or (use_fault all_lines None r.list) (first_fault (after_fault all_lines) r.after))
      (ap (λ t. if t then wrong (unplaced_name d.name) Taken else None) new)
      (both_none (use_fault all_lines None r.list) (first_fault (after_fault all_lines) r.after)
      (named_is_fine p h n None d.list k.list)
      (none_of_names (after_fault all_lines) (named listeners) d.after
      (all_weaker (λ i. i < length p.listeners) (λ i. after_fault all_lines (named listeners i)
      ≡ None) after_is_fine d.after (recursion_from_All (λ i. i < length p.listeners) d.after k.after))))

  listeners_pass : (hs : List Head) (before ds : List ListenerDecl) (rest : List Line) → before ++ ds ≡ p.listeners
      → AllByRecursion (HasHeard p) ds
      → Passes all_lines hs (map (listener_head (names p h n) listeners) p.listeners) rest
      → Passes all_lines hs (map (listener_head (names p h n) listeners) before)
      (map (listener_line (names p h n) listeners) ds ++ rest)
  unfolding Passes
  listeners_pass hs before [] rest split a k =
      subst (λ ds. Passes all_lines hs (map (listener_head (names p h n) listeners) ds) rest) (sym split
      ∙ append-nil before) k
  listeners_pass hs before (d ∷ ds) rest split a k =
      let rs : List Hearer = map (listener_head (names p h n) listeners) before in
      let r : Hearer = listener_head (names p h n) listeners d in (
        both_none (listener_fault_after all_lines rs r) None (listener_is_fine before d ds split a.0) refl,
        subst (λ qs. Passes all_lines hs qs (map (listener_line (names p h n) listeners) ds ++ rest))
            (map-append (listener_head (names p h n) listeners) before (d ∷ []))
            (listeners_pass hs (before ++ d ∷ []) ds rest (append_assoc before (d ∷ []) ds ∙ split) a.1 k),
      )

  -- commands
  member_is_fine : (list member : ℕ) → list < length p.lists → member < length p.lists
      → Contains (inputs_at p list) member
      → member_fault all_lines (named (names p h n) list) (named (names p h n) member) ≡ None
  member_is_fine list member l m c =
      let number_there : (k : ℕ) → k < length p.lists → unwrap_or
      (number_of (list_names all_lines) (named (names p h n) k).name) 0 ≡ k =
      λ k b. ap (λ ns. unwrap_or (number_of ns (named (names p h n) k).name) 0) (names_written p n)
      ∙ ap (λ o. unwrap_or o 0) (number_is p h n k b) in
      let there : depends_on all_lines list member ≡ true = ap (λ ns. has ns member) (needed_written p h n list)
      ∙ true_from_Contains (inputs_at p list) member c in
      ap (λ a. if depends_on all_lines a (unwrap_or (number_of (list_names all_lines)
      (named (names p h n) member).name) 0) then None else wrong (named (names p h n) member) Member)
      (number_there list l)
      ∙ ap (λ b. if depends_on all_lines list b then None else wrong (named (names p h n) member) Member)
      (number_there member m)
      ∙ ap (λ t. if t then None else wrong (named (names p h n) member) Member) there

  abbrev IsFine : Command → Type 0
  IsFine c = (hs : List Head) (rs : List Hearer) → fault_after all_lines hs rs (command_line (names p h n) c) ≡ None

  by_use : (c : Command) → use_fault all_lines (needed_class c) (named (names p h n) (origin c)) ≡ None
      → HasList p (needed_class c) (origin c) → IsAttachable p c → IsFine c
  by_use (commands.Attach list member) u l a hs rs =
      let within : member < length p.lists = within_plan p h.inputs list member a in
      both_none (use_fault all_lines (needed_class (commands.Attach list member)) (named (names p h n) list))
      (attach_fault all_lines (named (names p h n) list) (named (names p h n) member)) u
      (both_none (use_fault all_lines None (named (names p h n) member))
      (member_fault all_lines (named (names p h n) list) (named (names p h n) member))
      (named_is_fine p h n None member within)
      (member_is_fine list member (have_list p (needed_class (commands.Attach list member)) list l) within a))
  by_use other u l a hs rs = ap (λ o. option_or o None) u

  command_is_fine : (c : Command) → HasList p (needed_class c) (origin c) → IsAttachable p c → IsFine c
  command_is_fine c l a = by_use c (named_is_fine p h n (needed_class c) (origin c) l) l a

  commands_pass : (hs : List Head) (rs : List Hearer) (cs : List Command) (rest : List Line)
      → AllByRecursion IsFine cs → Passes all_lines hs rs rest
      → Passes all_lines hs rs (map (command_line (names p h n)) cs ++ rest)
  unfolding Passes
  commands_pass hs rs [] rest a k = k
  commands_pass hs rs (c ∷ cs) rest a k = (
    a.0 hs rs,
    subst (λ o. Passes all_lines (followed hs o) (followed rs (hearer_of (command_line (names p h n) c)))
        (map (command_line (names p h n)) cs ++ rest)) (sym (no_head (names p h n) c))
        (subst (λ o. Passes all_lines hs (followed rs o) (map (command_line (names p h n)) cs ++ rest))
        (sym (no_hearer (names p h n) c)) (commands_pass hs rs cs rest a.1 k)),
  )

  sections_pass : (hs : List Head) (rs : List Hearer) (sections : List (List Command)) (rest : List Line)
      → AllByRecursion (AllByRecursion IsFine) sections → Passes all_lines hs rs rest
      → Passes all_lines hs rs (flat_map (lines_of_section (names p h n)) sections ++ rest)
  unfolding Passes
  sections_pass hs rs [] rest a k = k
  sections_pass hs rs (s ∷ ss) rest a k =
      let later : List Line = flat_map (lines_of_section (names p h n)) ss ++ rest in (
        refl,
        subst (Passes all_lines hs rs) (sym (append_assoc (map (command_line (names p h n)) s)
            (flat_map (lines_of_section (names p h n)) ss) rest))
            (commands_pass hs rs s later a.0 (sections_pass hs rs ss rest a.1 k)),
      )

  writers_pass : (hs : List Head) (rs : List Hearer) (writers : List (List (List Command))) (rest : List Line)
      → AllByRecursion (AllByRecursion (AllByRecursion IsFine)) writers → Passes all_lines hs rs rest
      → Passes all_lines hs rs (flat_map (lines_of_writer (names p h n)) writers ++ rest)
  unfolding Passes
  writers_pass hs rs [] rest a k = k
  writers_pass hs rs (w ∷ ws) rest a k =
      let later : List Line = flat_map (lines_of_writer (names p h n)) ws ++ rest in (
        refl,
        subst (Passes all_lines hs rs) (sym (append_assoc (flat_map (lines_of_section (names p h n)) w)
            (flat_map (lines_of_writer (names p h n)) ws) rest))
            (sections_pass hs rs w later a.0 (writers_pass hs rs ws rest a.1 k)),
      )

  all_pass : Passes all_lines [] [] (lines_of_plan p)
  unfolding Passes
  all_pass =
      let declared : List Line = flat_map (lines_of_list (names p h n)) p.lists in
      let heard : List Line = map (listener_line (names p h n) listeners) p.listeners in
      let said : List Line = flat_map (lines_of_writer (names p h n)) p.writers in
      let hs : List Head = map (list_head (names p h n)) p.lists in
      let rs : List Hearer = map (listener_head (names p h n) listeners) p.listeners in
      let commanded : AllByRecursion (AllByRecursion (AllByRecursion IsFine)) p.writers =
      in_sections IsFine p
      (all_both (λ c. HasList p (needed_class c) (origin c)) (IsAttachable p) IsFine command_is_fine (all_commands p)
      (recursion_from_All (λ c. HasList p (needed_class c) (origin c)) (all_commands p) h.commanded)
      (recursion_from_All (IsAttachable p) (all_commands p) h.attached)) in
      let last : Passes all_lines hs rs said = subst (Passes all_lines hs rs) (append-nil said)
      (writers_pass hs rs p.writers [] commanded tt) in
      let middle : Passes all_lines hs [] (heard ++ said) =
      listeners_pass hs [] p.listeners said refl (recursion_from_All (HasHeard p) p.listeners h.heard) last in (
        refl,
        subst (Passes all_lines [] []) (sym (append_assoc declared heard said))
            (lists_pass [] p.lists (heard ++ said) refl middle),
      )

  all_named : first_misnamed all_lines ≡ None
  all_named = none_named all_lines n [] (lines_of_plan p) all_pass

  pub canonical_sound_from : first_fault_at all_lines ≡ None
  canonical_sound_from =
      let at_start : Misplaced → FaultAt = λ m. record { line = m.line; column = 1; kind = m.kind } in
      both_none (option_map at_start (first_misplaced all_lines)) (first_misnamed all_lines)
      (ap (option_map at_start) (all_placed p h n)) all_named

-- nothing is wrong with the lines of a well formed plan
pub canonical_sound : (p : Plan) → IsWellFormed p → first_fault_at (numbered 2 (lines_of_plan p)) ≡ None
canonical_sound p h = canonical_sound_from p h 2
