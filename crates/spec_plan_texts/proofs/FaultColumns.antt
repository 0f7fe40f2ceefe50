-- What is wrong with lines isn't told by the columns of their names, but for the column of the fault.
use Rattle.std.proofs.Common.{◌≡◌, ◌∙◌, ℕ, ◌&&◌, Bool, true, false, List, [], ◌∷◌, ◌++◌, length, map, Option, Some, None, refl, sym, ap}
use Rattle.std.specs.Prelude.{if◌then◌else◌, option_map, option_and_then, unwrap_or}
use Rattle.std.specs.Option.{is_some, option_or}
use Rattle.std.proofs.lemmas.List.{length-map, map-append}
use Rattle.spec_order.specs.DependencyOrder.{has}
use Rattle.gl_lines.specs.declared.named.Named.{Named}
use Rattle.gl_lines.specs.declared.line.Line.{Line}
use Rattle.gl_lines.specs.declared.line.Line.TheVariants as line
use Rattle.gl_lines.specs.declared.line.NumberedLine.{NumberedLine}
use Rattle.gl_lines.specs.declared.fault.PlanKind.{PlanKind}
use Rattle.gl_lines.specs.declared.fault.PlanKind.TheVariants.{Taken, Unknown, Kind, Member, Second, OverProxy}
use Rattle.gl_lines.specs.declared.fault.Misplaced.{Misplaced}
use Rattle.spec_plans.specs.declared.fault.NameFault.{NameFault}
use Rattle.spec_plans.specs.declared.fault.FaultAt.{FaultAt}
use Rattle.spec_plans.specs.declared.class.ListClass.{ListClass}
use Rattle.spec_plans.specs.declared.class.ListClass.TheVariants.{Edited}
use Rattle.spec_plans.specs.Along.{first_after}
use Rattle.spec_plans.specs.Lines.{Head, Hearer, head_of, hearer_of, fed_by, commanded_by, attached_by}
use Rattle.spec_plans.specs.Names.{heads, hearers, list_names, number_of, class_of, depends_on, leads_to_proxy, is_over_proxy}
use Rattle.spec_plans.specs.NameFaults.{wrong, first_fault, meets, taken_fault, use_fault_of, use_fault, after_fault, input_need, is_undone, second_fault, shuns_proxies, proxy_fault, member_fault, attach_fault, command_fault, name_fault, naming, first_misnamed, first_fault_at}
use Rattle.spec_plans.specs.Place.{place_fault, misplacing, first_misplaced}
use Rattle.spec_plan_texts.specs.Unplaced.{taken_out, unplaced, unplaced_lines, in_its_line}
use Rattle.spec_plan_texts.proofs.Placed.{Standing, standing_of, fault_in, remaining, standing_push}
use Rattle.spec_plan_texts.proofs.NamesFine.{list_fault_after}
use Rattle.spec_plan_texts.proofs.NamesPassed.{listener_fault_after, fault_after}
use Rattle.spec_plan_texts.proofs.Written.{mapped_twice}
use Rattle.spec_plan_texts.proofs.Columns.{bare_head, bare_hearer, bare_head_of, bare_hearer_of, bare_heads, bare_hearers, list_names_kept, listener_names_kept, class_kept, needed_kept, leads_kept, undone_kept}

-- a fault of a name, but for its column
abbrev kind_alone : NameFault → NameFault
kind_alone f = record { column = 1; kind = f.kind }

-- faults that differ in their columns alone
abbrev Alike : Option NameFault → Option NameFault → Type 0
Alike a b = option_map kind_alone a ≡ option_map kind_alone b

map_or : {A B : Type 0} (u : A → B) (a b : Option A) → option_map u (option_or a b)
    ≡ option_or (option_map u a) (option_map u b)
map_or u None b = refl
map_or u (Some x) b = refl

alike_or : (a b c d : Option NameFault) → Alike a b → Alike c d → Alike (option_or a c) (option_or b d)
alike_or a b c d e f =
    map_or kind_alone a c
    ∙ ap (λ o. option_or o (option_map kind_alone c)) e
    ∙ ap (option_or (option_map kind_alone b)) f
    ∙ sym (map_or kind_alone b d)

alike_if : (t s : Bool) (a b : Option NameFault) → t ≡ s → Alike a b
    → Alike (if t then a else None) (if s then b else None)
alike_if t s a b e f = ap (λ r. option_map kind_alone (if r then a else None)) e ∙ by s
  where
    by : (r : Bool) → Alike (if r then a else None) (if r then b else None)
    by true = f
    by false = refl

alike_unless : (t s : Bool) (a b : Option NameFault) → t ≡ s → Alike a b
    → Alike (if t then None else a) (if s then None else b)
alike_unless t s a b e f = ap (λ r. option_map kind_alone (if r then None else a)) e ∙ by s
  where
    by : (r : Bool) → Alike (if r then None else a) (if r then None else b)
    by true = refl
    by false = f

alike_first : (f g : Named → Option NameFault) → ((n : Named) → Alike (f (taken_out n)) (g n)) → (ns : List Named)
    → Alike (first_fault f (map taken_out ns)) (first_fault g ns)
alike_first f g same [] = refl
alike_first f g same (n ∷ ns) = alike_or (f (taken_out n)) (g n) (first_fault f (map taken_out ns))
    (first_fault g ns) (same n) (alike_first f g same ns)

taken_alike : (earlier more : List (List ℕ)) → earlier ≡ more → (n : Named)
    → Alike (taken_fault earlier (taken_out n)) (taken_fault more n)
taken_alike earlier more e n =
    alike_if (is_some (number_of earlier n.name)) (is_some (number_of more n.name)) (wrong (taken_out n) Taken)
    (wrong n Taken) (ap (λ ns. is_some (number_of ns n.name)) e) refl

second_alike : (hs : List Head) (n : Named) → Alike (second_fault (map bare_head hs) (taken_out n))
    (second_fault hs n)
second_alike hs n = alike_if _ _ (wrong (taken_out n) Second) (wrong n Second)
    (ap (λ us. is_some (number_of us n.name)) (undone_kept hs)) refl

-- a command's line without columns
abbrev bare_about : Named × Option ListClass → Named × Option ListClass
bare_about about = (taken_out about.0, about.1)

bare_fed : (l : Line) → fed_by (unplaced l) ≡ option_map taken_out (fed_by l)
bare_fed line.Writer = refl
bare_fed other = refl

bare_commanded : (l : Line) → commanded_by (unplaced l) ≡ option_map bare_about (commanded_by l)
bare_commanded line.Writer = refl
bare_commanded other = refl

bare_attached : (l : Line) → attached_by (unplaced l) ≡ option_map taken_out (attached_by l)
bare_attached line.Writer = refl
bare_attached other = refl

-- what follows from a name or a head, alike by its bare form
alike_then : {A : Type 0} (u : A → A) (f g : A → Option NameFault) → ((a : A) → Alike (f (u a)) (g a))
    → (o q : Option A) → q ≡ option_map u o → Alike (option_and_then f q) (option_and_then g o)
alike_then u f g same o q e = ap (λ r. option_map kind_alone (option_and_then f r)) e ∙ by o
  where
    by : (r : Option _) → Alike (option_and_then f (option_map u r)) (option_and_then g r)
    by None = refl
    by (Some a) = same a

module _ (lines : List NumberedLine) where
  abbrev bare : List NumberedLine
  bare = unplaced_lines lines

  use_alike : (need : Option ListClass) (n : Named) → Alike (use_fault bare need (taken_out n))
      (use_fault lines need n)
  use_alike need n = ap (λ o. option_map kind_alone (use_fault_of need (taken_out n) o)) (class_kept lines n.name)
      ∙ by (class_of lines n.name)
    where
      by : (o : Option ListClass) → Alike (use_fault_of need (taken_out n) o) (use_fault_of need n o)
      by None = refl
      by (Some class) = alike_unless (meets need class) (meets need class) (wrong (taken_out n) Kind)
          (wrong n Kind) refl refl

  after_alike : (n : Named) → Alike (after_fault bare (taken_out n)) (after_fault lines n)
  after_alike n = alike_unless _ _ (wrong (taken_out n) Unknown) (wrong n Unknown)
      (ap (λ ns. is_some (number_of ns n.name)) (listener_names_kept lines)) refl

  over_kept : (a : ℕ) → is_over_proxy bare a ≡ is_over_proxy lines a
  over_kept a =
      ap (λ s. leads_to_proxy bare s a) (ap length (bare_heads lines) ∙ length-map (heads lines) bare_head)
      ∙ leads_kept lines (length (heads lines)) a

  abbrev over : Option NameFault
  over = Some (record { column = 1; kind = OverProxy })

  proxy_alike : (m k : ℕ) (class : ListClass) → m ≡ k → Alike (proxy_fault bare m class) (proxy_fault lines k class)
  proxy_alike m k class e =
      alike_if (shuns_proxies class && is_over_proxy bare m) (shuns_proxies class && is_over_proxy lines k) over over
      (ap (λ t. shuns_proxies class && t) (ap (is_over_proxy bare) e ∙ over_kept k)) refl

  list_alike : (hs : List Head) (h : Head) → Alike (list_fault_after bare (map bare_head hs) (bare_head h))
      (list_fault_after lines hs h)
  list_alike hs h =
      alike_or _ _ _ _ (taken_alike _ _ (mapped_twice (λ (j : Head). j.name.name) bare_head hs) h.name)
      (alike_or _ _ _ _ (alike_first (use_fault bare (input_need h.class)) (use_fault lines (input_need h.class))
      (use_alike (input_need h.class)) h.inputs)
      (alike_or _ _ _ _ (alike_first (use_fault bare None) (use_fault lines None) (use_alike None) h.may)
      (alike_or _ _ _ _ (alike_if (is_undone h.class) (is_undone h.class) _ _ refl
      (alike_first (second_fault (map bare_head hs)) (second_fault hs) (second_alike hs) h.inputs))
      (proxy_alike (length (map bare_head hs)) (length hs) h.class (length-map hs bare_head)))))

  listener_alike : (rs : List Hearer) (r : Hearer) → Alike
      (listener_fault_after bare (map bare_hearer rs) (bare_hearer r)) (listener_fault_after lines rs r)
  listener_alike rs r =
      alike_or _ _ _ _ (taken_alike _ _ (mapped_twice (λ (q : Hearer). q.name.name) bare_hearer rs) r.name)
      (alike_or _ _ _ _ (use_alike None r.list) (alike_first (after_fault bare)
      (after_fault lines) after_alike r.after))

  member_alike : (list member : Named) → Alike (member_fault bare (taken_out list) (taken_out member))
      (member_fault lines list member)
  member_alike list member =
      alike_unless _ _ (wrong (taken_out member) Member) (wrong member Member)
      (ap (λ ns. depends_on bare (unwrap_or (number_of ns list.name) 0) (unwrap_or (number_of ns member.name) 0))
      (list_names_kept lines)
      ∙ ap (λ ks. has ks (unwrap_or (number_of (list_names lines) member.name) 0))
      (needed_kept lines (unwrap_or (number_of (list_names lines) list.name) 0))) refl

  command_alike : (l : Line) (about : Named × Option ListClass)
      → Alike (command_fault bare (unplaced l) (bare_about about)) (command_fault lines l about)
  command_alike l about =
      alike_or _ _ _ _ (use_alike about.1 about.0)
      (alike_then taken_out (attach_fault bare (taken_out about.0)) (attach_fault lines about.0)
      (λ member. alike_or _ _ _ _ (use_alike None member) (member_alike about.0 member)) (attached_by l)
      (attached_by (unplaced l)) (bare_attached l))

  line_alike : (hs : List Head) (rs : List Hearer) (l : Line)
      → Alike (fault_after bare (map bare_head hs) (map bare_hearer rs) (unplaced l)) (fault_after lines hs rs l)
  line_alike hs rs l =
      alike_or _ _ _ _ (alike_then bare_head (list_fault_after bare (map bare_head hs)) (list_fault_after lines hs)
      (list_alike hs) (head_of l) (head_of (unplaced l)) (bare_head_of l))
      (alike_or _ _ _ _ (alike_then bare_hearer (listener_fault_after bare (map bare_hearer rs))
      (listener_fault_after lines rs) (listener_alike rs) (hearer_of l) (hearer_of (unplaced l))
      (bare_hearer_of l))
      (alike_or _ _ _ _ (alike_then taken_out (use_fault bare (Some Edited)) (use_fault lines (Some Edited))
      (use_alike (Some Edited)) (fed_by l) (fed_by (unplaced l)) (bare_fed l))
      (alike_then bare_about (command_fault bare (unplaced l)) (command_fault lines l) (command_alike l)
      (commanded_by l) (commanded_by (unplaced l)) (bare_commanded l))))

  name_alike : (before : List NumberedLine) (l : Line) → Alike (name_fault bare (unplaced_lines before) (unplaced l))
      (name_fault lines before l)
  name_alike before l =
      ap (λ hs. option_map kind_alone (fault_after bare hs (hearers (unplaced_lines before)) (unplaced l)))
      (bare_heads before)
      ∙ ap (λ rs. option_map kind_alone (fault_after bare (map bare_head (heads before)) rs (unplaced l)))
      (bare_hearers before)
      ∙ line_alike (heads before) (hearers before) l

  -- where it stands, and in its line
  in_line : (n : ℕ) (o : Option NameFault) → option_map in_its_line
      (option_map (λ f. record { line = n; column = f.column; kind = f.kind }) o)
      ≡ option_map (λ (f : NameFault). record { line = n; column = f.column; kind = f.kind })
      (option_map kind_alone o)
  in_line n None = refl
  in_line n (Some f) = refl

  misnamed_alike : (before ls : List NumberedLine) → option_map in_its_line
      (first_after (naming bare) (unplaced_lines before) (unplaced_lines ls))
      ≡ option_map in_its_line (first_after (naming lines) before ls)
  misnamed_alike before [] = refl
  misnamed_alike before (l ∷ ls) =
      let here : NumberedLine = record { line = l.line; what = unplaced l.what } in
      let at : NameFault → FaultAt = λ f. record { line = l.line; column = f.column; kind = f.kind } in
      let same : option_map in_its_line (naming bare (unplaced_lines before) here)
      ≡ option_map in_its_line (naming lines before l) =
      in_line l.line (name_fault bare (unplaced_lines before) (unplaced l.what))
      ∙ ap (option_map at) (name_alike before l.what) ∙ sym (in_line l.line (name_fault lines before l.what)) in
      map_or in_its_line (naming bare (unplaced_lines before) here)
      (first_after (naming bare) (unplaced_lines before ++ here ∷ []) (unplaced_lines ls))
      ∙ ap (λ o. option_or o (option_map in_its_line (first_after (naming bare) (unplaced_lines before ++ here ∷ [])
      (unplaced_lines ls)))) same
      ∙ ap (option_or (option_map in_its_line (naming lines before l)))
      (ap (λ bs. option_map in_its_line (first_after (naming bare) bs (unplaced_lines ls)))
      (sym (map-append (λ (k : NumberedLine). record { line = k.line; what = unplaced k.what }) before (l ∷ [])))
      ∙ misnamed_alike (before ++ l ∷ []) ls)
      ∙ sym (map_or in_its_line (naming lines before l) (first_after (naming lines) (before ++ l ∷ []) ls))

-- places
place_kept : (s : Standing) (l : Line) → fault_in s (unplaced l) ≡ fault_in s l
place_kept s line.Writer = refl
place_kept s other = refl

after_kept : (s : Standing) (l : Line) → remaining s (unplaced l) ≡ remaining s l
after_kept s line.Writer = refl
after_kept s other = refl

misplaced_kept : (before bs ls : List NumberedLine) → standing_of bs ≡ standing_of before
    → first_after misplacing bs (unplaced_lines ls) ≡ first_after misplacing before ls
misplaced_kept before bs [] e = refl
misplaced_kept before bs (l ∷ ls) e =
    let here : NumberedLine = record { line = l.line; what = unplaced l.what } in
    let at : PlanKind → Misplaced = λ kind. record { line = l.line; kind = kind } in
    let same : place_fault bs (unplaced l.what) ≡ place_fault before l.what =
    ap (λ s. fault_in s (unplaced l.what)) e ∙ place_kept (standing_of before) l.what in
    let next : standing_of (bs ++ here ∷ []) ≡ standing_of (before ++ l ∷ []) =
    standing_push bs here ∙ ap (λ s. remaining s (unplaced l.what)) e ∙ after_kept (standing_of before) l.what
    ∙ sym (standing_push before l) in
    ap (λ o. option_or (option_map at o) (first_after misplacing (bs ++ here ∷ []) (unplaced_lines ls))) same
    ∙ ap (option_or (misplacing before l)) (misplaced_kept (before ++ l ∷ []) (bs ++ here ∷ []) ls next)

-- the first fault of lines is that of the lines without columns, but for its own column
pub fault_unplaced : (lines : List NumberedLine) → option_map in_its_line (first_fault_at (unplaced_lines lines))
    ≡ option_map in_its_line (first_fault_at lines)
fault_unplaced lines =
    let at_start : Misplaced → FaultAt = λ m. record { line = m.line; column = 1; kind = m.kind } in
    map_or in_its_line (option_map at_start (first_misplaced (unplaced_lines lines)))
    (first_misnamed (unplaced_lines lines))
    ∙ ap (λ o. option_or (option_map in_its_line (option_map at_start o))
    (option_map in_its_line (first_misnamed (unplaced_lines lines)))) (misplaced_kept [] [] lines refl)
    ∙ ap (option_or (option_map in_its_line (option_map at_start (first_misplaced lines))))
    (misnamed_alike lines [] lines)
    ∙ sym (map_or in_its_line (option_map at_start (first_misplaced lines)) (first_misnamed lines))
