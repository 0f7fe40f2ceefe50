-- What lines declare, and the plan that they make, are not told by the columns of their names.
use Rattle.std.proofs.Common.{◌≡◌, ◌∙◌, ℕ, zero, suc, ◌||◌, Bool, false, List, [], ◌∷◌, ◌++◌, map, fold, Option, Some, None, refl, sym, ap}
use Rattle.std.specs.Prelude.{if◌then◌else◌, option_map, option_and_then, filter_map, slice_get, unwrap_or}
use Rattle.std.specs.List.{cons_option, list_any}
use Rattle.std.proofs.lemmas.List.{map-append}
use Rattle.std.proofs.lemmas.Option.{slice_get-map}
use Rattle.spec_plans.specs.Tree.{Tree}
use Rattle.gl_lines.specs.declared.named.Named.{Named}
use Rattle.gl_lines.specs.declared.line.Line.{Line}
use Rattle.gl_lines.specs.declared.line.Line.TheVariants as line
use Rattle.gl_lines.specs.declared.line.NumberedLine.{NumberedLine}
use Rattle.spec_plans.specs.declared.part.Part.TheVariants as parts
use Rattle.spec_plans.specs.Lines.{Head, Hearer, head_of, hearer_of}
use Rattle.spec_plans.specs.Names.{heads, hearers, list_names, listener_names, number_of, class_of, numbers_in, needed_by, needed, is_pumped, is_proxy, leads_to_proxy}
use Rattle.spec_plans.specs.NameFaults.{is_undone, undone_inputs}
use Rattle.spec_plans.specs.Making.{number, numbers, row_for, rows_for, part_of, with_part, empty_plan, plan_of}
use Rattle.gl_lines.specs.declared.plan.ListKind.TheVariants as kinds
use Rattle.spec_plan_texts.specs.Unplaced.{taken_out, unplaced, unplaced_lines}
use Rattle.spec_plans.proofs.Made.{map_first, filter_map-map}
use Rattle.spec_plan_texts.proofs.Written.{mapped_twice}

-- heads of lines, without the columns of their names
abbrev pub bare_head : Head → Head
bare_head h = record {
  name = taken_out h.name;
  class = h.class;
  inputs = map taken_out h.inputs;
  may =
      map taken_out h.may;
}

abbrev pub bare_hearer : Hearer → Hearer
bare_hearer r = record { name = taken_out r.name; list = taken_out r.list; after = map taken_out r.after }

pub bare_head_of : (l : Line) → head_of (unplaced l) ≡ option_map bare_head (head_of l)
bare_head_of line.Writer = refl
bare_head_of other = refl

pub bare_hearer_of : (l : Line) → hearer_of (unplaced l) ≡ option_map bare_hearer (hearer_of l)
bare_hearer_of line.Writer = refl
bare_hearer_of other = refl

given_bare : {Y : Type 0} (f : Line → Option Y) (u : Y → Y) → ((l : Line) → f (unplaced l) ≡ option_map u (f l))
    → (lines : List NumberedLine)
    → filter_map (λ l. f l.what) (unplaced_lines lines) ≡ map u (filter_map (λ l. f l.what) lines)
given_bare f u same [] = refl
given_bare f u same (l ∷ ls) =
    ap (λ o. cons_option o (filter_map (λ k. f k.what) (unplaced_lines ls))) (same l.what)
    ∙ ap (cons_option (option_map u (f l.what))) (given_bare f u same ls)
    ∙ sym (map_first u (f l.what) (filter_map (λ k. f k.what) ls))

-- the parts of lines
names_kept : (names : List (List ℕ)) (ns : List Named) → numbers names (map taken_out ns) ≡ numbers names ns
names_kept names ns = mapped_twice (number names) taken_out ns

part_kept : (lists listeners : List (List ℕ)) (rows : ℕ → List Tree) (l : Line)
    → part_of lists listeners rows (unplaced l) ≡ part_of lists listeners rows l
part_kept lists listeners rows (line.Composite name members may) =
    ap (λ ms. parts.List (record {
      name = name.name;
      kind =
          kinds.Composite ms (numbers lists (map taken_out may));
    })) (names_kept lists members)
    ∙ ap (λ ms. parts.List (record { name = name.name; kind = kinds.Composite (numbers lists members) ms }))
    (names_kept lists may)
part_kept lists listeners rows (line.Listen name list after echo) =
    ap (λ ns. parts.Listener (record { name = name.name; list = number lists list; after = ns; echo = echo }))
    (names_kept listeners after)
part_kept lists listeners rows other = refl

-- rows that are the same for each number
part_of_same : (lists listeners : List (List ℕ)) (rows more : ℕ → List Tree) → ((k : ℕ) → rows k ≡ more k)
    → (l : Line) → part_of lists listeners rows l ≡ part_of lists listeners more l
part_of_same lists listeners rows more same (line.Source name) =
    ap (λ vs. parts.List (record { name = name.name; kind = kinds.Source vs })) (same (number lists name))
part_of_same lists listeners rows more same other = refl

row_kept : (names : List (List ℕ)) (k : ℕ) (l : Line) → row_for names k (unplaced l) ≡ row_for names k l
row_kept names k line.Writer = refl
row_kept names k other = refl

rows_kept : (names : List (List ℕ)) (k : ℕ) (lines : List NumberedLine)
    → rows_for names (unplaced_lines lines) k ≡ rows_for names lines k
rows_kept names k [] = refl
rows_kept names k (l ∷ ls) =
    ap (λ o. cons_option o (rows_for names (unplaced_lines ls) k)) (row_kept names k l.what)
    ∙ ap (cons_option (row_for names k l.what)) (rows_kept names k ls)

module _ (lines : List NumberedLine) where
  pub bare_heads : heads (unplaced_lines lines) ≡ map bare_head (heads lines)
  bare_heads = given_bare head_of bare_head bare_head_of lines

  pub bare_hearers : hearers (unplaced_lines lines) ≡ map bare_hearer (hearers lines)
  bare_hearers = given_bare hearer_of bare_hearer bare_hearer_of lines

  pub list_names_kept : list_names (unplaced_lines lines) ≡ list_names lines
  list_names_kept = ap (map (λ (h : Head). h.name.name)) bare_heads
      ∙ mapped_twice (λ (h : Head). h.name.name) bare_head (heads lines)

  pub listener_names_kept : listener_names (unplaced_lines lines) ≡ listener_names lines
  listener_names_kept = ap (map (λ (r : Hearer). r.name.name)) bare_hearers
      ∙ mapped_twice (λ (r : Hearer). r.name.name) bare_hearer (hearers lines)

  parts_kept : (lists listeners : List (List ℕ)) (rows more : ℕ → List Tree) → ((k : ℕ) → rows k ≡ more k)
      → (ls : List NumberedLine)
      → map (λ l. part_of lists listeners rows l.what) (unplaced_lines ls)
      ≡ map (λ l. part_of lists listeners more l.what) ls
  parts_kept lists listeners rows more same [] = refl
  parts_kept lists listeners rows more same (l ∷ ls) =
      ap (λ x. x ∷ map (λ (k : NumberedLine). part_of lists listeners rows k.what) (unplaced_lines ls))
      (part_kept lists listeners rows l.what ∙ part_of_same lists listeners rows more same l.what)
      ∙ ap (λ xs. part_of lists listeners more l.what ∷ xs) (parts_kept lists listeners rows more same ls)

  -- the plan of lines is that of the lines without columns
  pub plan_unplaced : plan_of (unplaced_lines lines) ≡ plan_of lines
  plan_unplaced =
      let bare : List NumberedLine = unplaced_lines lines in
      ap (λ ns. fold with_part empty_plan (map (λ (l : NumberedLine). part_of ns (listener_names bare)
      (rows_for ns bare) l.what) bare)) list_names_kept
      ∙ ap (λ ns. fold with_part empty_plan (map (λ (l : NumberedLine). part_of (list_names lines) ns
      (rows_for (list_names lines) bare) l.what) bare)) listener_names_kept
      ∙ ap (fold with_part empty_plan)
      (parts_kept (list_names lines) (listener_names lines) (rows_for (list_names lines) bare)
      (rows_for (list_names lines) lines) (λ k. rows_kept (list_names lines) k lines) lines)

  -- what lists are and depend on
  class_of_option : (o : Option ℕ) → option_map (λ h. h.class)
      (option_and_then (slice_get (map bare_head (heads lines))) o)
      ≡ option_map (λ h. h.class) (option_and_then (slice_get (heads lines)) o)
  class_of_option None = refl
  class_of_option (Some k) = ap (option_map (λ (h : Head). h.class)) (slice_get-map bare_head (heads lines) k)
      ∙ by (slice_get (heads lines) k)
    where
      by : (o : Option Head) → option_map (λ h. h.class) (option_map bare_head o) ≡ option_map (λ h. h.class) o
      by None = refl
      by (Some h) = refl

  pub class_kept : (name : List ℕ) → class_of (unplaced_lines lines) name ≡ class_of lines name
  class_kept name =
      ap (λ hs. option_map (λ (h : Head). h.class) (option_and_then (slice_get hs)
      (number_of (list_names (unplaced_lines lines)) name))) bare_heads
      ∙ ap (λ ns. option_map (λ (h : Head). h.class) (option_and_then (slice_get (map bare_head (heads lines)))
      (number_of ns name))) list_names_kept
      ∙ class_of_option (number_of (list_names lines) name)

  numbers_in_kept : (ns : List Named) → numbers_in (list_names (unplaced_lines lines)) (map taken_out ns)
      ≡ numbers_in (list_names lines) ns
  numbers_in_kept ns =
      ap (λ names. numbers_in names (map taken_out ns)) list_names_kept
      ∙ filter_map-map (λ (n : Named). number_of (list_names lines) n.name) taken_out ns

  pub needed_kept : (a : ℕ) → needed (unplaced_lines lines) a ≡ needed lines a
  needed_kept a =
      ap (λ hs. unwrap_or (option_map (needed_by (unplaced_lines lines)) (slice_get hs a)) []) bare_heads
      ∙ ap (λ o. unwrap_or (option_map (needed_by (unplaced_lines lines)) o) [])
      (slice_get-map bare_head (heads lines) a)
      ∙ by (slice_get (heads lines) a)
    where
      by : (o : Option Head) → unwrap_or (option_map (needed_by (unplaced_lines lines)) (option_map bare_head o)) []
          ≡ unwrap_or (option_map (needed_by lines) o) []
      by None = refl
      by (Some h) = ap (numbers_in (list_names (unplaced_lines lines))) (sym (map-append taken_out h.inputs h.may))
          ∙ numbers_in_kept (h.inputs ++ h.may)

  proxy_kept : (a : ℕ) → is_proxy (heads (unplaced_lines lines)) a ≡ is_proxy (heads lines) a
  proxy_kept a =
      ap (λ hs. is_proxy hs a) bare_heads
      ∙ ap (λ o. unwrap_or (option_map (λ (h : Head). is_pumped h.class) o) false)
      (slice_get-map bare_head (heads lines) a)
      ∙ by (slice_get (heads lines) a)
    where
      by : (o : Option Head) → unwrap_or (option_map (λ h. is_pumped h.class) (option_map bare_head o)) false
          ≡ unwrap_or (option_map (λ h. is_pumped h.class) o) false
      by None = refl
      by (Some h) = refl

  any_alike : (f g : ℕ → Bool) → ((k : ℕ) → f k ≡ g k) → (ks : List ℕ) → list_any f ks ≡ list_any g ks
  any_alike f g same [] = refl
  any_alike f g same (k ∷ ks) = ap (λ t. t || list_any f ks) (same k) ∙ ap (λ t. g k || t) (any_alike f g same ks)

  pub leads_kept : (steps a : ℕ) → leads_to_proxy (unplaced_lines lines) steps a ≡ leads_to_proxy lines steps a
  leads_kept zero a = proxy_kept a
  leads_kept (suc s) a =
      ap (λ t. t || list_any (leads_to_proxy (unplaced_lines lines) s) (needed (unplaced_lines lines) a))
      (proxy_kept a)
      ∙ ap (λ ks. is_proxy (heads lines) a || list_any (leads_to_proxy (unplaced_lines lines) s) ks) (needed_kept a)
      ∙ ap (λ t. is_proxy (heads lines) a || t) (any_alike (leads_to_proxy (unplaced_lines lines) s)
      (leads_to_proxy lines s) (leads_kept s) (needed lines a))

-- inputs of transactions, by name
pub undone_kept : (hs : List Head) → undone_inputs (map bare_head hs) ≡ undone_inputs hs
undone_kept [] = refl
undone_kept (h ∷ hs) =
    ap (λ us. (if is_undone h.class then us else []) ++ undone_inputs (map bare_head hs))
    (mapped_twice (λ (n : Named). n.name) taken_out h.inputs)
    ∙ ap (λ us. (if is_undone h.class then map (λ n. n.name) h.inputs else []) ++ us) (undone_kept hs)
