-- What the lines of a plan declare: its names, its heads and its rows.
use Rattle.std.proofs.Common.{◌≡◌, ◌∙◌, ℕ, zero, suc, ◌+◌, ◌<◌, Bool, true, false, cond, List, [], ◌∷◌, ◌++◌, map, Option, Some, None, refl, sym, ap, arith, append-nil, ne_eqb, eq-eqb}
use Rattle.std.specs.Prelude.{option_map, filter_map, flat_map, slice_get, bytes_eq}
use Rattle.std.specs.List.{cons_option, IsDistinct}
use Rattle.std.proofs.lemmas.Option.{same_Some, none-some, slice_get-map}
use Rattle.std.proofs.lemmas.List.Elements.{filter_map-append}
use Rattle.spec_plans.specs.Tree.{Tree}
use Rattle.gl_lines.specs.declared.named.Named.{Named}
use Rattle.gl_lines.specs.declared.line.Line.{Line}
use Rattle.gl_lines.specs.declared.line.Line.TheVariants as line
use Rattle.gl_lines.specs.declared.plan.ListDecl.{ListDecl}
use Rattle.gl_lines.specs.declared.plan.ListKind.{ListKind}
use Rattle.gl_lines.specs.declared.plan.ListKind.TheVariants as kinds
use Rattle.gl_lines.specs.declared.plan.ListenerDecl.{ListenerDecl}
use Rattle.gl_lines.specs.declared.plan.Command.{Command}
use Rattle.gl_lines.specs.declared.plan.Command.TheVariants as commands
use Rattle.spec_plans.specs.Lines.{Head, Hearer, head_of, hearer_of}
use Rattle.spec_plans.specs.Names.{heads, hearers, list_names, listener_names, number_of}
use Rattle.spec_plans.specs.Numbered.{numbered}
use Rattle.spec_plans.specs.Plan.{Plan, inputs_of}
use Rattle.spec_plans.specs.Making.{is_number, row_for, rows_for}
use Rattle.spec_plan_texts.specs.Canonical.{list_line, row_lines, lines_of_list, listener_line, command_line, lines_of_section, lines_of_writer, lines_of_plan}
use Rattle.spec_plans.specs.PlanNames.{unplaced_name, named, names_of_lists, names_of_listeners}
use Rattle.spec_plans.specs.WellFormed.{class_of_kind}
use Rattle.spec_plans.proofs.Numbers.{number_at}
use Rattle.spec_plans.proofs.Made.{filter_map-map}

-- what numbered lines give by what they say
pub given_numbered : {Y : Type 0} (f : Line → Option Y) (n : ℕ) (ls : List Line)
    → filter_map (λ l. f l.what) (numbered n ls) ≡ filter_map f ls
given_numbered f n [] = refl
given_numbered f n (l ∷ ls) = ap (cons_option (f l)) (given_numbered f (suc n) ls)

pub mapped_twice : {X Y Z : Type 0} (u : Y → Z) (f : X → Y) (xs : List X) → map u (map f xs) ≡ map (λ x. u (f x)) xs
mapped_twice u f [] = refl
mapped_twice u f (x ∷ xs) = ap (λ zs. u (f x) ∷ zs) (mapped_twice u f xs)

nothing_mapped : {X Y Z : Type 0} (f : Y → Option Z) (g : X → Y) → ((x : X) → f (g x) ≡ None) → (xs : List X)
    → filter_map f (map g xs) ≡ []
nothing_mapped f g none [] = refl
nothing_mapped f g none (x ∷ xs) = ap (λ o. cons_option o (filter_map f (map g xs))) (none x)
    ∙ nothing_mapped f g none xs

-- what parts give, put together
flat_given : {X Y Z : Type 0} (f : Y → Option Z) (g : X → List Y) (h : X → List Z)
    → ((x : X) → filter_map f (g x) ≡ h x) → (xs : List X) → filter_map f (flat_map g xs) ≡ flat_map h xs
flat_given f g h same [] = refl
flat_given f g h same (x ∷ xs) =
    filter_map-append f (g x) (flat_map g xs) ∙ ap (λ zs. zs ++ filter_map f (flat_map g xs)) (same x)
    ∙ ap (λ zs. h x ++ zs) (flat_given f g h same xs)

flat_none : {X Z : Type 0} (xs : List X) → flat_map {A = Z} (λ x. []) xs ≡ []
flat_none [] = refl
flat_none (x ∷ xs) = flat_none xs

flat_singles : {X Z : Type 0} (h : X → Z) (xs : List X) → flat_map (λ x. h x ∷ []) xs ≡ map h xs
flat_singles h [] = refl
flat_singles h (x ∷ xs) = ap (λ zs. h x ∷ zs) (flat_singles h xs)

-- the head of a list's line
abbrev pub members_of : ListKind → List ℕ
members_of (kinds.Composite members may) = members
members_of other = inputs_of other

abbrev pub may_of : ListKind → List ℕ
may_of (kinds.Composite members may) = may
may_of other = []

abbrev pub list_head : List (List ℕ) → ListDecl → Head
list_head names d = record {
  name = unplaced_name d.name;
  class = class_of_kind d.kind;
  inputs = map (named names) (members_of d.kind);
  may = map (named names) (may_of d.kind);
}

pub head_of_list : (names : List (List ℕ)) (name : List ℕ) (kind : ListKind)
    → head_of (list_line names (unplaced_name name) kind)
    ≡ Some (list_head names (record { name = name; kind = kind }))
head_of_list names name (kinds.Source rows) = refl
head_of_list names name other = refl

abbrev pub listener_head : List (List ℕ) → List (List ℕ) → ListenerDecl → Hearer
listener_head lists listeners d = record {
  name = unplaced_name d.name;
  list = named lists d.list;
  after =
      map (named listeners) d.after;
}

-- lines of which a reading takes nothing: those of commands, of sections and of writers
module _ {Y : Type 0} (f : Line → Option Y) (names : List (List ℕ)) (writer : f line.Writer
    ≡ None) (section : f line.Section ≡ None) (command : (c : Command) → f (command_line names c) ≡ None) where
  nothing_of_section : (cs : List Command) → filter_map f (lines_of_section names cs) ≡ []
  nothing_of_section cs = ap (λ o. cons_option o (filter_map f (map (command_line names) cs))) section
      ∙ nothing_mapped f (command_line names) command cs

  nothing_of_writer : (sections : List (List Command)) → filter_map f (lines_of_writer names sections) ≡ []
  nothing_of_writer sections =
      ap (λ o. cons_option o (filter_map f (flat_map (lines_of_section names) sections))) writer
      ∙ flat_given f (lines_of_section names) (λ cs. []) nothing_of_section sections ∙ flat_none sections

  nothing_of_writers : (writers : List (List (List Command)))
      → filter_map f (flat_map (lines_of_writer names) writers) ≡ []
  nothing_of_writers writers = flat_given f (lines_of_writer names) (λ sections. []) nothing_of_writer writers
      ∙ flat_none writers

abbrev pub rows_of_kind : ListKind → List Tree
rows_of_kind (kinds.Source rows) = rows
rows_of_kind other = []

pub no_head : (names : List (List ℕ)) (c : Command) → head_of (command_line names c) ≡ None
no_head names (commands.Show list) = refl
no_head names other = refl

pub no_hearer : (names : List (List ℕ)) (c : Command) → hearer_of (command_line names c) ≡ None
no_hearer names (commands.Show list) = refl
no_hearer names other = refl

no_row : (names all : List (List ℕ)) (k : ℕ) (c : Command) → row_for all k (command_line names c) ≡ None
no_row names all k (commands.Show list) = refl
no_row names all k other = refl

pub no_hearer_of_list : (names : List (List ℕ)) (name : Named) (kind : ListKind)
    → hearer_of (list_line names name kind) ≡ None
no_hearer_of_list names name (kinds.Source rows) = refl
no_hearer_of_list names name other = refl

no_row_of_list : (names all : List (List ℕ)) (k : ℕ) (name : Named) (kind : ListKind)
    → row_for all k (list_line names name kind) ≡ None
no_row_of_list names all k name (kinds.Source rows) = refl
no_row_of_list names all k name other = refl

-- a reading of rows alone takes nothing of other lists
of_rows : {Y : Type 0} (f : Line → Option Y) (name : Named) (ys : List Tree → List Y) → ys [] ≡ []
    → ((rows : List Tree) → filter_map f (map (line.Row name) rows) ≡ ys rows)
    → (kind : ListKind) → filter_map f (row_lines name kind) ≡ ys (rows_of_kind kind)
of_rows f name ys none is (kinds.Source rows) = is rows
of_rows f name ys none is other = sym none

-- the heads of a plan's lines
heads_of_lists : (names : List (List ℕ)) (ds : List ListDecl)
    → filter_map head_of (flat_map (lines_of_list names) ds) ≡ map (list_head names) ds
heads_of_lists names ds = flat_given head_of (lines_of_list names) (λ d. list_head names d ∷ []) one ds
    ∙ flat_singles (list_head names) ds
  where
    one : (d : ListDecl) → filter_map head_of (lines_of_list names d) ≡ list_head names d ∷ []
    one d =
        ap (λ o. cons_option o (filter_map head_of (row_lines (unplaced_name d.name) d.kind)))
        (head_of_list names d.name d.kind)
        ∙ ap (λ hs. list_head names d ∷ hs)
        (of_rows head_of (unplaced_name d.name) (λ rows. []) refl
        (λ rows. nothing_mapped head_of (line.Row (unplaced_name d.name)) (λ v. refl) rows) d.kind)

hearers_of_lists : (names : List (List ℕ)) (ds : List ListDecl)
    → filter_map hearer_of (flat_map (lines_of_list names) ds) ≡ []
hearers_of_lists names ds = flat_given hearer_of (lines_of_list names) (λ d. []) one ds ∙ flat_none ds
  where
    one : (d : ListDecl) → filter_map hearer_of (lines_of_list names d) ≡ []
    one d =
        ap (λ o. cons_option o (filter_map hearer_of (row_lines (unplaced_name d.name) d.kind)))
        (no_hearer_of_list names (unplaced_name d.name) d.kind)
        ∙ of_rows hearer_of (unplaced_name d.name) (λ rows. []) refl
        (λ rows. nothing_mapped hearer_of (line.Row (unplaced_name d.name)) (λ v. refl) rows) d.kind

module _ (p : Plan) where
  abbrev lists : List (List ℕ)
  lists = names_of_lists p

  abbrev listener_lines : List Line
  listener_lines = map (listener_line (names_of_lists p) (names_of_listeners p)) p.listeners

  abbrev writer_lines : List Line
  writer_lines = flat_map (lines_of_writer (names_of_lists p)) p.writers

  -- what a reading takes of the three parts of the lines
  in_parts : {Y : Type 0} (f : Line → Option Y) → ((limit : ℕ) → f (line.Limit limit) ≡ None)
      → filter_map f (lines_of_plan p) ≡ filter_map f (flat_map (lines_of_list lists) p.lists)
      ++ filter_map f listener_lines ++ filter_map f writer_lines
  in_parts f none =
      ap (λ o. cons_option o (filter_map f (flat_map (lines_of_list lists) p.lists ++ listener_lines
      ++ writer_lines))) (none p.limit)
      ∙ filter_map-append f (flat_map (lines_of_list lists) p.lists ++ listener_lines) writer_lines
      ∙ ap (λ ys. ys ++ filter_map f writer_lines) (filter_map-append f
      (flat_map (lines_of_list lists) p.lists) listener_lines)

  pub heads_written : (n : ℕ) → heads (numbered n (lines_of_plan p)) ≡ map (list_head lists) p.lists
  heads_written n =
      given_numbered head_of n (lines_of_plan p)
      ∙ in_parts head_of (λ limit. refl)
      ∙ ap (λ hs. hs ++ filter_map head_of listener_lines ++ filter_map head_of writer_lines)
      (heads_of_lists lists p.lists)
      ∙ ap (λ hs. map (list_head lists) p.lists ++ hs ++ filter_map head_of writer_lines)
      (nothing_mapped head_of (listener_line lists (names_of_listeners p)) (λ d. refl) p.listeners)
      ∙ ap (λ hs. map (list_head lists) p.lists ++ [] ++ hs)
      (nothing_of_writers head_of lists refl refl (no_head lists) p.writers)
      ∙ append-nil (map (list_head lists) p.lists ++ [])
      ∙ append-nil (map (list_head lists) p.lists)

  hearers_mapped : (rs : List ListenerDecl) → filter_map hearer_of
      (map (listener_line lists (names_of_listeners p)) rs) ≡ map (listener_head lists (names_of_listeners p)) rs
  hearers_mapped [] = refl
  hearers_mapped (r ∷ rs) = ap (λ hs. listener_head lists (names_of_listeners p) r ∷ hs) (hearers_mapped rs)

  pub hearers_written : (n : ℕ) → hearers (numbered n (lines_of_plan p))
      ≡ map (listener_head lists (names_of_listeners p)) p.listeners
  hearers_written n =
      given_numbered hearer_of n (lines_of_plan p)
      ∙ in_parts hearer_of (λ limit. refl)
      ∙ ap (λ hs. hs ++ filter_map hearer_of listener_lines ++ filter_map hearer_of writer_lines)
      (hearers_of_lists lists p.lists)
      ∙ ap (λ hs. filter_map hearer_of listener_lines ++ hs)
      (nothing_of_writers hearer_of lists refl refl (no_hearer lists) p.writers)
      ∙ append-nil (filter_map hearer_of listener_lines)
      ∙ hearers_mapped p.listeners

  pub names_written : (n : ℕ) → list_names (numbered n (lines_of_plan p)) ≡ names_of_lists p
  names_written n = ap (map (λ (h : Head). h.name.name)) (heads_written n)
      ∙ mapped_twice (λ (h : Head). h.name.name) (list_head lists) p.lists

  pub listener_names_written : (n : ℕ) → listener_names (numbered n (lines_of_plan p)) ≡ names_of_listeners p
  listener_names_written n =
      ap (map (λ (r : Hearer). r.name.name)) (hearers_written n)
      ∙ mapped_twice (λ (r : Hearer). r.name.name) (listener_head lists (names_of_listeners p)) p.listeners

-- the rows of a plan's lines
row_given : (all : List (List ℕ)) (k : ℕ) (name : List ℕ) (rows : List Tree)
    → filter_map (row_for all k) (map (line.Row (unplaced_name name)) rows)
    ≡ cond (is_number (number_of all name) k) rows []
row_given all k name rows = filter_map-map (row_for all k) (line.Row (unplaced_name name)) rows
    ∙ by (is_number (number_of all name) k) rows
  where
    by : (t : Bool) (vs : List Tree) → filter_map (λ v. cond t (Some v) None) vs ≡ cond t vs []
    by true [] = refl
    by true (v ∷ vs) = ap (λ us. v ∷ us) (by true vs)
    by false [] = refl
    by false (v ∷ vs) = by false vs

module _ (all : List (List ℕ)) (k : ℕ) where
  -- the rows that a list gives to the source of a number
  abbrev given_by : ListDecl → List Tree
  given_by d = cond (is_number (number_of all d.name) k) (rows_of_kind d.kind) []

  rows_of_list : (names : List (List ℕ)) (d : ListDecl)
      → filter_map (row_for all k) (lines_of_list names d) ≡ given_by d
  rows_of_list names d =
      ap (λ o. cons_option o (filter_map (row_for all k) (row_lines (unplaced_name d.name) d.kind)))
      (no_row_of_list names all k (unplaced_name d.name) d.kind)
      ∙ of_rows (row_for all k) (unplaced_name d.name) (λ rows. cond (is_number (number_of all d.name) k) rows [])
      (empty (is_number (number_of all d.name) k)) (row_given all k d.name) d.kind
    where
      empty : (t : Bool) → cond {A = List Tree} t [] [] ≡ []
      empty true = refl
      empty false = refl

  -- lists that are numbered from a number on
  abbrev AreFrom : ℕ → List ListDecl → Type 0
  AreFrom j ds = (i : ℕ) (d : ListDecl) → slice_get ds i ≡ Some d → number_of all d.name ≡ Some (j + i)

  next_from : (j : ℕ) (d : ListDecl) (ds : List ListDecl) → AreFrom j (d ∷ ds) → AreFrom (suc j) ds
  next_from j d ds are i e g =
      let same : j + suc i ≡ suc j + i = omega arith in
      are (suc i) e g ∙ ap Some same

  none_later : (ds : List ListDecl) (j : ℕ) → AreFrom j ds → k < j → flat_map given_by ds ≡ []
  none_later [] j are l = refl
  none_later (d ∷ ds) j are l =
      let other : is_number (number_of all d.name) k ≡ false = ap (λ o. is_number o k) (are 0 d refl)
      ∙ ne_eqb (j + 0) k (λ e. omega (arith, l, e)) in
      ap (λ t. cond t (rows_of_kind d.kind) [] ++ flat_map given_by ds) other
      ∙ none_later ds (suc j) (next_from j d ds are) (omega (arith, l))

  rows_at : (ds : List ListDecl) (j i : ℕ) (d : ListDecl) → AreFrom j ds → slice_get ds i ≡ Some d → k ≡ j + i
      → flat_map given_by ds ≡ rows_of_kind d.kind
  rows_at [] j i d are e s = absurd (none-some d e)
  rows_at (x ∷ ds) j zero d are e s =
      let here : is_number (number_of all x.name) k ≡ true = ap (λ o. is_number o k) (are 0 x refl)
      ∙ eq-eqb (j + 0) k (sym s) in
      ap (λ t. cond t (rows_of_kind x.kind) [] ++ flat_map given_by ds) here
      ∙ ap (λ ys. rows_of_kind x.kind ++ ys) (none_later ds (suc j) (next_from j x ds are) (omega (arith, s)))
      ∙ append-nil (rows_of_kind x.kind)
      ∙ ap (λ (y : ListDecl). rows_of_kind y.kind) (same_Some x d e)
  rows_at (x ∷ ds) j (suc i) d are e s =
      let other : is_number (number_of all x.name) k ≡ false = ap (λ o. is_number o k) (are 0 x refl)
      ∙ ne_eqb (j + 0) k (λ f. omega (arith, s, f)) in
      ap (λ t. cond t (rows_of_kind x.kind) [] ++ flat_map given_by ds) other
      ∙ rows_at ds (suc j) i d (next_from j x ds are) e (omega (arith, s))

no_row_of_listener : (lists listeners all : List (List ℕ)) (k : ℕ) (rs : List ListenerDecl)
    → filter_map (row_for all k) (map (listener_line lists listeners) rs) ≡ []
no_row_of_listener lists listeners all k rs = nothing_mapped (row_for all k) (listener_line lists listeners)
    (λ d. refl) rs

-- a source gets the rows that it has
pub rows_written : (p : Plan) → IsDistinct bytes_eq (names_of_lists p) → (n k : ℕ) (d : ListDecl)
    → slice_get p.lists k ≡ Some d
    → rows_for (names_of_lists p) (numbered n (lines_of_plan p)) k ≡ rows_of_kind d.kind
rows_written p distinct n k d e =
    given_numbered (row_for (names_of_lists p) k) n (lines_of_plan p)
    ∙ in_parts p (row_for (names_of_lists p) k) (λ limit. refl)
    ∙ ap (λ ys. filter_map (row_for (names_of_lists p) k) (flat_map (lines_of_list (names_of_lists p)) p.lists) ++ ys
    ++ filter_map (row_for (names_of_lists p) k) (flat_map (lines_of_writer (names_of_lists p)) p.writers))
    (no_row_of_listener (names_of_lists p) (names_of_listeners p) (names_of_lists p) k p.listeners)
    ∙ ap (λ ys. filter_map (row_for (names_of_lists p) k) (flat_map (lines_of_list (names_of_lists p)) p.lists) ++ []
    ++ ys)
    (nothing_of_writers (row_for (names_of_lists p) k) (names_of_lists p) refl refl
    (no_row (names_of_lists p) (names_of_lists p) k) p.writers)
    ∙ append-nil (filter_map (row_for (names_of_lists p) k) (flat_map (lines_of_list (names_of_lists p)) p.lists)
    ++ [])
    ∙ append-nil (filter_map (row_for (names_of_lists p) k) (flat_map (lines_of_list (names_of_lists p)) p.lists))
    ∙ flat_given (row_for (names_of_lists p) k) (lines_of_list (names_of_lists p)) (given_by (names_of_lists p) k)
    (rows_of_list (names_of_lists p) k (names_of_lists p)) p.lists
    ∙ rows_at (names_of_lists p) k p.lists 0 k d from e (omega arith)
  where
    from : (i : ℕ) (l : ListDecl) → slice_get p.lists i ≡ Some l → number_of (names_of_lists p) l.name ≡ Some (0 + i)
    from i l g =
        let same : i ≡ 0 + i = omega arith in
        number_at (names_of_lists p) i l.name distinct (slice_get-map (λ (m : ListDecl). m.name) p.lists i
        ∙ ap (λ o. option_map (λ (m : ListDecl). m.name) o) g) ∙ ap Some same
