-- No line of a plan of few lists, listeners and writers is misplaced.
use Rattle.std.proofs.Common.{◌≡◌, ◌∙◌, ℕ, suc, ◌+◌, ◌≤◌, ◌==◌, ◌&&◌, ◌||◌, Bool, true, false, cond, not, List, [], ◌∷◌, ◌++◌, length, map, Option, Some, None, refl, sym, ap, subst, arith, append_assoc, append-nil, ne_eqb}
use Rattle.std.specs.Prelude.{if◌then◌else◌, option_map, flat_map, count_by}
use Rattle.std.specs.Option.{option_or}
use Rattle.std.proofs.lemmas.List.Sums.{fold-append, sum_by-append}
use Rattle.gl_lines.specs.declared.named.Named.{Named}
use Rattle.gl_lines.specs.declared.line.Line.{Line}
use Rattle.gl_lines.specs.declared.line.Line.TheVariants as line
use Rattle.gl_lines.specs.declared.line.NumberedLine.{NumberedLine}
use Rattle.gl_lines.specs.declared.plan.ListDecl.{ListDecl}
use Rattle.gl_lines.specs.declared.plan.ListKind.{ListKind}
use Rattle.gl_lines.specs.declared.plan.ListKind.TheVariants as kinds
use Rattle.gl_lines.specs.declared.plan.ListenerDecl.{ListenerDecl}
use Rattle.gl_lines.specs.declared.plan.Command.{Command}
use Rattle.gl_lines.specs.declared.plan.Command.TheVariants as commands
use Rattle.gl_lines.specs.declared.fault.PlanKind.{PlanKind}
use Rattle.gl_lines.specs.declared.fault.PlanKind.TheVariants.{Place, Many}
use Rattle.gl_lines.specs.declared.fault.Misplaced.{Misplaced}
use Rattle.spec_plans.specs.Along.{first_after}
use Rattle.spec_plans.specs.Lines.{is_limit, is_end, is_writer, is_section, is_list, is_listener, is_command, is_declaration}
use Rattle.spec_plans.specs.Numbered.{numbered}
use Rattle.spec_plans.specs.Place.{some_line, count_lines, is_open_after, has_section, misplacing, first_misplaced}
use Rattle.spec_plans.specs.Plan.{Plan}
use Rattle.spec_plan_texts.specs.Canonical.{list_line, row_lines, lines_of_list, listener_line, command_line, lines_of_section, lines_of_writer, lines_of_plan}
use Rattle.spec_plans.specs.PlanNames.{unplaced_name, names_of_lists, names_of_listeners}
use Rattle.spec_plans.specs.WellFormed.{IsWellFormed}

-- what the place of a line depends on, of the lines before it
pub record Standing : Type 0 where
  pub writer : Bool
  pub limit : Bool
  pub section : Bool
  pub lists : ℕ
  pub listeners : ℕ
  pub writers : ℕ

abbrev pub standing_of : List NumberedLine → Standing
standing_of before = record {
  writer = some_line is_writer before;
  limit = some_line is_limit before;
  section = has_section before;
  lists = count_lines is_list before;
  listeners = count_lines is_listener before;
  writers = count_lines is_writer before;
}

-- what is wrong with the place of a line there
abbrev pub fault_in : Standing → Line → Option PlanKind
fault_in s l =
    if is_end l || (is_declaration l && s.writer) || (is_limit l && s.limit) || (is_section l && not s.writer) ||
    (is_command l && not s.section) then Some Place
    else if (is_list l && s.lists == 256) || (is_listener l && s.listeners == 256) ||
    (is_writer l && s.writers == 64) then Some Many else None

abbrev pub one_more : Bool → ℕ → ℕ
one_more true n = suc n
one_more false n = n

-- after one line more
abbrev pub remaining : Standing → Line → Standing
remaining s l = record {
  writer = cond (is_writer l) true s.writer;
  limit = cond (is_limit l) true s.limit;
  section = is_open_after s.section l;
  lists = one_more (is_list l) s.lists;
  listeners = one_more (is_listener l) s.listeners;
  writers = one_more (is_writer l) s.writers;
}

any_push : (test : Line → Bool) (before : List NumberedLine) (l : NumberedLine)
    → some_line test (before ++ l ∷ []) ≡ cond (test l.what) true (some_line test before)
any_push test [] l = by (test l.what)
  where
    by : (t : Bool) → (t || false) ≡ cond t true false
    by true = refl
    by false = refl
any_push test (b ∷ bs) l = ap (λ t. test b.what || t) (any_push test bs l)
    ∙ by (test b.what) (test l.what) (some_line test bs)
  where
    by : (s t r : Bool) → (s || cond t true r) ≡ cond t true (s || r)
    by true true r = refl
    by true false r = refl
    by false true r = refl
    by false false r = refl

count_push : (test : Line → Bool) (before : List NumberedLine) (l : NumberedLine)
    → count_lines test (before ++ l ∷ []) ≡ one_more (test l.what) (count_lines test before)
count_push test before l = sum_by-append (λ (k : NumberedLine). cond (test k.what) 1 0) before (l ∷ [])
    ∙ by (test l.what) (count_lines test before)
  where
    by : (t : Bool) (n : ℕ) → n + count_by (λ u. u) (t ∷ []) ≡ one_more t n
    by true n = omega arith
    by false n = omega arith

open_push : (before : List NumberedLine) (l : NumberedLine)
    → has_section (before ++ l ∷ []) ≡ is_open_after (has_section before) l.what
open_push before l = fold-append (λ was (k : NumberedLine). is_open_after was k.what) false before (l ∷ [])

pub standing_push : (before : List NumberedLine) (l : NumberedLine)
    → standing_of (before ++ l ∷ []) ≡ remaining (standing_of before) l.what
standing_push before l =
    let now : Standing = standing_of (before ++ l ∷ []) in
    let was : Standing = remaining (standing_of before) l.what in
    ap (λ b. record now { writer = b }) (any_push is_writer before l)
    ∙ ap (λ b. record now { writer = was.writer; limit = b }) (any_push is_limit before l)
    ∙ ap (λ b. record now { writer = was.writer; limit = was.limit; section = b }) (open_push before l)
    ∙ ap (λ n. record now { writer = was.writer; limit = was.limit; section = was.section; lists = n })
    (count_push is_list before l)
    ∙ ap (λ n. record was { listeners = n; writers = now.writers }) (count_push is_listener before l)
    ∙ ap (λ n. record was { writers = n }) (count_push is_writer before l)

-- each line may stand where it stands
Passes : Standing → List Line → Type 0
Passes s [] = Unit {0}
Passes s (l ∷ ls) = (fault_in s l ≡ None) × Passes (remaining s l) ls

placed : (n : ℕ) (before : List NumberedLine) (ls : List Line) → Passes (standing_of before) ls
    → first_after misplacing before (numbered n ls) ≡ None
unfolding Passes
placed n before [] h = refl
placed n before (l ∷ ls) h =
    let here : NumberedLine = record { line = n; what = l } in
    let kinds : PlanKind → Misplaced = λ kind. record { line = n; kind = kind } in
    ap (λ o. option_or (option_map kinds o) (first_after misplacing (before ++ here ∷ []) (numbered (suc n) ls))) h.0
    ∙ placed (suc n) (before ++ here ∷ []) ls (subst (λ s. Passes s ls) (sym (standing_push before here)) h.1)

-- after the limit, lists and listeners
abbrev declaring : ℕ → ℕ → Standing
declaring lists listeners = record {
  writer = false;
  limit = true;
  section = false;
  lists = lists;
  listeners =
      listeners;
  writers = 0;
}

-- after writers, or before the first
abbrev writing : Bool → Bool → ℕ → ℕ → ℕ → Standing
writing writer section lists listeners writers = record {
  writer = writer;
  limit = true;
  section = section;
  lists =
      lists;
  listeners = listeners;
  writers = writers;
}

below : (n most : ℕ) → suc n ≤ most → (n == most) ≡ false
below n most l = ne_eqb n most (λ e. omega (arith, l, e))

module _ (names : List (List ℕ)) where
  list_placed : (a : ℕ) (name : Named) (kind : ListKind) → (a == 256) ≡ false
      → fault_in (declaring a 0) (list_line names name kind) ≡ None
  list_placed a name (kinds.Source rows) e = ap (λ t. if t || false || false then Some Many else None) e
  list_placed a name other e = ap (λ t. if t || false || false then Some Many else None) e

  list_after : (a : ℕ) (name : Named) (kind : ListKind)
      → remaining (declaring a 0) (list_line names name kind) ≡ declaring (suc a) 0
  list_after a name (kinds.Source rows) = refl
  list_after a name other = refl

  rows_pass : (a : ℕ) (name : Named) (kind : ListKind) (rest : List Line) → Passes (declaring a 0) rest
      → Passes (declaring a 0) (row_lines name kind ++ rest)
  unfolding Passes
  rows_pass a name (kinds.Source rows) rest h = each rows
    where
      each : (vs : List _) → Passes (declaring a 0) (map (line.Row name) vs ++ rest)
      each [] = h
      each (v ∷ vs) = (refl, each vs)
  rows_pass a name other rest h = h

  lists_pass : (a : ℕ) (ds : List ListDecl) (rest : List Line) → a + length ds ≤ 256
      → Passes (declaring (a + length ds) 0) rest → Passes (declaring a 0) (flat_map (lines_of_list names) ds ++ rest)
  unfolding Passes
  lists_pass a [] rest l h =
      let none : a + 0 ≡ a = omega arith in
      subst (λ n. Passes (declaring n 0) rest) none h
  lists_pass a (d ∷ ds) rest l h =
      let name : Named = unplaced_name d.name in
      let shift : a + suc (length ds) ≡ suc a + length ds = omega arith in
      let later : Passes (declaring (suc a) 0) (flat_map (lines_of_list names) ds ++ rest) =
      lists_pass (suc a) ds rest (omega (arith, l)) (subst (λ n. Passes (declaring n 0) rest) shift h) in (
        list_placed a name d.kind (below a 256 (omega (arith, l))),
        subst (λ s. Passes s ((row_lines name d.kind ++ flat_map (lines_of_list names) ds) ++ rest))
            (sym (list_after a name d.kind))
            (subst (Passes (declaring (suc a) 0)) (sym (append_assoc (row_lines name d.kind)
            (flat_map (lines_of_list names) ds) rest))
            (rows_pass (suc a) name d.kind (flat_map (lines_of_list names) ds ++ rest) later)),
      )

  listeners_pass : (listeners : List (List ℕ)) (a b : ℕ) (ds : List ListenerDecl) (rest : List Line)
      → b + length ds ≤ 256 → Passes (declaring a (b + length ds)) rest
      → Passes (declaring a b) (map (listener_line names listeners) ds ++ rest)
  unfolding Passes
  listeners_pass listeners a b [] rest l h =
      let none : b + 0 ≡ b = omega arith in
      subst (λ n. Passes (declaring a n) rest) none h
  listeners_pass listeners a b (d ∷ ds) rest l h =
      let shift : b + suc (length ds) ≡ suc b + length ds = omega arith in (
        ap (λ t. if false || t || false then Some Many else None) (below b 256 (omega (arith, l))),
        listeners_pass listeners a (suc b) ds rest (omega (arith, l))
            (subst (λ n. Passes (declaring a n) rest) shift h),
      )

  module _ (a b : ℕ) where
    command_placed : (c : ℕ) (command : Command) → fault_in (writing true true a b c) (command_line names command)
        ≡ None
    command_placed c (commands.Show list) = refl
    command_placed c other = refl

    command_after : (c : ℕ) (command : Command) → remaining (writing true true a b c) (command_line names command)
        ≡ writing true true a b c
    command_after c (commands.Show list) = refl
    command_after c other = refl

    commands_pass : (c : ℕ) (cs : List Command) (rest : List Line) → Passes (writing true true a b c) rest
        → Passes (writing true true a b c) (map (command_line names) cs ++ rest)
    unfolding Passes
    commands_pass c [] rest h = h
    commands_pass c (x ∷ xs) rest h = (
      command_placed c x,
      subst (λ s. Passes s (map (command_line names) xs ++ rest)) (sym (command_after c x))
          (commands_pass c xs rest h),
    )

    sections_pass : (open_ : Bool) (c : ℕ) (sections : List (List Command)) (rest : List Line)
        → ((s : Bool) → Passes (writing true s a b c) rest)
        → Passes (writing true open_ a b c) (flat_map (lines_of_section names) sections ++ rest)
    unfolding Passes
    sections_pass open_ c [] rest h = h open_
    sections_pass open_ c (s ∷ ss) rest h =
        let later : List Line = flat_map (lines_of_section names) ss ++ rest in (
          refl,
          subst (Passes (writing true true a b c)) (sym (append_assoc (map (command_line names) s)
              (flat_map (lines_of_section names) ss) rest))
              (commands_pass c s later (sections_pass true c ss rest h)),
        )

    writers_pass : (writer open_ : Bool) (c : ℕ) (writers : List (List (List Command))) (rest : List Line)
        → c + length writers ≤ 64
        → ((w s : Bool) → Passes (writing w s a b (c + length writers)) rest)
        → Passes (writing writer open_ a b c) (flat_map (lines_of_writer names) writers ++ rest)
    unfolding Passes
    writers_pass writer open_ c [] rest l h =
        let none : c + 0 ≡ c = omega arith in
        subst (λ n. Passes (writing writer open_ a b n) rest) none (h writer open_)
    writers_pass writer open_ c (w ∷ ws) rest l h =
        let later : List Line = flat_map (lines_of_writer names) ws ++ rest in
        let shift : c + suc (length ws) ≡ suc c + length ws = omega arith in (
          ap (λ t. if false || false || t then Some Many else None) (below c 64 (omega (arith, l))),
          subst (Passes (writing true false a b (suc c))) (sym
              (append_assoc (flat_map (lines_of_section names) w) (flat_map (lines_of_writer names) ws) rest))
              (sections_pass false (suc c) w later
              (λ s. writers_pass true s (suc c) ws rest (omega (arith, l))
              (λ v t. subst (λ n. Passes (writing v t a b n) rest) shift (h v t)))),
        )

pub all_placed : (p : Plan) → IsWellFormed p → (n : ℕ) → first_misplaced (numbered n (lines_of_plan p)) ≡ None
unfolding Passes
all_placed p h n = placed n [] (lines_of_plan p) (refl, passing)
  where
    passing : Passes (declaring 0 0) (flat_map (lines_of_list (names_of_lists p)) p.lists
        ++ map (listener_line (names_of_lists p) (names_of_listeners p)) p.listeners
        ++ flat_map (lines_of_writer (names_of_lists p)) p.writers)
    passing =
        let declared : List Line = flat_map (lines_of_list (names_of_lists p)) p.lists in
        let heard : List Line = map (listener_line (names_of_lists p) (names_of_listeners p)) p.listeners in
        let written : List Line = flat_map (lines_of_writer (names_of_lists p)) p.writers in
        subst (Passes (declaring 0 0)) (sym (append_assoc declared heard written))
        (lists_pass (names_of_lists p) 0 p.lists (heard ++ written) (omega (arith, h.few_lists))
        (listeners_pass (names_of_lists p) (names_of_listeners p) (0 + length p.lists) 0 p.listeners written
        (omega (arith, h.few_listeners))
        (subst (Passes (declaring (0 + length p.lists) (0 + length p.listeners))) (append-nil written)
        (writers_pass (names_of_lists p) (0 + length p.lists) (0 + length p.listeners) false false 0 p.writers []
        (omega (arith, h.few_writers)) (λ w s. tt)))))
