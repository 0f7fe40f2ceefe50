-- The one text of a plan spells it, where its lines are within the limits of the language.
use Rattle.std.proofs.Common.{◌≡◌, ◌∙◌, ℕ, List, [], ◌∷◌, ◌++◌, map, None, refl, sym, ap, subst, codes}
use Rattle.std.specs.Prelude.{flat_map, option_map}
use Rattle.std.specs.Str.{IsUtf8}
use Rattle.std.specs.List.{AllByRecursion}
use Rattle.std.proofs.lemmas.Str.{IsUtf8-append}
use lib.Utf8.{encode}
use Rattle.spec_syntax.specs.Cuts.{lines_in}
use Rattle.gl_lines.specs.declared.named.Named.{Named}
use Rattle.gl_lines.specs.declared.line.Line.{Line}
use Rattle.gl_lines.specs.declared.line.Line.TheVariants as line
use Rattle.gl_lines.specs.declared.line.NumberedLine.{NumberedLine}
use Rattle.gl_lines.specs.declared.plan.ListKind.{ListKind}
use Rattle.gl_lines.specs.declared.plan.ListKind.TheVariants as kinds
use Rattle.gl_lines.specs.declared.plan.Command.{Command}
use Rattle.gl_lines.specs.declared.plan.Command.TheVariants as commands
use Rattle.gl_lines.specs.declared.fault.Misplaced.{Misplaced}
use Rattle.spec_lines.specs.Spelled.{spelled_line}
use Rattle.spec_lines.specs.Same as same
use Rattle.spec_lines.specs.Within.{IsWithin}
use Rattle.spec_lines.proofs.Columns.{placed, placed_same}
use Rattle.spec_plans.specs.declared.fault.FaultAt.{FaultAt}
use Rattle.spec_plans.specs.Numbered.{numbered}
use Rattle.spec_plans.specs.Place.{first_misplaced}
use Rattle.spec_plans.specs.NameFaults.{first_misnamed, first_fault_at}
use Rattle.spec_plans.specs.Plan.{Plan}
use Rattle.spec_plan_texts.specs.Canonical.{ended, list_line, row_lines, command_line, lines_of_plan, spelled_plan}
use Rattle.spec_plans.specs.PlanNames.{unplaced_name, names_of_lists}
use Rattle.spec_plan_texts.specs.Unplaced.{taken_out, unplaced}
use Rattle.spec_plans.specs.WellFormed.{IsWellFormed, all_commands}
use Rattle.spec_plan_texts.proofs.Again.{Again, read_again}
use Rattle.spec_plans.proofs.Sound.{sound_lines_well_formed}
use Rattle.spec_plan_texts.specs.Text.{SpellsPlan}
use Rattle.spec_plan_texts.specs.Short.{HasShortLines}
use Rattle.spec_plan_texts.proofs.Cut.{line_first, IsFineLine, text_lines, text_utf8}
use Rattle.spec_plan_texts.proofs.Parts.{OfList, all_lines}
use Rattle.spec_plan_texts.proofs.Outcomes.{OpensNone, comes}
use Rattle.spec_basics.proofs.Options.{first_none, unmapped}

names_taken : (ns : List Named) → map taken_out (same.all_moved ns) ≡ map taken_out ns
names_taken [] = refl
names_taken (n ∷ ns) = ap (λ ms. taken_out n ∷ ms) (names_taken ns)

-- columns that are gone are gone
gone : (l : Line) → unplaced (same.unplaced l) ≡ unplaced l
gone (line.Composite name members may) =
    ap (λ ms. line.Composite (taken_out name) ms (map taken_out (same.all_moved may))) (names_taken members)
    ∙ ap (λ ms. line.Composite (taken_out name) (map taken_out members) ms) (names_taken may)
gone (line.Listen name list after echo) = ap (λ ms. line.Listen (taken_out name) (taken_out list) ms echo)
    (names_taken after)
gone line.Writer = refl
gone other = refl

placed_unplaced : (l : Line) → unplaced (placed l) ≡ unplaced l
placed_unplaced l = sym (gone (placed l)) ∙ ap unplaced (placed_same l) ∙ gone l

all_unplaced : (ls : List Line) → map unplaced (map placed ls) ≡ map unplaced ls
all_unplaced [] = refl
all_unplaced (l ∷ ls) = ap (λ k. k ∷ map unplaced (map placed ls)) (placed_unplaced l)
    ∙ ap (λ ks. unplaced l ∷ ks) (all_unplaced ls)

-- no line of a plan opens a block
list_opens : (names : List (List ℕ)) (name : Named) (kind : ListKind) → OpensNone (list_line names name kind)
list_opens names name (kinds.Source rows) = refl
list_opens names name other = refl

row_opens : (name : Named) (kind : ListKind) → AllByRecursion OpensNone (row_lines name kind)
row_opens name (kinds.Source rows) = rows_open rows
  where
    rows_open : (vs : List _) → AllByRecursion OpensNone (map (line.Row name) vs)
    rows_open [] = tt
    rows_open (v ∷ vs) = (refl, rows_open vs)
row_opens name other = tt

command_opens : (names : List (List ℕ)) (c : Command) → OpensNone (command_line names c)
command_opens names (commands.Show list) = refl
command_opens names other = refl

each : {X : Type 0} (P : X → Type 0) → ((x : X) → P x) → (xs : List X) → AllByRecursion P xs
each P h [] = tt
each P h (x ∷ xs) = (h x, each P h xs)

opens_none : (p : Plan) → AllByRecursion OpensNone (lines_of_plan p)
opens_none p =
    all_lines OpensNone p refl
    (each (OfList OpensNone (names_of_lists p))
    (λ d. (list_opens (names_of_lists p) (unplaced_name d.name) d.kind, row_opens (unplaced_name d.name) d.kind))
    p.lists)
    (each _ (λ d. refl) p.listeners) refl refl
    (each _ (command_opens (names_of_lists p)) (all_commands p))

heading : (rest : List ℕ) → lines_in (codes "glaze 1\n" ++ rest) ≡ codes "glaze 1" ∷ lines_in rest
heading rest = line_first (codes "glaze 1") rest (refl, (refl, (refl, (refl, (refl, (refl, (refl, tt)))))))

-- nothing is wrong with the places of sound lines
in_place : (lines : List NumberedLine) → first_fault_at lines ≡ None → first_misplaced lines ≡ None
in_place lines sound =
    let at_start : Misplaced → FaultAt = λ m. record { line = m.line; column = 1; kind = m.kind } in
    unmapped at_start (first_misplaced lines)
    (first_none (option_map at_start (first_misplaced lines)) (first_misnamed lines) sound)

first_utf8 : IsUtf8 (codes "glaze 1\n")
unfolding encode
first_utf8 = (codes "glaze 1\n", (refl, refl))

pub spelled_back : (bytes : List ℕ) (p : Plan) → SpellsPlan bytes p → AllByRecursion IsWithin (lines_of_plan p)
    → AllByRecursion IsFineLine (lines_of_plan p)
    → HasShortLines p → SpellsPlan (spelled_plan p) p
spelled_back bytes p spells within fine short =
    let ls : List Line = map placed (lines_of_plan p) in
    let sound : IsWellFormed p =
    subst IsWellFormed (sym spells.makes) (sound_lines_well_formed spells.lines spells.sound) in
    let again : Again p ls = read_again p ls sound (all_unplaced (lines_of_plan p)) in
    let cut : lines_in (spelled_plan p) ≡ codes "glaze 1" ∷ map spelled_line (lines_of_plan p) =
    heading (flat_map ended (lines_of_plan p))
    ∙ ap (λ raws. codes "glaze 1" ∷ raws) (text_lines (lines_of_plan p) fine) in
    record {
      lines = numbered 2 ls;
      read = (
        IsUtf8-append (codes "glaze 1\n") (flat_map ended (lines_of_plan p)) first_utf8
            (text_utf8 (lines_of_plan p) fine),
        map spelled_line (lines_of_plan p),
        cut,
        comes [] 2 (lines_of_plan p) within short (opens_none p) (in_place (numbered 2 ls) again.sound),
      );
      sound = again.sound;
      makes = sym again.makes;
      acyclic = spells.acyclic;
    }
