-- Worked rows of the definitions, each by computing.
use Rattle.std.specs.Prelude.{◌≡◌, ℕ, pos, false, true, List, [], ◌∷◌, Some, None, refl, codes}
use Rattle.spec_value.specs.Tree.{Tree, num, text, items_of}
use Rattle.spec_lang.specs.Matcher.{Matcher, all, is}
use Rattle.spec_lang.specs.declared.Test.TheVariants.{Gt}
use Rattle.spec_lists.specs.Piece.{inserted}
use Rattle.spec_lists.specs.Changes.{Change, changes, insertion, delete, update}
use Rattle.gl_outside.specs.declared.gate.Actor.TheVariants.{Writer, Proxy}
use Rattle.gl_lines.specs.declared.plan.Command.{Command}
use Rattle.gl_lines.specs.declared.plan.Command.TheVariants.{Add, AddAll, Insert, Set, Remove, Match, Show}
use Rattle.gl_lines.specs.declared.plan.ListKind.TheVariants as kinds
use Rattle.gl_lines.specs.declared.plan.ListenerDecl.{ListenerDecl}
use Rattle.gl_lines.specs.declared.reply.Reply.TheVariants.{Done, Shown, OutOfRange, TooLong}
use Rattle.spec_plans.specs.Plan.{Plan}
use Rattle.spec_states.specs.Shown.{table_of}
use Rattle.spec_runs.specs.Telling.{Telling, listener_dependency_order}
use Rattle.spec_runs.specs.Run.{run, left_to, replies_at, shown_after}
use Rattle.spec_runs.specs.Fits.{first_bad_place, no_section, no_proxy, no_writer}

-- a source with the row 1 whose lists may have two elements, and one section: addall s [2,3], add s 2, show s
abbrev pub short : Plan
short = record {
  limit = 2;
  lists = record { name = codes "s"; kind = kinds.Source (num (pos 1) ∷ []) } ∷ [];
  listeners = [];
  writers =
      ((AddAll 0 (num (pos 2) ∷ num (pos 3) ∷ []) ∷ Add 0 (num (pos 2)) ∷ Show 0 ∷ []) ∷ []) ∷ [];
}

-- two elements more are too many, one goes
short_replies : replies_at short (Writer 0 ∷ []) 0
    ≡ TooLong 0 3 ∷ Done ∷ Shown (num (pos 1) ∷ num (pos 2) ∷ []) ∷ []
short_replies = refl

short_shown : shown_after short (Writer 0 ∷ []) 0 ≡ num (pos 1) ∷ num (pos 2) ∷ []
short_shown = refl

-- there is no second entry, and no replies of it
short_no_more : replies_at short (Writer 0 ∷ []) 1 ≡ []
short_no_more = refl

-- before the first section its row is shown, and the section is left
short_opening : table_of (run short []).state ≡ (num (pos 1) ∷ []) ∷ []
short_opening = refl

short_left : left_to short 0 [] ≡ 1
short_left = refl

short_none_left : left_to short 0 (Writer 0 ∷ []) ≡ 0
short_none_left = refl

-- the writer has one section, and there is no second writer and no proxy
short_fits : first_bad_place short (Writer 0 ∷ []) ≡ None
short_fits = refl

short_again : first_bad_place short (Writer 0 ∷ Writer 0 ∷ [])
    ≡ Some (record { place = 1; reason = no_section })
short_again = refl

short_writer : first_bad_place short (Writer 0 ∷ Writer 1 ∷ [])
    ≡ Some (record { place = 1; reason = no_writer })
short_writer = refl

short_proxy : first_bad_place short (Proxy 0 ∷ []) ≡ Some (record { place = 0; reason = no_proxy })
short_proxy = refl

-- an element of two, a number and a text
abbrev pub pair : ℕ → List ℕ → Tree
pair n name = items_of (num (pos n) ∷ text name ∷ [])

-- a listener that is told after these
abbrev listener : List ℕ → ℕ → List ℕ → ListenerDecl
listener name list after = record { name = name; list = list; after = after; echo = false }

-- A filter declared before its source, and a listener of each, the filter's first: the filter shows all of [9,"y"] and
-- [2,"x"] at first. These are the sections of its one writer.
abbrev pub watched : List (List Command) → Plan
watched sections = record {
  limit = 16777216;
  lists =
      record { name = codes "f"; kind = kinds.Filter 1 all }
      ∷ record {
        name = codes "s";
        kind =
            kinds.Source (pair 9 (codes "y") ∷ pair 2 (codes "x") ∷ []);
      }
      ∷ [];
  listeners = listener (codes "a") 0 [] ∷ listener (codes "b") 1 [] ∷ [];
  writers = sections ∷ [];
}

-- who was told, where, and which changes
abbrev as_told : List Telling → List (ℕ × ℕ × List Change)
as_told [] = []
as_told (t ∷ ts) = (t.listener, t.place, changes t.delta) ∷ as_told ts

-- those whose number is above so many
abbrev pub number_above : ℕ → Matcher
number_above n = is (0 ∷ []) Gt (num (pos n))

-- match f by numbers above 4: one element is hidden, and the filter's listener alone is told
hidden :
    as_told (run (watched ((Match 0 (number_above 4) ∷ []) ∷ [])) (Writer 0 ∷ [])).told
    ≡ (0, 0, delete 1 (pair 2 (codes "x")) ∷ []) ∷ []
hidden = refl

-- a matcher that accepts as much as before is told to nobody
as_before : as_told (run (watched ((Match 0 (number_above 1) ∷ []) ∷ [])) (Writer 0 ∷ [])).told ≡ []
as_before = refl

-- a section hides an element, and the next one sets it: the source is updated, and the filter shows it anew
shown_anew :
    as_told
    (run (watched ((Match 0 (number_above 4) ∷ []) ∷ (Set 1 1 (pair 7 (codes "z")) ∷ []) ∷ []))
    (Writer 0 ∷ Writer 0 ∷ [])).told
    ≡ (0, 0, delete 1 (pair 2 (codes "x")) ∷ [])
    ∷ (0, 1, insertion 1 (pair 7 (codes "z")) ∷ [])
    ∷ (1, 1, update 1 (pair 2 (codes "x")) (pair 7 (codes "z")) ∷ [])
    ∷ []
shown_anew = refl

-- an element that is put in and taken out in one section is told to nobody
cancelled : (run (watched ((Insert 1 0 (num (pos 5)) ∷ Remove 1 0 ∷ []) ∷ [])) (Writer 0 ∷ [])).told
    ≡ []
cancelled = refl

-- an index above the length is refused, one at the end is not
boundaries :
    replies_at
    (watched ((Insert 1 3 (num (pos 9)) ∷ Insert 1 2 (num (pos 9)) ∷ Remove 1 3 ∷ []) ∷ []))
    (Writer 0 ∷ [])
    0
    ≡ OutOfRange 3 2 ∷ Done ∷ OutOfRange 3 3 ∷ []
boundaries = refl

-- a listener is told after those that it names, wherever it stands
abbrev pub told_after : Plan
told_after = record {
  limit = 9;
  lists = record { name = codes "s"; kind = kinds.Source [] } ∷ [];
  listeners =
      listener (codes "a") 0 (2 ∷ []) ∷ listener (codes "b") 0 [] ∷ listener (codes "c") 0 [] ∷ [];
  writers = ((Add 0 (num (pos 1)) ∷ []) ∷ []) ∷ [];
}

told_after_order : listener_dependency_order told_after ≡ 1 ∷ 2 ∷ 0 ∷ []
told_after_order = refl

told_after_told :
    as_told (run told_after (Writer 0 ∷ [])).told
    ≡ (1, 0, insertion 0 (num (pos 1)) ∷ [])
    ∷ (2, 0, insertion 0 (num (pos 1)) ∷ [])
    ∷ (0, 0, insertion 0 (num (pos 1)) ∷ [])
    ∷ []
told_after_told = refl

-- an echo listener tries to write back once in each telling
abbrev echoed : Plan
echoed = record {
  limit = 9;
  lists = record { name = codes "s"; kind = kinds.Source [] } ∷ [];
  listeners = record { name = codes "e"; list = 0; after = []; echo = true } ∷ [];
  writers = ((Add 0 (num (pos 1)) ∷ []) ∷ []) ∷ [];
}

echoed_told :
    (run echoed (Writer 0 ∷ [])).told
    ≡ record { listener = 0; place = 0; delta = inserted (num (pos 1)) ∷ []; write_backs = 1 } ∷ []
echoed_told = refl
