-- The report of a plan and an order.
use Rattle.std.specs.Prelude.{ℕ, zero, suc, length, ◌+◌, ◌==◌, if◌then◌else◌, List, [], ◌∷◌, ◌++◌, codes, decimal, Option, Some, None, slice_get}
use Rattle.gl_outside.specs.declared.gate.Actor.{Actor}
use Rattle.gl_lines.specs.declared.plan.ListDecl.{ListDecl}
use Rattle.gl_lines.specs.declared.plan.ListenerDecl.{ListenerDecl}
use Rattle.gl_lines.specs.declared.reply.Reply.{Reply}
use Rattle.gl_lines.specs.declared.reply.Reply.TheVariants.{Done, Shown, OutOfRange, TooLong, AlreadyFrozen, NotFrozen, NotOpen}
use Rattle.spec_syntax.specs.ValueText.{spelled_list}
use Rattle.spec_reports.specs.Order.{spelled_actor, spelled_order}
use Rattle.spec_reports.specs.Event.{event_text}
use Rattle.spec_plans.specs.Plan.{Plan}
use Rattle.spec_states.specs.Shown.{Table, table_of}
use Rattle.spec_states.specs.Delta.{Delta}
use Rattle.spec_states.specs.State.{Own, State, source, over, composite, transaction, freezable, proxy}
use Rattle.spec_runs.specs.Telling.{Telling}
use Rattle.spec_runs.specs.Run.{run}

abbrev pub line_feed : List ℕ
line_feed = 10 ∷ []

-- the name of a list, by number
abbrev pub list_name : List ListDecl → ℕ → List ℕ
list_name lists list = name_of (slice_get lists list)
  where
    name_of : Option ListDecl → List ℕ
    name_of None = []
    name_of (Some d) = d.name

-- the name of a listener, by number
abbrev pub listener_name : List ListenerDecl → ℕ → List ℕ
listener_name listeners listener = name_of (slice_get listeners listener)
  where
    name_of : Option ListenerDecl → List ℕ
    name_of None = []
    name_of (Some d) = d.name

abbrev pub reply_text : List ListDecl → Reply → List ℕ
reply_text lists Done = codes "ok"
reply_text lists (Shown values) = codes "shown " ++ spelled_list values
reply_text lists (OutOfRange index len) =
    codes "out-of-range " ++ decimal index ++ codes " " ++ decimal len
reply_text lists (TooLong list len) =
    codes "too-long " ++ list_name lists list ++ codes " " ++ decimal len
reply_text lists AlreadyFrozen = codes "already-frozen"
reply_text lists NotFrozen = codes "not-frozen"
reply_text lists NotOpen = codes "not-open"

-- `reply K TEXT` for each reply of an entry, K from a number on
abbrev pub reply_lines : List ListDecl → ℕ → List Reply → List ℕ
reply_lines lists k [] = []
reply_lines lists k (r ∷ rs) =
    codes "reply " ++ decimal k ++ codes " " ++ reply_text lists r ++ line_feed
    ++ reply_lines lists (k + 1) rs

-- `refused NAME write-back` for each write-back that was refused
abbrev pub refused_lines : List ℕ → ℕ → List ℕ
refused_lines name zero = []
refused_lines name (suc n) =
    codes "refused " ++ name ++ codes " write-back" ++ line_feed ++ refused_lines name n

-- `told NAME EVENT` for each telling, and what was refused in it
abbrev pub told_lines : List ListenerDecl → List Telling → List ℕ
told_lines listeners [] = []
told_lines listeners (t ∷ ts) =
    codes "told " ++ listener_name listeners t.listener ++ codes " " ++ event_text t.delta
    ++ line_feed
    ++ refused_lines (listener_name listeners t.listener) t.write_backs ++ told_lines listeners ts

-- of the tellings that are left those of the entry at a place, which come first, and those after them
abbrev pub told_first : ℕ → List Telling → List Telling
told_first i [] = []
told_first i (t ∷ ts) = if t.place == i then t ∷ told_first i ts else []

abbrev pub told_later : ℕ → List Telling → List Telling
told_later i [] = []
told_later i (t ∷ ts) = if t.place == i then told_later i ts else t ∷ ts

-- `at I ACTOR`, the replies and the tellings, for each entry, I from a number on
abbrev pub entry_lines : Plan → ℕ → List Actor → List (List Reply) → List Telling → List ℕ
entry_lines p i [] replies told = []
entry_lines p i (a ∷ order) [] told = []
entry_lines p i (a ∷ order) (rs ∷ replies) told =
    codes "at " ++ decimal i ++ codes " " ++ spelled_actor a ++ line_feed
    ++ reply_lines p.lists 0 rs ++ told_lines p.listeners (told_first i told)
    ++ entry_lines p (i + 1) order replies (told_later i told)

-- `held NAME frozen`, `held NAME open D` with the number of open levels, or `held NAME queued Q` with the length of what a proxy is
-- yet to take; nothing of a list that isn't held
abbrev pub held_line : List ℕ → Own → List ℕ
held_line name (transaction input (level ∷ levels)) =
    codes "held " ++ name ++ codes " open " ++ decimal (suc (length levels)) ++ line_feed
held_line name (freezable input (Some since)) =
    codes "held " ++ name ++ codes " frozen" ++ line_feed
held_line name (proxy input kept queue) =
    codes "held " ++ name ++ codes " queued " ++ decimal (length queue) ++ line_feed
held_line name other = []

-- `list NAME VALUES` for each list, and how it is held
abbrev pub list_lines : List ListDecl → Table → State → List ℕ
list_lines [] shown state = []
list_lines (d ∷ lists) [] state = []
list_lines (d ∷ lists) (values ∷ shown) [] = []
list_lines (d ∷ lists) (values ∷ shown) (own ∷ state) =
    codes "list " ++ d.name ++ codes " " ++ spelled_list values ++ line_feed ++ held_line d.name own
    ++ list_lines lists shown state

-- the order, what each entry answered and told, and what each list shows at the end
abbrev pub report : Plan → List Actor → List ℕ
report p order =
    codes "order " ++ spelled_order order ++ line_feed
    ++ entry_lines p 0 order (run p order).replies (run p order).told
    ++ list_lines p.lists (table_of (run p order).state) (run p order).state
