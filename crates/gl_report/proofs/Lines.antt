-- Writing the lines of entries and of lists one after another.
use Rattle.std.proofs.Common.{◌≡◌, ◌∙◌, ℕ, zero, suc, ◌+◌, ◌-◌, ◌<◌, ◌≤◌, ◌++◌, List, [], ◌∷◌, length, get_or, take, drop, ap, sym, arith, append_assoc, append-nil, eq-eqb, refl, subst}
use Rattle.std.specs.Prelude.{unwrap_or, slice_get, codes, Some, None}
use Rattle.std.proofs.lemmas.List.{take_all, length-drop}
use Rattle.gl_outside.specs.declared.gate.Actor.{Actor}
use Rattle.gl_lines.specs.declared.plan.ListDecl.{ListDecl}
use Rattle.gl_lines.specs.declared.plan.ListenerDecl.{ListenerDecl}
use Rattle.gl_lines.specs.declared.reply.Reply.{Reply}
use Rattle.gl_value.specs.Tree.{Tree}
use Rattle.spec_reports.specs.Plan.{Plan}
use Rattle.spec_reports.specs.State.{Own, State, source, over, composite, transaction, freezable, proxy, own_at}
use Rattle.spec_reports.specs.Shown.{Table, shows_in}
use Rattle.spec_reports.specs.Telling.{Telling}
use Rattle.spec_reports.specs.ValueText.{spelled_list}
use Rattle.spec_reports.specs.Report.{line_feed, refused_lines, held_line, told_lines, told_first, told_later, entry_lines, list_lines, listener_name}
use Rattle.spec_reports.specs.Event.{event_text}
use Rattle.gl_world.specs.Telling.{Telling as Told}
use Rattle.gl_world.specs.Told.{telling_data, tellings_of}
use Rattle.gl_world.specs.Holds.{hold_of}
use Rattle.gl_report.specs.Held.{hold_line}
use Rattle.gl_report.specs.Lines.{spelled_entry, list_line, told_line}

-- the line of a list that is held, or of a proxy
held_by : (name : List ℕ) (own : Own) → held_line name own ≡ hold_line name (hold_of own)
held_by name (source contents) = refl
held_by name (over input view) = refl
held_by name (composite needed members) = refl
held_by name (transaction input []) = refl
held_by name (transaction input (level ∷ levels)) = refl
held_by name (freezable input None) = refl
held_by name (freezable input (Some since)) = refl
held_by name (proxy input kept queue) = refl

-- what is written of a list that shows these values and keeps this
abbrev lines_of : List ℕ → List Tree → Own → List ℕ
lines_of name values own = list_line name values ++ hold_line name (hold_of own)

list_step : (lists : List ListDecl) (shown : Table) (state : State) (k : ℕ) (d : ListDecl)
    → k < length lists → length lists ≡ length shown → length lists ≡ length state
    → d ≡ get_or lists k d
    → list_lines (drop k lists) (drop k shown) (drop k state)
    ≡ lines_of d.name (shows_in shown k) (own_at state k)
    ++ list_lines (drop (suc k) lists) (drop (suc k) shown) (drop (suc k) state)
list_step [] shown state k d within same many is = absurd (omega arith)
list_step (e ∷ lists) [] state k d within same many is = absurd (omega arith)
list_step (e ∷ lists) (values ∷ shown) [] k d within same many is = absurd (omega arith)
list_step (e ∷ lists) (values ∷ shown) (own ∷ state) zero d within same many is =
    let rest : List ℕ = list_lines lists shown state in
    ap (λ h. codes "list " ++ e.name ++ codes " " ++ spelled_list values ++ line_feed ++ h ++ rest)
    (held_by e.name own)
    ∙ parted (codes "list ") e.name (codes " ") (spelled_list values) line_feed
    (hold_line e.name (hold_of own)) rest
    ∙ ap (λ x. lines_of x.name values own ++ rest) (sym is)
  where
    parted : (a b c d e h rest : List ℕ)
        → a ++ b ++ c ++ d ++ e ++ h ++ rest ≡ ((a ++ b ++ c ++ d ++ e) ++ h) ++ rest
    parted a b c d e h rest = simp append_assoc refl
list_step (e ∷ lists) (values ∷ shown) (own ∷ state) (suc k) d within same many is =
    list_step lists shown state k d (omega arith) (omega arith) (omega arith) is

-- one list more is written, of those from a place on
pub list_more : (out before : List ℕ) (lists : List ListDecl) (shown : Table) (state : State) (k : ℕ) (d : ListDecl)
    → k < length lists → length lists ≡ length shown → length lists ≡ length state → d ≡ get_or lists k d
    → out ++ list_lines (drop k lists) (drop k shown) (drop k state) ≡ before
    → ((out ++ list_line d.name (shows_in shown k)) ++ hold_line d.name (hold_of (own_at state k)))
    ++ list_lines (drop (k + 1) lists) (drop (k + 1) shown) (drop (k + 1) state)
    ≡ before
list_more out before lists shown state k d within same many is whole =
    let e : k + 1 ≡ suc k = omega arith in
    let rest : List ℕ = list_lines (drop (k + 1) lists) (drop (k + 1) shown) (drop (k + 1) state) in
    let next : list_lines (drop k lists) (drop k shown) (drop k state)
    ≡ lines_of d.name (shows_in shown k) (own_at state k) ++ rest =
    rw e (list_step lists shown state k d within same many is) in
    regrouped out (list_line d.name (shows_in shown k)) (hold_line d.name (hold_of (own_at state k))) rest
    ∙ ap (λ l. out ++ l) (sym next) ∙ whole
  where
    regrouped : (a b c d : List ℕ) → ((a ++ b) ++ c) ++ d ≡ a ++ ((b ++ c) ++ d)
    regrouped a b c d = simp append_assoc refl

-- one write-back more is written, of those that are left
pub refused_more : (out before name : List ℕ) (count k : ℕ) → k < count
    → out ++ refused_lines name (count - k) ≡ before
    → (out ++ refused_lines name 1) ++ refused_lines name (count - (k + 1)) ≡ before
refused_more out before name count k within whole =
    let n : ℕ = count - (k + 1) in
    let left : count - k ≡ suc n = omega arith in
    let one : refused_lines name (suc n) ≡ refused_lines name 1 ++ refused_lines name n =
    parted (codes "refused ") name (codes " write-back") line_feed (refused_lines name n) in
    append_assoc out (refused_lines name 1) (refused_lines name n)
    ∙ ap (λ l. out ++ l) (sym (ap (refused_lines name) left ∙ one)) ∙ whole
  where
    parted : (a b c d rest : List ℕ) → a ++ b ++ c ++ d ++ rest ≡ (a ++ b ++ c ++ d ++ []) ++ rest
    parted a b c d rest = simp (append_assoc, append-nil) refl

-- the line of one write-back that was refused, piece by piece
pub refused_written : (out name : List ℕ)
    → ((out ++ codes "refused ") ++ name) ++ codes " write-back\n" ≡ out ++ refused_lines name 1
refused_written out name = pieces out (codes "refused ") name (codes " write-back") line_feed
  where
    pieces : (out a b c d : List ℕ) → ((out ++ a) ++ b) ++ (c ++ d) ≡ out ++ (a ++ b ++ c ++ d ++ [])
    pieces out a b c d = simp (append_assoc, append-nil) refl

-- none is left
pub refused_all : (out before name : List ℕ) (count k : ℕ) → count ≤ k
    → out ++ refused_lines name (count - k) ≡ before → out ≡ before
refused_all out before name count k past whole =
    let left : count - k ≡ 0 = omega (arith, past) in
    sym (append-nil out) ∙ ap (λ n. out ++ refused_lines name n) (sym left) ∙ whole

entry_step : (p : Plan) (told : List Telling) (order : List Actor) (replies : List (List Reply)) (from k : ℕ) (a : Actor) → k < length order → length replies ≡ length order → a ≡ get_or order k a
    → entry_lines p from (drop k order) (drop k replies) told ≡ spelled_entry p.lists from a (unwrap_or (slice_get replies k) []) ++ told_lines p.listeners (told_first from told) ++ entry_lines p (from + 1) (drop (suc k) order) (drop (suc k) replies) (told_later from told)
entry_step p told [] replies from k a within same is = absurd (omega arith)
entry_step p told (b ∷ order) [] from k a within same is = absurd (omega arith)
entry_step p told (b ∷ order) (rs ∷ replies) from zero a within same is = ap (λ x. spelled_entry p.lists from x rs ++ told_lines p.listeners (told_first from told) ++ entry_lines p (from + 1) order replies (told_later from told)) (sym is)
entry_step p told (b ∷ order) (rs ∷ replies) from (suc k) a within same is = entry_step p told order replies from k a (omega arith) (omega arith) is

-- one entry more is written, of those from a place on, with its tellings
pub entry_more : (p : Plan) (told : List Telling) (out before : List ℕ) (order : List Actor) (replies : List (List Reply)) (k : ℕ) (a : Actor) → k < length order → length replies ≡ length order → a ≡ get_or order k a
    → out ++ entry_lines p k (drop k order) (drop k replies) told ≡ before
    → (out ++ spelled_entry p.lists k a (unwrap_or (slice_get replies k) []) ++ told_lines p.listeners (told_first k told)) ++ entry_lines p (k + 1) (drop (k + 1) order) (drop (k + 1) replies) (told_later k told) ≡ before
entry_more p told out before order replies k a within same is whole =
    let e : k + 1 ≡ suc k = omega arith in
    let entry : List ℕ = spelled_entry p.lists k a (unwrap_or (slice_get replies k) []) in
    let lines : List ℕ = told_lines p.listeners (told_first k told) in
    let rest : List ℕ = entry_lines p (k + 1) (drop (k + 1) order) (drop (k + 1) replies) (told_later k told) in
    let P : ℕ → Type 0 = λ n. entry_lines p k (drop k order) (drop k replies) told ≡ entry ++ lines ++ entry_lines p (k + 1) (drop n order) (drop n replies) (told_later k told) in
    let next : entry_lines p k (drop k order) (drop k replies) told ≡ entry ++ lines ++ rest = subst P (sym e) (entry_step p told order replies k k a within same is) in
    ap (λ l. l ++ rest) (append_assoc out entry lines) ∙ append_assoc out (entry ++ lines) rest ∙ ap (λ l. out ++ l) (sym next) ∙ whole

-- the tellings of a place, one after another
told_here : (listeners : List ListenerDecl) (place : ℕ) (t : Telling) (ts : List Telling) → t.place ≡ place → told_lines listeners (told_first place (t ∷ ts)) ≡ told_line listeners t ++ told_lines listeners (told_first place ts)
told_here listeners place t ts e =
    rw (eq-eqb t.place place e)
    (parted (codes "told ") (listener_name listeners t.listener) (codes " ") (event_text t.delta) line_feed
    (refused_lines (listener_name listeners t.listener) t.write_backs) (told_lines listeners (told_first place ts)))
  where
    parted : (a b c d e f rest : List ℕ) → a ++ b ++ c ++ d ++ e ++ f ++ rest ≡ (a ++ b ++ c ++ d ++ e ++ f) ++ rest
    parted a b c d e f rest = simp append_assoc refl

drop_telling : (ts : List Told) (k : ℕ) (t : Told) → k < length ts → t ≡ get_or ts k t → drop k ts ≡ t ∷ drop (k + 1) ts
drop_telling [] k t within is = absurd (omega (arith, within))
drop_telling (u ∷ ts) zero t within is = ap (λ v. v ∷ ts) (sym is)
drop_telling (u ∷ ts) (suc k) t within is = let e : suc k + 1 ≡ suc (k + 1) = omega arith in rw e (drop_telling ts k t (omega (arith, within)) is)

pub telling_more : (listeners : List ListenerDecl) (out before : List ℕ) (ts : List Told) (k place : ℕ) (t : Told) → k < length ts → t ≡ get_or ts k t → t.place ≡ place
    → out ++ told_lines listeners (told_first place (tellings_of (drop k ts))) ≡ before → (out ++ told_line listeners (telling_data t)) ++ told_lines listeners (told_first place (tellings_of (drop (k + 1) ts))) ≡ before
telling_more listeners out before ts k place t within is here whole =
    append_assoc out (told_line listeners (telling_data t)) _
    ∙ ap (λ l. out ++ l) (sym (ap (λ us. told_lines listeners (told_first place (tellings_of us))) (drop_telling ts k t within is) ∙ told_here listeners place (telling_data t) (tellings_of (drop (k + 1) ts)) here))
    ∙ whole

pub later_more : (ts : List Told) (k place : ℕ) (t : Told) (total : List Telling) → k < length ts → t ≡ get_or ts k t → t.place ≡ place → told_later place (tellings_of (drop k ts)) ≡ total → told_later place (tellings_of (drop (k + 1) ts)) ≡ total
later_more ts k place t total within is here whole =
    let step : told_later place (tellings_of (drop k ts)) ≡ told_later place (tellings_of (drop (k + 1) ts)) = ap (λ us. told_later place (tellings_of us)) (drop_telling ts k t within is) ∙ rw (eq-eqb t.place place here) refl in
    sym step ∙ whole

-- four pieces written one after another
pub four_written : (out a b c d : List ℕ) → (((out ++ a) ++ b) ++ c) ++ d ≡ out ++ (((a ++ b) ++ c) ++ d)
four_written out a b c d = simp append_assoc

-- what is taken of a list after a place, as far as its end, is all that is there
pub take_rest : {X : Type 0} (xs : List X) (n : ℕ) → take (length xs - n) (drop n xs) ≡ drop n xs
take_rest xs n = take_all (length xs - n) (drop n xs) (omega (arith, length-drop n xs))
