-- Small cases of the definitions, worked out.
use Rattle.std.specs.Prelude.{◌≡◌, pos, [], ◌∷◌, Some, None, refl}
use Rattle.spec_value.specs.Tree.{num, items_of}
use Rattle.spec_lang.specs.Matcher.{Matcher, is}
use Rattle.spec_lang.specs.Func.{count}
use Rattle.spec_lang.specs.declared.Bounds.TheVariants.{Tail}
use Rattle.spec_lang.specs.declared.Test.TheVariants.{Gt}
use Rattle.spec_lists.specs.Piece.{kept, updated, deleted, inserted}
use Rattle.gl_lines.specs.declared.plan.Command.TheVariants as c
use Rattle.gl_lines.specs.declared.reply.Reply.TheVariants.{Done, Shown, OutOfRange, TooLong, AlreadyFrozen, NotFrozen, NotOpen}
use Rattle.spec_states.specs.State.{State, source, over, transaction, freezable, proxy, dependency_order}
use Rattle.spec_views.specs.View.{filter, range, function}
use Rattle.spec_states.specs.Shown.{table_of}
use Rattle.spec_states.specs.Wave.{Cause, command, pump, wave, wave_deltas}
use Rattle.spec_states.specs.Step.{step}

abbrev above_one : Matcher
above_one = is [] Gt (num (pos 1))

-- a filter of a range of a source, each declared before what it depends on
abbrev chain : State
chain = over 1 (filter above_one) ∷ over 2 (range (Tail 2 0))
    ∷ source (num (pos 1) ∷ num (pos 2) ∷ num (pos 3) ∷ []) ∷ []

chain_order : dependency_order chain ≡ 2 ∷ 1 ∷ 0 ∷ []
chain_order = refl

chain_shown : table_of chain
    ≡ (num (pos 2) ∷ num (pos 3) ∷ []) ∷ (num (pos 2) ∷ num (pos 3) ∷ [])
    ∷ (num (pos 1) ∷ num (pos 2) ∷ num (pos 3) ∷ []) ∷ []
chain_shown = refl

-- an element after the last moves the range on, and isn't accepted
one_more : (step 9 chain (c.Add 2 (num (pos 0)))).deltas
    ≡ (deleted (num (pos 2)) ∷ kept ∷ [])
    ∷ (deleted (num (pos 2)) ∷ kept ∷ inserted (num (pos 0)) ∷ [])
    ∷ (kept ∷ kept ∷ kept ∷ inserted (num (pos 0)) ∷ []) ∷ []
one_more = refl

-- a source within its limit: two elements more are too many, one goes, and what it shows
abbrev one_row : State
one_row = source (num (pos 1) ∷ []) ∷ []

too_many : (step 2 one_row (c.AddAll 0 (num (pos 2) ∷ num (pos 3) ∷ []))).reply ≡ TooLong 0 3
too_many = refl

fits : (step 2 one_row (c.Add 0 (num (pos 2)))).reply ≡ Done
fits = refl

shows : (step 2 one_row (c.Show 0)).reply ≡ Shown (num (pos 1) ∷ [])
shows = refl

past_the_end : (step 9 one_row (c.Insert 0 2 (num (pos 9)))).reply ≡ OutOfRange 2 1
past_the_end = refl

at_the_end : (step 9 one_row (c.Set 0 1 (num (pos 9)))).reply ≡ OutOfRange 1 1
at_the_end = refl

-- another function updates every element
another : (step 9 (source (items_of (num (pos 7) ∷ []) ∷ []) ∷ over 0 (function (count [])) ∷ [])
    (c.Apply 1 (count (0 ∷ [])))).deltas
    ≡ (kept ∷ []) ∷ (updated (num (pos 1)) (num (pos 0)) ∷ []) ∷ []
another = refl

-- a transaction list over a source: what is edited while it is open it doesn't show, and a rollback takes the source back
abbrev open_once : State
open_once =
    wave (wave (source (num (pos 1) ∷ []) ∷ transaction 0 [] ∷ []) (command (c.Begin 1)))
    (command (c.Set 0 0 (num (pos 9))))

open_once_shows : table_of open_once ≡ (num (pos 9) ∷ []) ∷ (num (pos 1) ∷ []) ∷ []
open_once_shows = refl

taken_back : wave open_once (command (c.Rollback 1))
    ≡ source (num (pos 1) ∷ []) ∷ transaction 0 [] ∷ []
taken_back = refl

taken_back_told : wave_deltas open_once (command (c.Rollback 1))
    ≡ (updated (num (pos 9)) (num (pos 1)) ∷ []) ∷ (kept ∷ []) ∷ []
taken_back_told = refl

-- its commit tells what became of the source since
committed_told : wave_deltas open_once (command (c.Commit 1))
    ≡ (kept ∷ []) ∷ (updated (num (pos 1)) (num (pos 9)) ∷ []) ∷ []
committed_told = refl

-- what an inner level did goes into the outer one
inner : wave (wave (wave open_once (command (c.Begin 1))) (command (c.Add 0 (num (pos 2)))))
    (command (c.Commit 1))
    ≡ source (num (pos 9) ∷ num (pos 2) ∷ [])
    ∷ transaction 0 ((updated (num (pos 1)) (num (pos 9)) ∷ inserted (num (pos 2)) ∷ []) ∷ [])
    ∷ []
inner = refl

no_level : (step 9 (source [] ∷ transaction 0 [] ∷ []) (c.Commit 1)).reply ≡ NotOpen
no_level = refl

-- a frozen list shows what it did, and tells at its thaw what became of its input
abbrev frozen : State
frozen =
    wave (wave (source (num (pos 1) ∷ []) ∷ freezable 0 None ∷ []) (command (c.Freeze 1)))
    (command (c.Add 0 (num (pos 2))))

frozen_shows : table_of frozen ≡ (num (pos 1) ∷ num (pos 2) ∷ []) ∷ (num (pos 1) ∷ []) ∷ []
frozen_shows = refl

thawed_told : wave_deltas frozen (command (c.Thaw 1))
    ≡ (kept ∷ kept ∷ []) ∷ (kept ∷ inserted (num (pos 2)) ∷ []) ∷ []
thawed_told = refl

frozen_again : (step 9 frozen (c.Freeze 1)).reply ≡ AlreadyFrozen
frozen_again = refl

free : (step 9 (source [] ∷ freezable 0 None ∷ []) (c.Thaw 1)).reply ≡ NotFrozen
free = refl

-- a pump takes the first delta of the queue
one_pumped :
    wave (source (num (pos 1) ∷ num (pos 2) ∷ [])
    ∷ proxy 0 [] ((inserted (num (pos 1)) ∷ []) ∷ (kept ∷ inserted (num (pos 2)) ∷ []) ∷ [])
    ∷ []) (pump 1)
    ≡ source (num (pos 1) ∷ num (pos 2) ∷ [])
    ∷ proxy 0 (num (pos 1) ∷ []) ((kept ∷ inserted (num (pos 2)) ∷ []) ∷ []) ∷ []
one_pumped = refl
