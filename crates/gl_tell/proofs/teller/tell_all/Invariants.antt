use Rattle.std.proofs.Common.{◌≡◌, ◌≤◌, ◌+◌, ◌-◌, ◌++◌, length, drop, vec_capacity}
use Rattle.std.specs.Prelude.{All}
use Rattle.gl_tell.specs.Told.{tellings_of, IsFresh}
use Rattle.gl_tell.specs.Heard.{heard_all, AreOnce}
use Rattle.gl_tell.proofs.teller.tell_all.Given as goal

-- what was told, and what those that are left are told, is the whole
abbrev pub invariant-loop-index : goal.invariant-loop-index
invariant-loop-index l = record {
  told : tellings_of l.told.items ++ heard_all l.listeners l.place l.deltas (drop l.index l.turn)
      ≡ tellings_of l.initial.told.items ++ heard_all l.listeners l.place l.initial.deltas l.turn;
  once : AreOnce (drop l.index l.turn);
  long : length l.deltas ≡ length l.listeners;
  room : length l.told.items + (length l.turn - l.index) ≤ vec_capacity l.told;
  capacity : vec_capacity l.told ≡ vec_capacity l.initial.told;
  fresh : All IsFresh l.initial.told.items → All IsFresh l.told.items;
}
