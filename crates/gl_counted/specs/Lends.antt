-- What a `Counted` ends as, where a `&mut` to one of its items is returned.
use Rattle.std.specs.Prelude.{ℕ}
use Rattle.std.specs.Borrow.{Lends, Fml, RattleType, MutBor}
use Rattle.gl_counted.specs.Counted.{Counted, with_item}
use Rattle.gl_counted.specs.contracts.counted.Counted.{the_row}

-- the list with another item under a handle
abbrev pub with_item_under : {T : Type 0} → Counted T → ℕ → T → Counted T
with_item_under c handle x = record c { entries = with_item c.entries handle x }

module _ (T : RattleType) (c : MutBor (Counted T.Denot)) (handle : ℕ) where
  -- once the borrow r ends, the handle has the last item written through r
  abbrev pub lends_item : MutBor T.Denot → Fml
  lends_item r = Lends (the_row T) T c r (with_item_under c.now handle)
