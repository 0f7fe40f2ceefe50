use Rattle.std.proofs.Common.{◌≡◌, ◌+◌, ◌*◌, ◌^◌, ◌<◌, ◌≤◌, ◌++◌, ℕ, length, take, drop}
use Rattle.spec_sorting.specs.Leads.{undone}
use Rattle.gl_arranged.specs.Sorting.{order_cmp}
use Rattle.gl_classes.specs.Finding.{met_olds, met_news}
use Rattle.gl_classes.proofs.meeting.meet.Given as goal

abbrev pub invariant-loop-index : goal.invariant-loop-index
invariant-loop-index g l = record {
  olds : l.olds ≡ met_olds (order_cmp l.order) (undone l.d.pieces (g.S.Shelf.items l.input)) (g.S.Shelf.items l.input) l.fn.olds (take l.index l.fn.news);
  news : l.news ≡ met_news (order_cmp l.order) (undone l.d.pieces (g.S.Shelf.items l.input)) (g.S.Shelf.items l.input) l.fn.olds (take l.index l.fn.news) ++ drop l.index l.fn.news;
  counted : (digits : ℕ) → length l.fn.olds < 2 ^ digits → l.steps ≤ l.fn.steps + l.index * digits;
}
