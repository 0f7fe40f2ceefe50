pub use Rattle.gl_sorted.proofs.Rooms as SortedRooms
pub use Rattle.gl_unique.proofs.Rooms as UniqueRooms
pub use Rattle.gl_grouping.proofs.Rooms as GroupingRooms
