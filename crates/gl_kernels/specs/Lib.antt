pub use Rattle.gl_filter.specs.Stands
pub use Rattle.gl_filter.specs.Told
pub use Rattle.gl_range.specs.Kept
pub use Rattle.gl_range.specs.Stands as RangeStands
pub use Rattle.gl_function.specs.Stands as FunctionStands
pub use Rattle.gl_sorted.specs.Stands as SortedStands
pub use Rattle.gl_sorted.specs.Changes as SortedChanges
pub use Rattle.gl_unique.specs.Stands as UniqueStands
pub use Rattle.gl_grouping.specs.Stands as GroupingStands
pub use Rattle.gl_collection.specs.Stands as CollectionStands
pub use Rattle.gl_collection.specs.KernelFault
pub use Rattle.gl_collection.specs.Kept as CollectionKept
