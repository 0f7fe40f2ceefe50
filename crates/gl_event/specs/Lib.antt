pub mod Changes
pub mod Blocks
pub mod Heard
pub mod Replay
pub use Rattle.spec_lists.specs.Changes as ListsChanges
