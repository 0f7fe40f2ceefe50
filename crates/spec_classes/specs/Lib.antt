pub use Rattle.spec_views.specs.Classes
pub use Rattle.spec_views.specs.Unique
pub use Rattle.spec_views.specs.Grouping
pub mod Meetings
pub mod Slots
pub mod Members
pub mod Told
pub mod Rows
