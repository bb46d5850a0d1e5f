pub mod Locks
pub mod Views
