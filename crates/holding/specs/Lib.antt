pub mod Views
pub mod Outcome
pub mod Trying
pub mod Locking
pub mod Timing
pub mod Placing
