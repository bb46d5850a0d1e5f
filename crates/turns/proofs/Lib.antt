pub mod Certified
pub mod Commits
pub mod Counted
pub mod Ending
pub mod Forwards
pub mod Judged
pub mod Proposed
