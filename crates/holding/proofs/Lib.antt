pub mod Changes
pub mod Endings
pub mod Passing
pub mod Sizes
