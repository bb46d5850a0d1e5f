pub mod Calling
pub mod Counting
pub mod Placing
pub mod Viewed
