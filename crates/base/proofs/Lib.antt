pub mod Wrote
pub mod Distinct
pub mod Back
pub mod Pages
