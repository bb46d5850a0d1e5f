pub mod ByKind
pub mod Compares
pub mod Doing
pub mod Readings
pub mod Refusals
pub mod Verdicts
