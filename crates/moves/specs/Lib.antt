pub mod Comparing
pub mod Refusing
pub mod Verdict
