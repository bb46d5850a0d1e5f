pub mod Asking
pub mod Views
