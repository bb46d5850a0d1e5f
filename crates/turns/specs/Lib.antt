pub mod Plans
pub mod Views
