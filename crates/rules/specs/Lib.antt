pub mod Order
pub mod Pages
pub mod Laws
