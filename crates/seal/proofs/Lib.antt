pub mod Little
pub mod Absorbing
pub mod Sealings
