pub mod Lists
pub mod Pool
pub mod Moves
pub mod Runs
pub mod Agreement
pub mod Witness
