pub mod Appending
pub mod Written
pub mod Laying
pub mod Lending
