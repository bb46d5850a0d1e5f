pub mod Drafts
pub mod Sending
pub mod Laying
