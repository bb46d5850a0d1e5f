pub mod Meaning
pub mod Sip
pub mod Tags
pub mod Made
