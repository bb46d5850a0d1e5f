pub mod Pieces
pub mod Outcomes
pub mod Ballots
pub mod Lengths
