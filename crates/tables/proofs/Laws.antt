-- The laws of this crate's definitions, for its own proofs and for those of the crates above.
pub mod Examples
pub mod Sums
pub mod Modes
pub mod Valid
pub mod Own
pub mod Round
pub mod Full
pub mod Rounds
pub mod Image
pub mod Held
pub mod Query
