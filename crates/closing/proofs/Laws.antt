-- The laws of this crate's definitions, for its own proofs and for those of the crates above.
pub mod Examples
pub mod Modes
pub mod Valid
pub mod Final
pub mod Parts
pub mod Refused
pub mod Lacked
pub mod Outcome
pub mod Moding
pub mod Keeping
pub mod Held
