-- The laws of this crate's definitions, for its own proofs and for those of the crates above.
pub mod Reads
pub mod Calls
pub mod Stores
