-- The laws of this crate's definitions, for its own proofs and for those of the crates above.
pub mod Marks
pub mod Got
pub mod Trip
pub mod Answer
pub mod Places
pub mod Encode
pub mod Bound
pub mod Longest
pub mod Examples
pub mod Windows
pub mod Words
pub mod Held
pub mod Table
pub mod Sets
