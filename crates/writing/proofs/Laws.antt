-- The laws of this crate.
pub mod Wrote
pub mod Chunks
pub mod Runs
pub mod Book
