-- The laws of this crate's definitions.
pub mod Runs
pub mod Bodies
pub mod Clauses
pub mod Moding
pub mod Whole
pub mod Judged
