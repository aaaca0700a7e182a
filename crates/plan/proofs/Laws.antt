-- The laws of this crate's definitions and loops.
pub mod Rows
pub mod Lengths
pub mod Planned
