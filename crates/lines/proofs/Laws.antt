-- The laws of this crate's definitions.
pub mod Hex
pub mod Line
