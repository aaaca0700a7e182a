-- The laws of this crate's definitions.
pub mod Reached
pub mod Moded
pub mod Examples
pub mod Rows
pub mod Plan
