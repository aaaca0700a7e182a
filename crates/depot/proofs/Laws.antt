-- The laws of this crate's definitions.
pub mod Examples
pub mod Kept
pub mod Plan
pub mod Sheet
