-- The laws of this crate's definitions.
pub mod Examples
pub mod Numbers
pub mod Renumbered
