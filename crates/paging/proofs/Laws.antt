-- The laws of this crate's definitions.
pub mod Examples
pub mod Faults
pub mod Run
pub mod Page
pub mod Longest
