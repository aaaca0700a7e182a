-- The laws of this crate's definitions.
pub mod Examples
pub mod Length
