-- The laws of this crate's definitions, for its own proofs.
pub mod Decimal
pub mod Lines
pub mod Images
pub mod Printed
