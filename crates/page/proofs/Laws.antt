-- The laws behind the proofs of this crate.
pub mod Answer
pub mod Asking
pub mod Given
