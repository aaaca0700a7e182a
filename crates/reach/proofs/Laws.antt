-- The laws of this crate's definitions and loops.
pub mod Marked
pub mod Marking
pub mod Passing
pub mod Space
pub mod Working
