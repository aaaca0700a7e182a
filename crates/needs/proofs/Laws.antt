-- The laws of this crate's definitions and of its loops.
pub mod Calls
pub mod Trying
pub mod Rounding
pub mod AtRound
pub mod Settling
pub mod Analysed
