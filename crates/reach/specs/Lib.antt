-- What a reader has to believe of this crate: what its functions promise of the patterns they mark. What a choice reaches is defined in the crate
-- `choices`.
pub mod Marked
