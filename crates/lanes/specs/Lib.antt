-- What a reader has to believe of this crate: words of 64 lanes, and what its functions promise of them. What a good clause is, is defined in the
-- crate `ordering`.
pub mod Lanes
pub mod Passes
