-- What a reader has to believe of this crate: how a book and its final table are lent to what plans it. What the plan is, is defined in the crate
-- `choices`.
pub mod Lent
