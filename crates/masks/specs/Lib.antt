-- What a reader has to believe of this crate: the numbers, tests over lists, a mask, a constraint and the two ways of combining it, a set
-- in a word, 64 patterns side by side, the outcome of an operation, and the outcome of the two operations here.
pub mod Limits
pub mod Lists
pub mod Mask
pub mod Constraint
pub mod Set
pub mod Patterns
pub mod Outcome
pub mod Joining
pub mod Unjoined
