-- The laws of this crate's definitions: `Words` and `Passes` of words and of passes by themselves, `Steps` of the loops in a call, `Passing` of the
-- loops over the subgoals and over the passes.
pub mod Words
pub mod Steps
pub mod Passes
pub mod Passing
