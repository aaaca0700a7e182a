-- The laws of this crate's definitions, for its own proofs and for those of the crates above. A file that has the name of one in `specs/`
-- has the laws of what is defined there; `Greedy` has those of `Turns`, `Brought` those of `brought` in `Good`, `Bound` those of what is bound in a word, `Steps`, `Run` and `Patterns`
-- those of the code's loops.
pub mod Orders
pub mod Greedy
pub mod Adorn
pub mod Brought
pub mod Good
pub mod Asks
pub mod Steps
pub mod Bound
pub mod Held
pub mod Run
pub mod Patterns
pub mod Examples
