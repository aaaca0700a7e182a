-- The laws of this crate's definitions, for its own proofs and for those of the crates above. A file that has the name of one in `specs/`
-- has the laws of what is defined there.
pub mod Logic
pub mod Lists
pub mod Mask
pub mod Constraint
pub mod Chains
pub mod Lattice
pub mod Set
pub mod Outcome
pub mod Joining
pub mod Examples
pub mod Members
pub mod Loops
pub mod Words
pub mod Patterns
pub mod Sets
pub mod Counts
pub mod Kept
