-- What a reader has to believe of this crate: what its functions promise of sets of predicates and clauses, and of a round. What the tables and the
-- analysis are is defined in the crate `tables`.
pub mod Sets
pub mod Round
