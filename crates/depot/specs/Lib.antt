-- What a reader has to believe of this crate: when a set of predicates is self-contained, and what is left of a book's plan, and of its sheet, when such a
-- set is closed.
pub mod Depot
