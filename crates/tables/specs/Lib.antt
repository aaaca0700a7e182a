-- What a reader has to believe of this crate: the tables of a book, its rounds and its final table, and what the analysis comes to.
pub mod Table
pub mod Calls
pub mod Image
