-- What a reader has to believe of this crate: the book that comes of closing, what closing any bytes comes to, and what the code does to the modes
-- and clauses that it holds.
pub mod Close
pub mod Held
