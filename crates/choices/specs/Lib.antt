-- What a reader has to believe of this crate: what a choice of orders reaches and when it makes a book well-moded, the patterns reached as they are
-- worked out, and the plan of a book with its image.
pub mod Choice
pub mod Reached
pub mod Plan
