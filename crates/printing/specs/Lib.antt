-- What a reader has to believe of this crate: the printed sheet of a book.
pub mod Sheet
