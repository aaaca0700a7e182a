-- What a reader has to believe of this crate: how a book is lent to what answers a page, and what is promised of the parts.
pub mod Lent
