-- What a reader has to believe of this crate: what reading a book comes to, what the check answers, and what the runs of records store.
pub mod Judged
pub mod Stored
