-- What a reader has to believe of this crate: how its answers stand for what the crate `book` defines, and what it stores.
pub mod Read
pub mod Stored
