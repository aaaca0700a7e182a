-- What a reader has to believe of this crate: what it is to have written some bytes. What the bytes are is defined in the crate `book`.
pub mod Wrote
