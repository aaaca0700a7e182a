-- What a reader has to believe of this crate: lines and their fields; digits, numbers and bytes.
pub mod Hex
pub mod Line
