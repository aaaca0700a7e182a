-- What a reader has to believe of this crate: how the code finds the lines of an image. What the printed sheet is, is defined in the crate `printing`.
pub mod Records
