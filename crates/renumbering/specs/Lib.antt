-- What a reader has to believe of this crate: numbers moved down past those that are gone, and what is left of the rows of a plan.
pub mod Left
