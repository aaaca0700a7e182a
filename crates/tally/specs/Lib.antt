-- What a reader has to believe of this crate: what one more query does to a tally, and what a call makes of the tally that it is lent.
pub mod Tallied
