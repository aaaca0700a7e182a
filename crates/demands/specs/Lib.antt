-- What this repository promises as a whole.
pub mod Demands
