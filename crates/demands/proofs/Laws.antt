-- That what is promised holds.
pub mod Examples
pub mod Demands
