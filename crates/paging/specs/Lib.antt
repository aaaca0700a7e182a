-- What a reader has to believe of this crate: how the run of a page is judged, and what a page comes to.
pub mod Run
pub mod Page
