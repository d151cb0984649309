-- The laws of the searches.
pub mod Lists
pub mod Only
pub mod Scans
pub mod Seeking
pub mod Puts
pub mod Reached
pub mod Gathers
pub mod Walked
pub mod Serves
pub mod Outcomes
pub mod Sits
pub mod Weighing
pub mod Theorems
pub mod Table
pub mod Answers
