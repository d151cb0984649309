-- The laws of a library's bytes, and of the verdicts on it.
pub mod Sizes
pub mod Strains
pub mod Trees
pub mod Tests
pub mod First
pub mod Verdicts
pub mod Faults
pub mod Answers
pub mod Outcomes
pub mod Runs
pub mod Searches
