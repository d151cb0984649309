-- The laws of the check.
pub mod Marks
pub mod Passed
pub mod Table
pub mod Passes
pub mod Accepted
pub mod Answers
