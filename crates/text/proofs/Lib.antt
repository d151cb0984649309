-- The laws of a library as text.
pub mod Decimals
pub mod Signs
pub mod Reading
pub mod Ends
pub mod Parts
pub mod Fits
pub mod Writes
pub mod Calls
pub mod Theorems
pub mod Whole
pub mod Answers
pub mod Table
