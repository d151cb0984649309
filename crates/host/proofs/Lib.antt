-- What the proofs of the calls share, and what the interface promises.
pub mod Answers
pub mod Words
pub mod Fits
pub mod Values
pub mod Readings
