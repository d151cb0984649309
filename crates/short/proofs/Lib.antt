-- What the short call's proofs share, and what it promises.
pub mod Turns
pub mod Serves
pub mod Theorems
pub mod Answers
