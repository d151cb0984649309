-- What is claimed: the three demands, one answer for each call, document 01's cases, and what it is for a program to meet a contract.
pub mod Demand1
pub mod Demand2
pub mod Demand3
pub mod OneAnswer
pub mod Example
pub mod Growing
pub mod Cases
pub mod TheExample
pub mod Programs
