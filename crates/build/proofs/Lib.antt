-- The laws that the calls rest on.
pub mod Offers
pub mod Room
pub mod Calls
pub mod Passed
pub mod Theorems
pub mod Table
