-- The laws of the walk.
pub mod Places
pub mod Passing
pub mod Offered
pub mod Walks
pub mod Traces
pub mod Going
pub mod Descent
pub mod Children
pub mod Siblings
pub mod Counting
pub mod Forests
pub mod Measured
pub mod Chains
pub mod Lays
pub mod Steps
