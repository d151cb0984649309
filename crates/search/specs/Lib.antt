-- What the contracts of the sitting and of the search within a radius cite.
pub mod Ranked
pub mod Answer
pub mod Rules
pub mod Calls
pub mod Table
pub mod Steps
pub mod Weighing
