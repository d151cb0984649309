-- The laws of what is written.
pub mod Stores
pub mod Heads
pub mod Wells
