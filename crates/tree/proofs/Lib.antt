-- The laws of the tree.
pub mod Separation
pub mod Root
pub mod Reach
pub mod Forced
pub mod Grow
