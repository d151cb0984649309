-- What the contracts that speak of the tree cite: the published definition, document 01's form of it, and its rule for adding.
pub mod Tree
pub mod Grow
