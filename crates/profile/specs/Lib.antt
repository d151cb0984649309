-- What the contracts of this crate cite: wells and distances, the metrics and their laws, levels, and profiles in an image's bytes.
pub mod Distance
pub mod InTurn
pub mod Metric
pub mod Level
pub mod Bytes
