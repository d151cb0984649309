-- What belongs to no one function: signed numbers as two natural numbers, and the laws of wells, distances, levels and profiles in bytes.
pub mod Signs
pub mod Wells
pub mod Distances
pub mod Levels
pub mod Reading
