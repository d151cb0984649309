-- The laws of a library's records in order of code.
pub mod Order
pub mod Keys
pub mod Profiles
