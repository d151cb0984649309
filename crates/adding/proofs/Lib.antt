-- The laws that starting, adding and filing rest on.
pub mod Seats
pub mod Puts
pub mod Hangs
pub mod Begins
pub mod Widens
pub mod Grows
pub mod Starts
pub mod ByCode
pub mod Files
