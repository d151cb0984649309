-- The laws of lists in order.
pub mod Last
pub mod Insert
pub mod Order
pub mod Places
pub mod Placed
pub mod Sorted
pub mod Permuted
pub mod Shift
pub mod First
pub mod Ranks
pub mod Fields
pub mod Running
