-- What contracts cite of lists in order.
pub mod Sort
pub mod Order
pub mod Found
pub mod First
pub mod Running
pub mod Best
