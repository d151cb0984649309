-- What the contracts cite of a library's records in order of code.
pub mod Key
pub mod Ordered
