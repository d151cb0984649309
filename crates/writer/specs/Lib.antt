-- What contracts cite of bytes that are moved.
pub mod Moved
