-- What the contracts of this crate cite besides the library's own definitions.
pub mod Row
