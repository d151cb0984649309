-- What the contracts of the C interface cite besides the library's own definitions, and how a word is read.
pub mod Word
pub mod Doors
pub mod Reading
