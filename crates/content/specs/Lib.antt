-- What the contracts that build a library cite: its content, the bytes that hold it, and document 01's rules for adding and for filing.
pub mod Content
pub mod Bytes
pub mod Headed
pub mod Adding
pub mod Filing
