-- The laws of contents and of the bytes that hold them, and of adding and filing.
pub mod Records
pub mod Blocks
pub mod Numbers
pub mod Same
pub mod Bytes
pub mod Front
pub mod Taker
pub mod Added
pub mod Levels
pub mod Accepted
pub mod Started
pub mod Filed
pub mod Filing
