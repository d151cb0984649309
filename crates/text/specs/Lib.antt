-- What contracts cite of a library as text.
pub mod Decimal
pub mod Written
pub mod Cursor
pub mod Listing
pub mod Calls
pub mod Table
