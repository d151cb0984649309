-- What the contract of the short call cites, and its table of refusals.
pub mod Short
pub mod Table
