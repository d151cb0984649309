-- What the check's contract cites: the tests, the rules in their order, and the table as a reader says it.
pub mod Tests
pub mod Check
pub mod Table
