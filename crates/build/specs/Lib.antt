-- What the contracts of start, add and filing cite, and the table of refusals for each as a reader says it.
pub mod Rules
pub mod Calls
pub mod Steps
pub mod Table
