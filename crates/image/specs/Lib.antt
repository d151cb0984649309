-- What contracts cite of a library's bytes: numbers, fields, the strains and the tree it holds; refusals, and how a call comes to one.
pub mod Numbers
pub mod Fields
pub mod Strains
pub mod Library
pub mod Refusals
pub mod First
pub mod Verdict
pub mod Faults
pub mod Answer
pub mod Once
