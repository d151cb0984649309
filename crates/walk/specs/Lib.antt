-- What the searches' contracts cite of the walk down a library's tree.
pub mod Forest
pub mod Walk
pub mod Weighed
pub mod Measured
pub mod Links
pub mod LaidOut
pub mod Meeting
