-- What the contracts of starting, adding and filing cite: the image with a strain more, which records are there and which can take a strain,
-- and what the steps promise each other.
pub mod ImageWith
pub mod Filled
pub mod Near
pub mod Steps
