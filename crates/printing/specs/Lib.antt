pub mod Printing
pub mod Endings
pub mod Settled
pub mod Limits
pub mod ReadingBack
