pub mod Fronts
pub mod Places
pub mod Settling
pub mod Room
pub mod ReadingBack
