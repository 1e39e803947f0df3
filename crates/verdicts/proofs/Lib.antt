pub mod Meeting
pub mod Following
