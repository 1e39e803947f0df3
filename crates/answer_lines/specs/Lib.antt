pub mod Lines
pub mod Answered
pub mod Settled
pub mod Refusals
