pub mod Written
pub mod Runs
pub mod Blaming
pub mod Widening
pub mod Standing
pub mod Answering
pub mod Settling
pub mod Agreeing
