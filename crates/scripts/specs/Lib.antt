pub mod Runs
pub mod Proofs
pub mod Authoring
pub mod Settled
