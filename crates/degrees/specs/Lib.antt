pub mod Chains
pub mod Laws
pub mod Refusals
