pub mod Lines
pub mod Sound
