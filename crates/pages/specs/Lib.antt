pub mod Pages
pub mod Of
