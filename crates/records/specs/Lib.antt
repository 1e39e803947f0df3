pub mod Limits
pub mod Pieces
pub mod Numbers
pub mod Cursors
pub mod Decimals
pub mod Joining
