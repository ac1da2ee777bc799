pub mod Search
pub mod Counts
pub mod Blocks
