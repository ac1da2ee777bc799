pub mod Bounds
pub mod Kept
pub mod Allperm
pub mod Prune
pub mod Demand2
pub mod Rows
pub mod Narrowed
pub mod Pruning
