pub mod Lists
pub mod Permutations
pub mod Padded
pub mod Rows
pub mod Columns
pub mod Sums
pub mod Numbered
