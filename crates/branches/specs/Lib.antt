pub mod Branches
pub mod SortedRows
pub mod Keys
pub mod Sifting
