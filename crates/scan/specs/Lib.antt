pub mod Cells
pub mod Fits
pub mod Holdings
pub mod Lines
pub mod Tables
