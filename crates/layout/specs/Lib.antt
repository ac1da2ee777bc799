pub mod Decimal
pub mod Layout
pub mod Lines
