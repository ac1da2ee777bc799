pub mod Bytes
pub mod Head
pub mod Tables
