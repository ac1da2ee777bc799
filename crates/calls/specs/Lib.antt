pub mod Entries
pub mod Calls
pub mod Places
pub mod Valid
