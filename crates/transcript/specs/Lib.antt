pub mod Fields
pub mod Lines
pub mod Commands
pub mod Answers
pub mod Starts
pub mod Runs
