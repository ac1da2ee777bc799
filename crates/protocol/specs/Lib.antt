pub mod Input
pub mod Commands
pub mod Readings
pub mod Transcript
pub mod Programs
pub mod Demand3
