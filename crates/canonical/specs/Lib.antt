pub mod Represent
pub mod Same
pub mod Programs
pub mod Demand2
pub mod Answers
pub mod Callers
