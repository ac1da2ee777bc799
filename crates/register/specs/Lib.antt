pub mod Asked
pub mod Sought
pub mod Spans
pub mod Answers
