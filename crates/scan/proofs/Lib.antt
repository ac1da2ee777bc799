pub mod ThreeBytes
pub mod CellLaws
pub mod EntryLaws
pub mod FitLaws
pub mod HeldLaws
pub mod HoldingLaws
pub mod LineLaws
pub mod OrderLaws
