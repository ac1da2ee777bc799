pub mod DecimalLaws
pub mod LayoutLaws
pub mod HoldingLaws
pub mod RegisterLaws
pub mod LineLaws
pub mod MoveLaws
pub mod LayoutBytes
