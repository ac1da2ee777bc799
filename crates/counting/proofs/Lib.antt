pub mod PassLaws
pub mod LineLaws
pub mod CountLaws
