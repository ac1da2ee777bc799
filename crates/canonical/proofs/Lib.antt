pub mod CallLaws
pub mod AgreedLaws
pub mod TerminalCalls
pub mod CallSteps
pub mod CallerSteps
