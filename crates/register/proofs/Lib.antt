pub mod PlaceSteps
pub mod ClientSteps
pub mod AskSteps
pub mod OpenSteps
pub mod CountSteps
pub mod SoughtSteps
