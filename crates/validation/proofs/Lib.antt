pub mod BlankLaws
pub mod Question5Laws
