-- The laws. In the proofs of functions, `search (tie.spec, .., needs)` closes each need that is not written out.
pub mod ArrayLaws
pub mod BoolLaws
pub mod InverseLaws
pub mod ListLaws
pub mod NumbersSteps
pub mod PaddedLaws
pub mod PermutationLaws
pub mod PermutationTest
pub mod PositionLaws
pub mod SelectLaws
pub mod Transpositions
pub mod SwapLaws
pub mod SumLaws
