pub mod CallLists
pub mod CountSlices
pub mod Machine
pub mod Demand1
pub mod Demand3
pub mod BothCounts
pub mod Holdings
