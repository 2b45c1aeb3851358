pub mod Minimals
pub mod Runs
pub mod Samples
