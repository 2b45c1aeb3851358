pub mod Meanings
pub mod Texts
pub mod FirstSteps
pub mod Positions
pub mod Sets
pub mod Scans
pub mod Tables
pub mod Samples
