pub mod Giving
pub mod Rows
pub mod Picking
pub mod Keeping
pub mod Draining
pub mod Same
