pub mod Compiling
pub mod Placing
pub mod Queried
