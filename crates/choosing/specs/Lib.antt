pub mod Kinds
pub mod Choices
pub mod Chosens
pub mod Readings
