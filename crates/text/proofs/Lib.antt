pub mod Naming
pub mod Splitting
pub mod Decimal
