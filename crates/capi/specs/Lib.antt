pub mod Queries
pub mod Grades
pub mod Failures
pub mod Asking
pub mod Outcomes
pub mod Lending
