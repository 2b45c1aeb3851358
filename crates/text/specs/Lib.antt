pub mod Refusals
pub mod Lists
pub mod Names
pub mod NameLists
pub mod Stored
pub mod Labelled
pub mod Pieces
pub mod Numbers
