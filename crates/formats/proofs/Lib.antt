mod Splitting
mod NameFields
mod Heading
mod Leads
mod Storing
mod Tabling
