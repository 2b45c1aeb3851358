pub mod Booking
pub mod Serving
