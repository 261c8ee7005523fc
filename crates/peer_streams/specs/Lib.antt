pub mod Arriving
pub mod Closing
