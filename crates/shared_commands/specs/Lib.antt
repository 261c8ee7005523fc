pub mod Answered
pub mod Applied
pub mod Imported
