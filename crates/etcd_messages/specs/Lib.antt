pub mod Answers
pub mod Faults
pub mod Keys
pub mod Requests
pub mod Stated
pub mod Visible
