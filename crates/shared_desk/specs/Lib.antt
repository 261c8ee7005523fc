pub mod Asks
pub mod Refusals
pub mod Answers
pub mod Serving
pub mod Server
pub mod Laws
