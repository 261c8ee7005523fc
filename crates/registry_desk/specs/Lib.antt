pub mod Faults
pub mod Acting
pub mod Serving
pub mod Server
pub mod Cache
