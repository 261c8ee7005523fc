pub mod Faults
pub mod Hosts
pub mod Logs
pub mod Messages
pub mod Sessions
