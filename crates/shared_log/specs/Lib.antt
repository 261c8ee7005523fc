pub mod Calls
pub mod Memory
