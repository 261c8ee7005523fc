pub mod Exports
pub mod Imports
pub mod Machines
pub mod Records
