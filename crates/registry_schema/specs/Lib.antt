pub mod Texts
pub mod Trees
pub mod Schema
pub mod Meta
pub mod Version
pub mod Faults
pub mod Steps
