pub mod Rows
pub mod Tables
pub mod Steps
pub mod Columns
